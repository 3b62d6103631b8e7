-- The Dynamic entries that a class's bootstrap methods are given are the class's own: each has its number among them.
use Rattle.std.proofs.Common.{◌≡◌, refl, sym, ap, subst, ◌∙◌, ℕ, zero, suc, ◌+◌, ◌<◌, List, [], ◌∷◌, ◌++◌, map, length, Option, Some, None, arith}
use Rattle.std.specs.Prelude.{option_map, slice_get, slice_index_or, unwrap_or}
use Rattle.std.proofs.lemmas.Option.{slice_get-map, slice_get_within}
use Rattle.mh_class_pool.specs.declared.entry.Entry.TheVariants as entries
use Rattle.mh_class_pool.specs.Entries.{Slot, dynamic_at, dynamics, dynamics_from, slot}
use Rattle.mh_classfile.specs.declared.constant.Constant.{Constant}
use Rattle.mh_classfile.specs.declared.constant.Constant.TheVariants as constants
use Rattle.mh_classfile.specs.declared.constant.DynamicView.{DynamicView}
use Rattle.mh_classfile.specs.declared.site.Site.{Site}
use Rattle.mh_classfile.specs.Class.{Bootstrap, HasDynamics, argument, bootstrap_of, class_of, constant_of, dynamic_view, number_of}
use Rattle.mh_classfile.specs.Rows.{Row}
use Rattle.mh_classfile.proofs.Numbers.{number_of_place}

-- ---- the indexes of a pool

later-one : (xs ys : List ℕ) (e j : ℕ) → slice_get ys e ≡ Some j → (f : ℕ) × (slice_get (xs ++ ys) f ≡ Some j)
later-one [] ys e j h = (e, h)
later-one (x ∷ xs) ys e j h = let more = later-one xs ys e j h in (suc more.0, more.1)

-- the index of a Dynamic entry is among those of the pool
among : (i : ℕ) (slots : List Slot) (k at b n : ℕ) → slice_index_or slots k None ≡ Some (at, entries.Dynamic b n) →
    (e : ℕ) × (slice_get (dynamics_from i slots) e ≡ Some (i + k))
unfolding dynamics_from
among i [] k at b n h = absurd cc
among i (s ∷ slots) zero at b n h =
    let same : i ≡ i + 0 = omega arith in
    (0, subst (λ (o : Slot). slice_get (dynamic_at i o ++ dynamics_from (i + 1) slots) 0 ≡ Some (i + 0)) (sym h) (ap (λ (j : ℕ). Some j) same))
among i (s ∷ slots) (suc k) at b n h =
    let later = among (i + 1) slots k at b n h in
    let same : i + 1 + k ≡ i + suc k = omega arith in
    later-one (dynamic_at i s) (dynamics_from (i + 1) slots) later.0 (i + suc k) (later.1 ∙ ap (λ (j : ℕ). Some j) same)

-- ---- the constants of a class

-- an item of a list that was made item by item is made of one
made-of : {A B : Type 0} (f : A → B) (xs : List A) (i : ℕ) (y : B) → slice_get (map f xs) i ≡ Some y → (x : A) × (f x ≡ y)
made-of f [] i y h = absurd cc
made-of f (x ∷ xs) zero y h = (x, cc)
made-of f (x ∷ xs) (suc i) y h = made-of f xs i y h

index-is : (pool : List Slot) (k : ℕ) (d : DynamicView) → dynamic_view pool k ≡ d → d.index ≡ k
index-is pool k d h = sym (ap (λ (v : DynamicView). v.index) h)

-- a constant that is a Dynamic entry stands at the entry's index
abbrev IsDynamicAt : ℕ → Slot → DynamicView → Type 0
IsDynamicAt k o d = (at : ℕ) × (b : ℕ) × (n : ℕ) × (o ≡ Some (at, entries.Dynamic b n)) × (d.index ≡ k)

dynamic-at : (pool : List Slot) (k : ℕ) (o : Slot) (d : DynamicView) → unwrap_or (constant_of pool k o) constants.Other ≡ constants.Dynamic d →
    IsDynamicAt k o d
dynamic-at pool k None d h = absurd cc
dynamic-at pool k (Some (at, entries.Utf8 t)) d h = absurd cc
dynamic-at pool k (Some (at, entries.Integer n)) d h = absurd cc
dynamic-at pool k (Some (at, entries.Float)) d h = absurd cc
dynamic-at pool k (Some (at, entries.Long high low)) d h = absurd cc
dynamic-at pool k (Some (at, entries.Double)) d h = absurd cc
dynamic-at pool k (Some (at, entries.Class n)) d h = absurd cc
dynamic-at pool k (Some (at, entries.Str n)) d h = absurd cc
dynamic-at pool k (Some (at, entries.Fieldref c n)) d h = absurd cc
dynamic-at pool k (Some (at, entries.Methodref c n)) d h = absurd cc
dynamic-at pool k (Some (at, entries.InterfaceMethodref c n)) d h = absurd cc
dynamic-at pool k (Some (at, entries.NameAndType n t)) d h = absurd cc
dynamic-at pool k (Some (at, entries.MethodHandle kind r)) d h = absurd cc
dynamic-at pool k (Some (at, entries.MethodType n)) d h = absurd cc
dynamic-at pool k (Some (at, entries.Dynamic b n)) d h = let same : dynamic_view pool k ≡ d = cc in (at, b, n, refl, index-is pool k d same)
dynamic-at pool k (Some (at, entries.InvokeDynamic b n)) d h = absurd cc
dynamic-at pool k (Some (at, entries.Module n)) d h = absurd cc
dynamic-at pool k (Some (at, entries.Package n)) d h = absurd cc

-- an entry of the pool at this index is one of the class's
numbered : (pool : List Slot) (sites : List Site) (rows : List Row) (k e : ℕ) → slice_get (dynamics pool) e ≡ Some k →
    number_of (class_of pool sites rows) k < length (class_of pool sites rows).dynamics
numbered pool sites rows k e at =
    let ds : List DynamicView = (class_of pool sites rows).dynamics in
    let viewed : slice_get ds e ≡ Some (dynamic_view pool k) =
    slice_get-map (dynamic_view pool) (dynamics pool) e ∙ ap (λ (o : Option ℕ). option_map (dynamic_view pool) o) at in
    subst (λ (n : ℕ). n < length ds) (sym (number_of_place pool sites rows e (dynamic_view pool k) viewed))
    (slice_get_within ds e (dynamic_view pool k) viewed)

pub have-dynamics : (pool : List Slot) (sites : List Site) (rows : List Row) → HasDynamics (class_of pool sites rows)
have-dynamics pool sites rows j b i d there given =
    let row = made-of (bootstrap_of pool) rows j b there in
    let arguments : b.arguments ≡ map (argument pool) row.0.arguments = ap (λ (c : Bootstrap). c.arguments) (sym row.1) in
    let index = made-of (argument pool) row.0.arguments i (constants.Dynamic d)
    (ap (λ (cs : List Constant). slice_get cs i) (sym arguments) ∙ given) in
    let is = dynamic-at pool index.0 (slot pool index.0) d index.1 in
    let place = among 0 pool index.0 is.0 is.1 is.2 is.3 in
    let same : 0 + index.0 ≡ index.0 = omega arith in
    subst (λ (k : ℕ). number_of (class_of pool sites rows) k < length (class_of pool sites rows).dynamics) (sym is.4)
    (numbered pool sites rows index.0 place.0 (place.1 ∙ ap (λ (k : ℕ). Some k) same))
