-- Spreading ends as its type says, where its part does.
use Rattle.std.proofs.Common.{◌≡◌, refl, sym, subst, ◌∙◌, ℕ, ◌+◌, ◌-◌, ◌≤◌, ◌==◌, true, false, Bool, cond, List, [], ◌∷◌, ◌++◌, take, drop, length, map, Option, Some, Ok, nat_le, codes, length-take-le, arith}
use Rattle.std.specs.Prelude.{slice_get}
use Rattle.std.specs.List.{list_all}
use Rattle.std.proofs.lemmas.Bool.{eqb-true, and_parts}
use Rattle.std.proofs.lemmas.List.{length-drop, take_all}
use Rattle.mh_values.specs.declared.class.Class.{Class}
use Rattle.mh_values.specs.declared.types.Comp.{Comp}
use Rattle.mh_values.specs.declared.types.Ty.{Ty}
use Rattle.mh_values.specs.declared.types.Ty.TheVariants as ty
use Rattle.mh_values.specs.declared.types.MethodTy.{MethodTy}
use Rattle.mh_values.specs.declared.value.Cell.{Cell}
use Rattle.mh_values.specs.declared.value.Value.{Value}
use Rattle.mh_values.specs.declared.value.Value.TheVariants as value
use Rattle.mh_values.specs.Array.{value_of_item, spread_values, item_type}
use Rattle.mh_values.specs.Class.{is_subclass, throwable_class, null_pointer_class, illegal_argument_class}
use Rattle.mh_values.specs.Classes.{AreClasses}
use Rattle.mh_values.specs.Computation.{Ran, Gave, Threw, Stuck, raised, found, and_then, spliced}
use Rattle.mh_values.specs.Exception.{bare, saying}
use Rattle.mh_values.specs.HasType.{has_type, HaveTypes, is_component_below, is_item_of, are_items_of, is_array_of}
use Rattle.mh_values.specs.Returns.{Returns}
use Rattle.mh_values.specs.Same.{is_same_type}
use Rattle.mh_values.specs.ValueLimits.{are_few_items}
use Rattle.mh_values.proofs.BelowTypes.{item-below, item-typed, null_pointer-below, illegal_argument-below}
use Rattle.mh_values.proofs.SameTypes.{same_type-is}
use Rattle.mh_tree.specs.Rows.{spread_row}
use Rattle.mh_tree.specs.Meaning.{Done}
use Rattle.mh_tree.specs.Sound.{Body, IsSound}
use Rattle.mh_tree.proofs.RowParts.{spread_row-parts}
use Rattle.mh_tree.proofs.Returning.{returns-after}
use Rattle.mh_tree.proofs.SoundAdapters.{at_most}
use Rattle.mh_tree.proofs.TypedLists.{types-get, types-splice}

-- ---- items

items-typed : (classes : List Class) → AreClasses classes → (c d : Comp) → is_component_below classes c d ≡ true → (items : List Cell) (types : List Ty) →
    are_items_of classes c items ≡ true → list_all (λ t. is_same_type t (item_type d)) types ≡ true → length items ≡ length types →
    HaveTypes classes (map value_of_item items) types
items-typed classes are c d below [] [] h same e = tt
items-typed classes are c d below [] (t ∷ types) h same e = absurd (omega (arith, e))
items-typed classes are c d below (i ∷ items) [] h same e = absurd (omega (arith, e))
items-typed classes are c d below (i ∷ items) (t ∷ types) h same e =
    let q = and_parts (is_item_of classes c i) (are_items_of classes c items) h in
    let r = and_parts (is_same_type t (item_type d)) (list_all (λ t. is_same_type t (item_type d)) types) same in
    let more : length items ≡ length types = omega (arith, e) in (
      subst (λ x. has_type classes (value_of_item i) x ≡ true) (sym (same_type-is t (item_type d) r.0))
          (item-typed classes d i (item-below classes are c d below i q.0)),
      items-typed classes are c d below items types q.1 r.1 more,
    )

-- what an array is spread to: values of these types, or an exception
abbrev pub Spreads : List Class → Ran (List Value) → List Ty → Type 0
Spreads classes (Gave vs calls) types = HaveTypes classes vs types
Spreads classes (Threw e calls) types = is_subclass classes e.class throwable_class ≡ true
Spreads classes Stuck types = ⊥

of_null : (classes : List Class) → AreClasses classes → (b : Bool) (types : List Ty) → (b ≡ true → types ≡ []) →
    Spreads classes (cond b (Gave [] []) (Threw (bare null_pointer_class) [])) types
of_null classes are true types none = subst (HaveTypes classes []) (sym (none refl)) tt
of_null classes are false types none = null_pointer-below classes are

of_items : (classes : List Class) → AreClasses classes → (b : Bool) (vs : List Value) (types : List Ty) → (b ≡ true → HaveTypes classes vs types) →
    Spreads classes (cond b (Gave vs []) (Threw (saying illegal_argument_class (codes "spread")) [])) types
of_items classes are true vs types h = h refl
of_items classes are false vs types h = illegal_argument-below classes are

no_types : (types : List Ty) → length types ≡ 0 → types ≡ []
no_types [] h = refl
no_types (t ∷ types) h = absurd (omega (arith, h))

pub spreads : (classes : List Class) → AreClasses classes → (d : Comp) (count : ℕ) (v : Value) (types : List Ty) → has_type classes v (ty.Array d) ≡ true →
    list_all (λ t. is_same_type t (item_type d)) types ≡ true → length types ≡ count → Spreads classes (spread_values count v) types
spreads classes are d count value.Null types typed same e =
    of_null classes are (count == 0) types (λ zero_count. no_types types (e ∙ eqb-true count 0 zero_count))
spreads classes are d count (value.Array c items) types typed same e =
    let q = and_parts (is_component_below classes c d) (is_array_of classes c items) typed in
    let own = and_parts (are_few_items items) (are_items_of classes c items) q.1 in
    of_items classes are (length items == count) (map value_of_item items) types (λ of_count.
    items-typed classes are c d q.0 items types own.1 same (eqb-true (length items) count of_count ∙ sym e))
spreads classes are d count v types typed same e = absurd cc

spread-then : (classes : List Class) (r : Ran (List Value)) (types : List Ty) (ret : Option Ty) (n : ℕ) (next : List Value → ℕ → Done) → Spreads classes r types
    → ((vs : List Value) (k : ℕ) → HaveTypes classes vs types → Returns classes (next vs k) ret) → Returns classes (and_then r n next) ret
spread-then classes (Gave vs calls) types ret n next h more = returns-after classes calls (next vs (raised n calls)) ret (more vs (raised n calls) h)
spread-then classes (Threw e calls) types ret n next h more = h
spread-then classes Stuck types ret n next h more = absurd h

-- ---- places

put_at : (front back : List Ty) (t : Ty) → slice_get (front ++ t ∷ back) (length front) ≡ Some t
put_at [] back t = refl
put_at (s ∷ front) back t = put_at front back t

pub spliced_at : (types : List Ty) (place taken : ℕ) (t : Ty) → place ≤ length types → slice_get (spliced place taken (t ∷ []) types) place ≡ Some t
spliced_at types place taken t low =
    let e : length (take place types) ≡ place = length-take-le place types low in
    subst (λ m. slice_get (take place types ++ (t ∷ drop (place + taken) types)) m ≡ Some t) e (put_at (take place types) (drop (place + taken) types) t)

pub spread-sound : (classes : List Class) → AreClasses classes → (body : Body) (t : MethodTy) (weight : ℕ) (array : Option Ty) (count : ℕ) (u : MethodTy) →
    IsSound classes body t → spread_row t weight array count ≡ Ok u →
    IsSound classes (λ args n. found (slice_get args (length t.params - count)) (λ v. and_then (spread_values count v) n
    (λ items k. body (spliced (length t.params - count) 1 items args) k))) u
spread-sound classes are body t weight array count u sound typed args n have =
    let q = spread_row-parts t weight array count u typed in
    let place = length t.params - count in
    let last = and_parts (nat_le count (length t.params)) (list_all (λ p. is_same_type p (item_type q.0)) (drop place t.params)) q.2 in
    let low : place ≤ length t.params = omega arith in
    let within : count ≤ length t.params = at_most count (length t.params) last.0 in
    let have' : HaveTypes classes args (spliced place count (ty.Array q.0 ∷ []) t.params) = subst (λ (m : MethodTy). HaveTypes classes args m.params) q.3 have
    in
    let v = types-get classes args (spliced place count (ty.Array q.0 ∷ []) t.params) place (ty.Array q.0) have' (spliced_at t.params place count (ty.Array q.0)
    low) in
    let many : length (drop place t.params) ≡ count = omega (arith, length-drop place t.params) in
    let fits : length (drop place t.params) ≤ count = omega (arith, many) in
    let all : take count (drop place t.params) ≡ drop place t.params = take_all count (drop place t.params) fits in
    let run : List Value → ℕ → Done = λ items k. body (spliced place 1 items args) k in
    let done : Returns classes (and_then (spread_values count v.0) n run) t.ret =
    spread-then classes (spread_values count v.0) (drop place t.params) t.ret n run
    (spreads classes are q.0 count v.0 (drop place t.params) v.2 last.1 many) (λ items k given.
    sound (spliced place 1 items args) k
    (types-splice classes args items t.params (ty.Array q.0 ∷ []) place count low have' (subst (HaveTypes classes items) (sym all) given))) in
    let there = subst (λ o. Returns classes (found o (λ x. and_then (spread_values count x) n run)) t.ret) (sym v.1) done in
    subst (λ (m : MethodTy). Returns classes (found (slice_get args place) (λ x. and_then (spread_values count x) n run)) m.ret) (sym q.3) there
