-- The keys of Spread and Gather fit the bodies of handles, where their rows give a type.
use Rattle.std.proofs.Common.{◌≡◌, refl, sym, subst, ap, ◌∙◌, ℕ, ◌-◌, true, false, not, List, [], ◌∷◌, drop, length, map, Option, Some, Ok, nat_le}
use Rattle.std.proofs.lemmas.Bool.{and_from, and_parts}
use Rattle.std.specs.Prelude.{slice_get, IsTrue}
use Rattle.std.specs.List.{list_all}
use Rattle.std.specs.Option.{option_map, option_map_or}
use Rattle.std.proofs.lemmas.List.{length-map, drop-map}
use Rattle.std.proofs.lemmas.Option.{slice_get-map}
use Rattle.mh_values.specs.declared.class.Class.{Class}
use Rattle.mh_values.specs.declared.types.Comp.{Comp}
use Rattle.mh_values.specs.declared.types.Ty.{Ty}
use Rattle.mh_values.specs.declared.types.Ty.TheVariants as ty
use Rattle.mh_values.specs.declared.types.MethodTy.{MethodTy}
use Rattle.mh_values.specs.Array.{item_type}
use Rattle.mh_values.specs.HasType.{is_type_below}
use Rattle.mh_values.specs.Same.{is_same_type}
use Rattle.mh_values.proofs.SameTypes.{same_type-is}
use Rattle.mh_tree.specs.Rows.{component_of, gather_row, spread_row}
use Rattle.mh_tree.proofs.RowParts.{gather_row-parts, spread_row-parts}
use Rattle.mh_tree.proofs.SoundGather.{last-there}
use Rattle.mh_form.specs.declared.basic.Basic.{Basic}
use Rattle.mh_form.specs.declared.basic.Basic.TheVariants as basic
use Rattle.mh_form.specs.declared.body.FormBody.{FormBody}
use Rattle.mh_form.specs.Erasure.{basic_of}
use Rattle.mh_edit.specs.declared.key.Key.TheVariants as key
use Rattle.mh_edit.specs.Fit.{ends_with, fits, is_basic_at, is_nothing, is_same_basic}
use Rattle.mh_handle.proofs.recipes.Basics.{same_basic-itself}

-- parameters of one type have one basic type
one_basic : (t : Ty) (types : List Ty) → list_all (λ p. is_same_type p t) types ≡ true → list_all (is_same_basic (basic_of t)) (map basic_of types) ≡ true
one_basic t [] h = refl
one_basic t (s ∷ types) h =
    let q = and_parts (is_same_type s t) (list_all (λ p. is_same_type p t) types) h in
    and_from _ _ (ap (λ u. is_same_basic (basic_of t) (basic_of u)) (same_type-is s t q.0) ∙ same_basic-itself (basic_of t)) (one_basic t types q.1)

pub spread-fits :
    (t : MethodTy) (weight : ℕ) (array : Option Ty) (count : ℕ) (c : Comp) (u : MethodTy) (body : FormBody) →
    spread_row t weight array count ≡ Ok u →
    component_of array ≡ Some c →
    is_nothing body ≡ false →
    body.params ≡ map basic_of t.params →
    IsTrue (fits (key.Spread count (basic_of (item_type c))) body)
spread-fits t weight array count c u body row some begun shaped =
    let parts = spread_row-parts t weight array count u row in
    let same : Some parts.0 ≡ Some c = sym parts.1 ∙ some in
    let is : parts.0 ≡ c = cc in
    let last = and_parts (nat_le count (length t.params))
    (list_all (λ p. is_same_type p (item_type parts.0)) (drop (length t.params - count) t.params)) parts.2 in
    let all : list_all (λ p. is_same_type p (item_type c)) (drop (length t.params - count) t.params) ≡ true =
    subst (λ d. list_all (λ p. is_same_type p (item_type d)) (drop (length t.params - count) t.params) ≡ true) is last.1 in
    let b = basic_of (item_type c) in
    let many : length (map basic_of t.params) ≡ length t.params = length-map t.params basic_of in
    let within : nat_le count (length (map basic_of t.params)) ≡ true = ap (nat_le count) many ∙ last.0 in
    let basics : list_all (is_same_basic b) (drop (length (map basic_of t.params) - count) (map basic_of t.params)) ≡ true =
    ap (λ n. list_all (is_same_basic b) (drop (n - count) (map basic_of t.params))) many
    ∙ (ap (list_all (is_same_basic b)) (drop-map basic_of (length t.params - count) t.params) ∙
    one_basic (item_type c) (drop (length t.params - count) t.params) all) in
    let ends : ends_with body.params count b ≡ true = ap (λ ps. ends_with ps count b) shaped ∙ and_from _ _ within basics in
    and_from (not (is_nothing body)) (ends_with body.params count b) (ap not begun) ends

-- what takes an array is a reference
takes_reference : (classes : List Class) (c : Comp) (t : Ty) → is_type_below classes (ty.Array c) t ≡ true → is_same_basic basic.L (basic_of t) ≡ true
takes_reference classes c (ty.Class d) h = refl
takes_reference classes c (ty.Array d) h = refl
takes_reference classes c (ty.Prim p) h = absurd cc

pub gather-fits :
    (classes : List Class) (t : MethodTy) (weight : ℕ) (array : Option Ty) (count : ℕ) (u : MethodTy) (b : Basic) (body : FormBody) →
    gather_row classes t weight array count ≡ Ok u →
    is_nothing body ≡ false →
    body.params ≡ map basic_of t.params →
    IsTrue (fits (key.Gather count b) body)
gather-fits classes t weight array count u b body row begun shaped =
    let parts = gather_row-parts classes t weight array count u row in
    let place = length t.params - 1 in
    let last = last-there classes parts.0 (slice_get t.params place) parts.2 in
    let at : is_basic_at (map basic_of t.params) place basic.L ≡ true =
    ap (λ o. option_map_or (is_same_basic basic.L) o false) (slice_get-map basic_of t.params place ∙ ap (option_map basic_of) last.1)
    ∙ takes_reference classes parts.0 last.0 last.2 in
    let ends : is_basic_at body.params (length body.params - 1) basic.L ≡ true =
    ap (λ ps. is_basic_at ps (length ps - 1) basic.L) shaped ∙ (ap (λ n. is_basic_at (map basic_of t.params) (n - 1) basic.L) (length-map t.params basic_of) ∙
    at) in
    and_from (not (is_nothing body)) (is_basic_at body.params (length body.params - 1) basic.L) (ap not begun) ends
