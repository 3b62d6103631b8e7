-- What the keys of Gather and Spread make of a body takes what the new type says, with types erased.
use Rattle.std.proofs.Common.{◌≡◌, refl, sym, ap, ap₂, ◌∙◌, ℕ, zero, suc, ◌-◌, List, [], ◌∷◌, length, map, replicate, Option, Some, Ok}
use Rattle.std.proofs.lemmas.List.{length-map}
use Rattle.mh_values.specs.declared.class.Class.{Class}
use Rattle.mh_values.specs.declared.types.Comp.{Comp}
use Rattle.mh_values.specs.declared.types.Ty.{Ty}
use Rattle.mh_values.specs.declared.types.Ty.TheVariants as ty
use Rattle.mh_values.specs.declared.types.MethodTy.{MethodTy}
use Rattle.mh_values.specs.Array.{item_type}
use Rattle.mh_values.specs.Computation.{spliced}
use Rattle.mh_tree.specs.Rows.{component_of, gather_row, spread_row, taking}
use Rattle.mh_tree.proofs.RowParts.{gather_row-parts, spread_row-parts}
use Rattle.mh_form.specs.declared.basic.Basic.TheVariants as basic
use Rattle.mh_form.specs.declared.body.FormBody.{FormBody}
use Rattle.mh_form.specs.Erasure.{basic_of}
use Rattle.mh_edit.specs.declared.key.Key.TheVariants as key
use Rattle.mh_edit.specs.Applied.{applied}
use Rattle.mh_handle.specs.Stands.{HasShape}
use Rattle.mh_handle.proofs.standing.Erasing.{spliced-map}

map-replicate : {A B : Type 0} (f : A → B) (n : ℕ) (a : A) → map f (replicate n a) ≡ replicate n (f a)
map-replicate f zero a = refl
map-replicate f (suc n) a = ap (λ ys. f a ∷ ys) (map-replicate f n a)

pub gather-shaped :
    (classes : List Class) (t : MethodTy) (weight : ℕ) (array : Option Ty) (count : ℕ) (c : Comp) (u : MethodTy) (body : FormBody) →
    gather_row classes t weight array count ≡ Ok u →
    component_of array ≡ Some c →
    HasShape body t →
    HasShape (applied (key.Gather count (basic_of (item_type c))) body) u
gather-shaped classes t weight array count c u body row some shaped =
    let parts = gather_row-parts classes t weight array count u row in
    let same : Some parts.0 ≡ Some c = sym parts.1 ∙ some in
    let is : parts.0 ≡ c = cc in
    let place = length t.params - 1 in
    let items = replicate count (item_type c) in
    let made : u ≡ taking (spliced place 1 items t.params) t = parts.3 ∙ ap (λ d. taking (spliced place 1 (replicate count (item_type d)) t.params) t) is in
    let arity : length body.params ≡ length t.params = ap length shaped ∙ length-map t.params basic_of in
    ap₂ (λ k ps. spliced (k - 1) 1 (replicate count (basic_of (item_type c))) ps) arity shaped
    ∙ (ap (λ bs. spliced place 1 bs (map basic_of t.params)) (sym (map-replicate basic_of count (item_type c)))
    ∙ (sym (spliced-map basic_of place 1 items t.params) ∙ ap (λ (m : MethodTy). map basic_of m.params) (sym made)))

pub spread-shaped :
    (t : MethodTy) (weight : ℕ) (array : Option Ty) (count : ℕ) (c : Comp) (u : MethodTy) (body : FormBody) →
    spread_row t weight array count ≡ Ok u →
    component_of array ≡ Some c →
    HasShape body t →
    HasShape (applied (key.Spread count (basic_of (item_type c))) body) u
spread-shaped t weight array count c u body row some shaped =
    let parts = spread_row-parts t weight array count u row in
    let same : Some parts.0 ≡ Some c = sym parts.1 ∙ some in
    let is : parts.0 ≡ c = cc in
    let place = length t.params - count in
    let made : u ≡ taking (spliced place count (ty.Array c ∷ []) t.params) t =
    parts.3 ∙ ap (λ d. taking (spliced place count (ty.Array d ∷ []) t.params) t) is in
    let arity : length body.params ≡ length t.params = ap length shaped ∙ length-map t.params basic_of in
    ap₂ (λ k ps. spliced (k - count) count (basic.L ∷ []) ps) arity shaped
    ∙ (sym (spliced-map basic_of place count (ty.Array c ∷ []) t.params) ∙ ap (λ (m : MethodTy). map basic_of m.params) (sym made))
