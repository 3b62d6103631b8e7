-- Erasing the type of a value and typing the slot again gives the value, and the other way round.
use Rattle.std.proofs.Common.{◌≡◌, refl, sym, ap, ap₂, subst, ◌∙◌, true, false, if◌then◌else◌, Option, Some, None, List, [], ◌∷◌, map}
use Rattle.std.specs.Option.{option_map_or}
use Rattle.mh_base.proofs.Inversion.{map_some, then_some, if_some}
use Rattle.mh_values.specs.declared.class.Class.{Class}
use Rattle.mh_values.specs.declared.types.Primitive.{Primitive}
use Rattle.mh_values.specs.declared.types.Ty.{Ty}
use Rattle.mh_values.specs.declared.types.Ty.TheVariants as ty
use Rattle.mh_values.specs.declared.value.Value.{Value}
use Rattle.mh_values.specs.declared.value.Value.TheVariants as value
use Rattle.mh_values.specs.HasType.{has_type, HaveTypes}
use Rattle.mh_values.specs.Primitives.{lies_in, number_of, number_as}
use Rattle.mh_form.specs.declared.slot.Slot.{Slot}
use Rattle.mh_form.specs.declared.slot.Slot.TheVariants as slot
use Rattle.mh_form.specs.Erasure.{all_typed, erased, lies_within, number_in, typed, value_and_more, where_typed, whole_in}
use Rattle.mh_form.proofs.NumberSlots.{number-typed, erased-number}

-- ---- references

-- a reference that has a class or is an array is its own slot
class-erased : (classes : List Class) (v : Value) (t : Ty) → has_type classes v t ≡ true → ((p : Primitive) → t ≡ ty.Prim p → ⊥) → erased v ≡ slot.L v
class-erased classes (value.Prim n) (ty.Prim p) h other = absurd (other p refl)
class-erased classes (value.Prim n) (ty.Class c) h other = absurd cc
class-erased classes (value.Prim n) (ty.Array c) h other = absurd cc
class-erased classes (value.Boxed n) t h other = refl
class-erased classes (value.Text s) t h other = refl
class-erased classes (value.Object c k) t h other = refl
class-erased classes (value.Thrown e) t h other = refl
class-erased classes (value.Array c items) t h other = refl
class-erased classes value.Null t h other = refl

-- what is typed has the type, and its erasure is the slot
reference-typed : (classes : List Class) (t : Ty) (u v : Value) → ((p : Primitive) → t ≡ ty.Prim p → ⊥) → where_typed classes t u ≡ Some v →
    (has_type classes v t ≡ true) × (erased v ≡ slot.L u)
reference-typed classes t u v other h =
    let q = if_some (has_type classes u t) u v h in
    subst (λ w. (has_type classes w t ≡ true) × (erased w ≡ slot.L u)) q.1 (q.0, class-erased classes u t q.0 other)

typed-both : (classes : List Class) (t : Ty) (s : Slot) (v : Value) → typed classes t s ≡ Some v → (has_type classes v t ≡ true) × (erased v ≡ s)
typed-both classes (ty.Prim p) s v h = number-typed classes p s v h
typed-both classes (ty.Class c) (slot.I n) v h = absurd cc
typed-both classes (ty.Class c) (slot.J n) v h = absurd cc
typed-both classes (ty.Class c) (slot.L u) v h = reference-typed classes (ty.Class c) u v (λ p e. cc) h
typed-both classes (ty.Array c) (slot.I n) v h = absurd cc
typed-both classes (ty.Array c) (slot.J n) v h = absurd cc
typed-both classes (ty.Array c) (slot.L u) v h = reference-typed classes (ty.Array c) u v (λ p e. cc) h

pub typed-has_type : (classes : List Class) (t : Ty) (s : Slot) (v : Value) → typed classes t s ≡ Some v → has_type classes v t ≡ true
typed-has_type classes t s v h = (typed-both classes t s v h).0

pub typed-erased : (classes : List Class) (t : Ty) (s : Slot) (v : Value) → typed classes t s ≡ Some v → erased v ≡ s
typed-erased classes t s v h = (typed-both classes t s v h).1

-- a slot that is typed lies in the range of the type
pub typed-range : (classes : List Class) (t : Ty) (s : Slot) (v : Value) → typed classes t s ≡ Some v → lies_within t s ≡ true
typed-range classes (ty.Prim p) s v h =
    let made = map_some value.Prim (number_in p s) v h in
    let read = then_some (number_as p) (whole_in p s) made.0 made.1 in
    ap (λ o. option_map_or (lies_in p) o false) read.1 ∙ (if_some (lies_in p read.0) (number_of p read.0) made.0 read.2).0
typed-range classes (ty.Class c) s v h = refl
typed-range classes (ty.Array c) s v h = refl

-- a value of a type is what its erasure is typed as
erased-reference : (classes : List Class) (t : Ty) (v : Value) → has_type classes v t ≡ true → where_typed classes t v ≡ Some v
erased-reference classes t v h = ap (λ b. if b then Some v else None) h

pub erased-typed : (classes : List Class) (t : Ty) (v : Value) → has_type classes v t ≡ true → typed classes t (erased v) ≡ Some v
erased-typed classes (ty.Prim p) (value.Prim n) h = erased-number classes p n h
erased-typed classes (ty.Prim p) (value.Boxed n) h = absurd cc
erased-typed classes (ty.Prim p) (value.Text s) h = absurd cc
erased-typed classes (ty.Prim p) (value.Object c k) h = absurd cc
erased-typed classes (ty.Prim p) (value.Thrown e) h = absurd cc
erased-typed classes (ty.Prim p) (value.Array c items) h = absurd cc
erased-typed classes (ty.Prim p) value.Null h = absurd cc
erased-typed classes (ty.Class c) v h =
    ap (typed classes (ty.Class c)) (class-erased classes v (ty.Class c) h (λ p e. cc)) ∙ erased-reference classes (ty.Class c) v h
erased-typed classes (ty.Array c) v h =
    ap (typed classes (ty.Array c)) (class-erased classes v (ty.Array c) h (λ p e. cc)) ∙ erased-reference classes (ty.Array c) v h

-- the same of lists
pub erased-all_typed : (classes : List Class) (ts : List Ty) (vs : List Value) → HaveTypes classes vs ts → all_typed classes ts (map erased vs) ≡ Some vs
erased-all_typed classes [] [] h = refl
erased-all_typed classes [] (v ∷ vs) h = absurd h
erased-all_typed classes (t ∷ ts) [] h = absurd h
erased-all_typed classes (t ∷ ts) (v ∷ vs) h = ap₂ value_and_more (erased-typed classes t v h.0) (erased-all_typed classes ts vs h.1)

more-parts :
    (o : Option Value) (p : Option (List Value)) (vs : List Value) →
    value_and_more o p ≡ Some vs →
    (w : Value) × (ws : List Value) × (o ≡ Some w) × (p ≡ Some ws) × (vs ≡ w ∷ ws)
more-parts None p vs h = absurd cc
more-parts (Some w) None vs h = absurd cc
more-parts (Some w) (Some ws) vs h = (w, ws, refl, refl, cc)

pub all_typed-have : (classes : List Class) (ts : List Ty) (ss : List Slot) (vs : List Value) → all_typed classes ts ss ≡ Some vs → HaveTypes classes vs ts
all_typed-have classes [] [] vs h = let e : [] ≡ vs = cc in subst (λ u. HaveTypes classes u []) e tt
all_typed-have classes [] (s ∷ ss) vs h = absurd cc
all_typed-have classes (t ∷ ts) [] vs h = absurd cc
all_typed-have classes (t ∷ ts) (s ∷ ss) vs h =
    let q = more-parts (typed classes t s) (all_typed classes ts ss) vs h in
    subst (λ u. HaveTypes classes u (t ∷ ts)) (sym q.4) (typed-has_type classes t s q.0 q.2, all_typed-have classes ts ss q.1 q.3)

pub all_typed-erased : (classes : List Class) (ts : List Ty) (ss : List Slot) (vs : List Value) → all_typed classes ts ss ≡ Some vs → map erased vs ≡ ss
all_typed-erased classes [] [] vs h = let e : [] ≡ vs = cc in ap (map erased) (sym e)
all_typed-erased classes [] (s ∷ ss) vs h = absurd cc
all_typed-erased classes (t ∷ ts) [] vs h = absurd cc
all_typed-erased classes (t ∷ ts) (s ∷ ss) vs h =
    let q = more-parts (typed classes t s) (all_typed classes ts ss) vs h in
    ap (map erased) q.4 ∙ ap₂ (λ (x : Slot) (xs : List Slot). x ∷ xs) (typed-erased classes t s q.0 q.2) (all_typed-erased classes ts ss q.1 q.3)
