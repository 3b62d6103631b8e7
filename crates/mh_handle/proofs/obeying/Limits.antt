-- What the limits of a combinator's type tell: few slots, and so few parameters, and a light tree.
use Rattle.std.proofs.Common.{◌≡◌, ℕ, ◌+◌, ◌≤◌, List, [], ◌∷◌, length, Ok, nat_le, codes, arith}
use Rattle.std.proofs.lemmas.Bool.{leb-true}
use Rattle.std.proofs.lemmas.List.Sums.{sum_by-cons}
use Rattle.mh_base.specs.Provided.{provided}
use Rattle.mh_values.specs.declared.types.Primitive.TheVariants as primitive
use Rattle.mh_values.specs.declared.types.Ty.{Ty}
use Rattle.mh_values.specs.declared.types.Ty.TheVariants as ty
use Rattle.mh_values.specs.declared.types.MethodTy.{MethodTy}
use Rattle.mh_values.specs.Class.{internal_error_class}
use Rattle.mh_values.specs.Exception.{saying}
use Rattle.mh_values.specs.Slots.{slots_of, slots_of_all}
use Rattle.mh_tree.specs.Rows.{illegal, limited}
use Rattle.mh_tree.proofs.Provided.{provided-parts}

-- each type takes at least one slot
slots-some : (t : Ty) → 1 ≤ slots_of t
slots-some (ty.Prim primitive.Z) = omega arith
slots-some (ty.Prim primitive.B) = omega arith
slots-some (ty.Prim primitive.C) = omega arith
slots-some (ty.Prim primitive.S) = omega arith
slots-some (ty.Prim primitive.I) = omega arith
slots-some (ty.Prim primitive.J) = omega arith
slots-some (ty.Class c) = omega arith
slots-some (ty.Array c) = omega arith

pub slots-many : (types : List Ty) → length types ≤ slots_of_all types
slots-many [] = omega arith
slots-many (t ∷ types) =
    let all : slots_of_all (t ∷ types) ≡ slots_of t + slots_of_all types = sum_by-cons slots_of t types in
    let one : 1 ≤ slots_of t = slots-some t in
    let rest : length types ≤ slots_of_all types = slots-many types in
    omega (arith, all)

pub limited-low : (word : List ℕ) (weight : ℕ) (t u : MethodTy) → limited word weight t ≡ Ok u → (length t.params ≤ 254) × (weight ≤ 256)
limited-low word weight t u h =
    let heavy = saying internal_error_class (codes "weight") in
    let q = provided-parts (nat_le (slots_of_all t.params) 254) (illegal word) (provided (nat_le weight 256) heavy (Ok t)) u h in
    let r = provided-parts (nat_le weight 256) heavy (Ok t) u q.1 in
    let few : slots_of_all t.params ≤ 254 = leb-true (slots_of_all t.params) 254 q.0 in
    let many : length t.params ≤ slots_of_all t.params = slots-many t.params in
    let light : weight ≤ 256 = leb-true weight 256 r.0 in
    (omega arith, light)
