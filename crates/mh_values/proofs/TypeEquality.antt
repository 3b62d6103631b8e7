-- What `==` of types and of lists of types tests.
use Rattle.std.proofs.Common.{◌≡◌, refl, sym, ◌∙◌, ap₂, subst, Bool, true, false, ◌&&◌, List, [], ◌∷◌, length, take}
use Rattle.std.specs.Cmp.Lexicographic.{pointwise}
use Rattle.mh_values.specs.declared.types.Primitive.{Primitive}
use Rattle.mh_values.specs.declared.types.Primitive.TheVariants as primitive
use Rattle.mh_values.specs.declared.types.Comp.{Comp}
use Rattle.mh_values.specs.declared.types.Comp.TheVariants as comp
use Rattle.mh_values.specs.declared.types.Ty.{Ty}
use Rattle.mh_values.specs.declared.types.Ty.TheVariants as ty
use Rattle.mh_values.specs.Primitives.{is_same_primitive}
use Rattle.mh_values.specs.Same.{is_same_component, is_same_type, are_same_types, begins_with_types}
use Rattle.mh_values.proofs.SameTypes.{same_type-is, same_type-itself}
use Rattle.mh_values.specs.contracts.types.TyPartialEq.TheImpl as equality

-- of two types of one sort
primitives : (p q : Primitive) → equality.eq-value.it (ty.Prim p) (ty.Prim q) ≡ is_same_primitive p q
primitives primitive.Z primitive.Z = refl
primitives primitive.B primitive.B = refl
primitives primitive.C primitive.C = refl
primitives primitive.S primitive.S = refl
primitives primitive.I primitive.I = refl
primitives primitive.J primitive.J = refl
primitives p q = refl

components : (c d : Comp) → equality.eq-value.it (ty.Array c) (ty.Array d) ≡ is_same_component c d
components (comp.Prim p) (comp.Prim q) = primitives p q
components (comp.Class c) (comp.Class d) = refl
components c d = refl

-- of any two
pub same-eq : (a b : Ty) → equality.eq-value.it a b ≡ is_same_type a b
same-eq (ty.Prim p) (ty.Prim q) = primitives p q
same-eq (ty.Class c) (ty.Class d) = refl
same-eq (ty.Array c) (ty.Array d) = components c d
same-eq a b = refl

-- lists of types, item by item
pub pointwise-types : (E : Ty → Ty → Bool) → ((a b : Ty) → E a b ≡ is_same_type a b) → (ss ts : List Ty) → pointwise E ss ts ≡ are_same_types ss ts
pointwise-types E same [] [] = refl
pointwise-types E same [] (t ∷ ts) = refl
pointwise-types E same (s ∷ ss) [] = refl
pointwise-types E same (s ∷ ss) (t ∷ ts) = ap₂ (λ a b. a && b) (same s t) (pointwise-types E same ss ts)

-- the test is the same either way round
turned : (s t : Ty) → is_same_type s t ≡ is_same_type t s
turned s t = cases (is_same_type s t) (is_same_type t s) refl refl
  where
    cases : (a b : Bool) → is_same_type s t ≡ a → is_same_type t s ≡ b → a ≡ b
    cases true true one other = refl
    cases false false one other = refl
    cases true false one other = sym (subst (λ u. is_same_type u s ≡ true) (same_type-is s t one) (same_type-itself s)) ∙ other
    cases false true one other = sym one ∙ subst (λ u. is_same_type u t ≡ true) (same_type-is t s other) (same_type-itself t)

-- the first types of a list, item by item
pub first-types : (E : Ty → Ty → Bool) → ((a b : Ty) → E a b ≡ is_same_type a b) → (ts front : List Ty) →
    pointwise E front (take (length front) ts) ≡ begins_with_types ts front
first-types E same ts [] = refl
first-types E same [] (s ∷ ss) = refl
first-types E same (t ∷ ts) (s ∷ ss) = ap₂ (λ a b. a && b) (same s t ∙ turned s t) (first-types E same ts ss)
