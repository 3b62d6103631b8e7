-- The tests of equal types, in both directions.
use Rattle.std.proofs.Common.{◌≡◌, refl, ap, ap₂, ◌==◌, true, List, [], ◌∷◌, ◌++◌, Option, Some, None}
use Rattle.std.proofs.lemmas.Bool.{eqb-true, eq-eqb, and_parts, and_from}
use Rattle.mh_values.specs.declared.class.ClassId.{ClassId}
use Rattle.mh_values.specs.declared.types.Comp.{Comp}
use Rattle.mh_values.specs.declared.types.Comp.TheVariants as comp
use Rattle.mh_values.specs.declared.types.Ty.{Ty}
use Rattle.mh_values.specs.declared.types.Ty.TheVariants as ty
use Rattle.mh_values.specs.declared.types.MethodTy.{MethodTy}
use Rattle.mh_values.specs.Class.{class_at}
use Rattle.mh_values.specs.Same.{is_same_component, is_same_type, is_same_return, are_same_types, begins_with_types, is_same_method_type}
use Rattle.mh_values.proofs.PrimitiveLaws.{same_primitive-is, same_primitive-itself}

pub same_class-is : (c d : ClassId) → (c.0 == d.0) ≡ true → c ≡ d
same_class-is c d h = ap class_at (eqb-true c.0 d.0 h)

pub same_component-is : (c d : Comp) → is_same_component c d ≡ true → c ≡ d
same_component-is (comp.Prim p) (comp.Prim q) h = ap comp.Prim (same_primitive-is p q h)
same_component-is (comp.Class c) (comp.Class d) h = ap comp.Class (same_class-is c d h)
same_component-is c d h = absurd cc

pub same_component-itself : (c : Comp) → is_same_component c c ≡ true
same_component-itself (comp.Prim p) = same_primitive-itself p
same_component-itself (comp.Class c) = eq-eqb c.0 c.0 refl

pub same_type-is : (s t : Ty) → is_same_type s t ≡ true → s ≡ t
same_type-is (ty.Prim p) (ty.Prim q) h = ap ty.Prim (same_primitive-is p q h)
same_type-is (ty.Class c) (ty.Class d) h = ap ty.Class (same_class-is c d h)
same_type-is (ty.Array c) (ty.Array d) h = ap ty.Array (same_component-is c d h)
same_type-is s t h = absurd cc

pub same_type-itself : (t : Ty) → is_same_type t t ≡ true
same_type-itself (ty.Prim p) = same_primitive-itself p
same_type-itself (ty.Class c) = eq-eqb c.0 c.0 refl
same_type-itself (ty.Array c) = same_component-itself c

pub same_return-is : (s t : Option Ty) → is_same_return s t ≡ true → s ≡ t
same_return-is None None h = refl
same_return-is (Some s) (Some t) h = ap Some (same_type-is s t h)
same_return-is s t h = absurd cc

pub same_return-itself : (t : Option Ty) → is_same_return t t ≡ true
same_return-itself None = refl
same_return-itself (Some t) = same_type-itself t

pub same_types-is : (ss ts : List Ty) → are_same_types ss ts ≡ true → ss ≡ ts
same_types-is [] [] h = refl
same_types-is (s ∷ ss) (t ∷ ts) h =
    let q = and_parts (is_same_type s t) (are_same_types ss ts) h in
    ap₂ ◌∷◌ (same_type-is s t q.0) (same_types-is ss ts q.1)
same_types-is ss ts h = absurd cc

pub same_types-itself : (ts : List Ty) → are_same_types ts ts ≡ true
same_types-itself [] = refl
same_types-itself (t ∷ ts) = and_from _ _ (same_type-itself t) (same_types-itself ts)

-- a list that begins with others is they and a rest
pub begins_with-rest : (ts ss : List Ty) → begins_with_types ts ss ≡ true → (rest : List Ty) × (ts ≡ ss ++ rest)
begins_with-rest ts [] h = (ts, refl)
begins_with-rest [] (s ∷ ss) h = absurd cc
begins_with-rest (t ∷ ts) (s ∷ ss) h =
    let q = and_parts (is_same_type t s) (begins_with_types ts ss) h in
    let r = begins_with-rest ts ss q.1 in
    (r.0, ap₂ ◌∷◌ (same_type-is t s q.0) r.1)

pub begins_with-append : (ss rest : List Ty) → begins_with_types (ss ++ rest) ss ≡ true
begins_with-append [] rest = refl
begins_with-append (s ∷ ss) rest = and_from _ _ (same_type-itself s) (begins_with-append ss rest)

abbrev pub method_type : List Ty → Option Ty → MethodTy
method_type params ret = record { params = params; ret = ret }

pub same_method_type-is : (s t : MethodTy) → is_same_method_type s t ≡ true → s ≡ t
same_method_type-is s t h =
    let q = and_parts (are_same_types s.params t.params) (is_same_return s.ret t.ret) h in
    ap₂ method_type (same_types-is s.params t.params q.0) (same_return-is s.ret t.ret q.1)

pub same_method_type-itself : (t : MethodTy) → is_same_method_type t t ≡ true
same_method_type-itself t = and_from _ _ (same_types-itself t.params) (same_return-itself t.ret)
