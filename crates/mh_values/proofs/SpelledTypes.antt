-- What a type that is spelled by the grammar means among classes.
use Rattle.std.proofs.Common.{◌≡◌, refl, sym, ap, subst, ◌∙◌, zero, suc, ℕ, ◌+◌, ◌-◌, ◌≤◌, ◌==◌, Bool, true, false, ◌||◌, if◌then◌else◌, nat_lt, List, [], ◌∷◌, ◌++◌, length, take, Option, None, Some, Result, Ok, Err, length-append, arith}
use Rattle.std.proofs.lemmas.Bool.{le-leb, or_left, or_right}
use Rattle.std.proofs.Math.Seq.{take-append_seam}
use Rattle.std.specs.Option.{option_map_or}
use Rattle.mh_base.proofs.Inversion.{by_test, none_is_not}
use Rattle.mh_values.specs.declared.class.Class.{Class}
use Rattle.mh_values.specs.declared.class.ClassId.{ClassId}
use Rattle.mh_values.specs.declared.descriptor.DescriptorError.{DescriptorError}
use Rattle.mh_values.specs.declared.descriptor.DescriptorError.TheVariants as descriptor
use Rattle.mh_values.specs.declared.types.Primitive.{Primitive}
use Rattle.mh_values.specs.declared.types.Primitive.TheVariants as primitive
use Rattle.mh_values.specs.declared.types.Comp.{Comp}
use Rattle.mh_values.specs.declared.types.Comp.TheVariants as comp
use Rattle.mh_values.specs.declared.types.Ty.{Ty}
use Rattle.mh_values.specs.declared.types.Ty.TheVariants as ty
use Rattle.mh_values.specs.Array.{item_type}
use Rattle.mh_values.specs.Classes.{class_named}
use Rattle.mh_values.specs.Descriptor.{found_then, primitive_meant, class_meant, element_meant, type_meant}
use Rattle.mh_values.specs.Grammar.{is_base}
use Rattle.mh_values.specs.Primitives.{primitive_named}
use Rattle.mh_values.specs.ReadAs.{is_left_out_element, IsNoType}
use Rattle.mh_values.specs.Spelling.{Element, letter, named, Spelled, element_text, spelled_text, IsElement, IsSpelled}
use Rattle.mh_values.specs.TypeText.{type_text, component_text}
use Rattle.mh_values.proofs.Beginnings.{base_other}
use Rattle.mh_values.proofs.NamedClass.{named_is}
use Rattle.mh_values.proofs.PrimitiveLaws.{named-letter}

-- ---- elements

-- a type by its parts
abbrev spelled : ℕ → Element → Spelled
spelled n e = record { dimensions = n; element = e }

-- what is said of an element after so many dimensions, in the type that begins at a place
abbrev ElementSaid : List Class → ℕ → ℕ → Element → Result Comp DescriptorError → Type 0
ElementSaid classes from n e (Ok c) = element_text e ≡ component_text classes c
ElementSaid classes from n e (Err error) = IsNoType classes from (spelled n e) error

others : (b c d f i j s z : Bool) → (b || c || d || f || i || j || s || z) ≡ true → b ≡ false → c ≡ false → i ≡ false → j ≡ false → s ≡ false → z ≡ false →
    (d || f) ≡ true
others true c d f i j s z good no_b no_c no_i no_j no_s no_z = absurd cc
others false true d f i j s z good no_b no_c no_i no_j no_s no_z = absurd cc
others false false true f i j s z good no_b no_c no_i no_j no_s no_z = refl
others false false false true i j s z good no_b no_c no_i no_j no_s no_z = refl
others false false false false true j s z good no_b no_c no_i no_j no_s no_z = absurd cc
others false false false false false true s z good no_b no_c no_i no_j no_s no_z = absurd cc
others false false false false false false true z good no_b no_c no_i no_j no_s no_z = absurd cc
others false false false false false false false true good no_b no_c no_i no_j no_s no_z = absurd cc
others false false false false false false false false good no_b no_c no_i no_j no_s no_z = good

-- a letter of the grammar that no primitive type has is left out
left_out : (b : ℕ) → is_base b ≡ true → primitive_named b ≡ None → is_left_out_element (letter b) ≡ true
left_out b good none =
    by_test (b == 90) _ _ None none (λ e told. none_is_not primitive.Z (sym told)) (λ no_z told.
    by_test (b == 66) _ _ None told (λ e told. none_is_not primitive.B (sym told)) (λ no_b told.
    by_test (b == 67) _ _ None told (λ e told. none_is_not primitive.C (sym told)) (λ no_c told.
    by_test (b == 83) _ _ None told (λ e told. none_is_not primitive.S (sym told)) (λ no_s told.
    by_test (b == 73) _ _ None told (λ e told. none_is_not primitive.I (sym told)) (λ no_i told.
    by_test (b == 74) _ _ None told (λ e told. none_is_not primitive.J (sym told)) (λ no_j told.
    others (b == 66) (b == 67) (b == 68) (b == 70) (b == 73) (b == 74) (b == 83) (b == 90) good no_b no_c no_i no_j no_s no_z))))))

-- a letter of a primitive type that there is, or one that is left out
letter_by : (classes : List Class) (from n b : ℕ) (o : Option Primitive) → is_base b ≡ true → primitive_named b ≡ o →
    ElementSaid classes from n (letter b) (option_map_or (λ p. Ok (comp.Prim p)) o (Err (descriptor.Unsupported from)))
letter_by classes from n b (Some p) good told = ap (λ c. c ∷ []) (named-letter b p told)
letter_by classes from n b None good told = (refl, or_right (nat_lt 1 n) (is_left_out_element (letter b)) (left_out b good told))

-- a class that a name finds, or a name that no class has
class_by : (classes : List Class) (from n at : ℕ) (name : List ℕ) (o : Option ClassId) → n ≤ 1 → at ≡ from + n + 1 → class_named classes name ≡ o →
    ElementSaid classes from n (named name) (option_map_or (λ c. Ok (comp.Class c)) o (Err (descriptor.NoClass at (length name))))
class_by classes from n at name (Some c) few place found = ap (λ t. 76 ∷ (t ++ 59 ∷ [])) (sym (named_is classes name c found))
class_by classes from n at name None few place found =
    record { name = name; is = refl; few = few; unknown = found; place = place; long = refl }

-- an element at a place
element_said : (classes : List Class) (from n at : ℕ) (e : Element) → IsElement e → n ≤ 1 → at ≡ from + n →
    ElementSaid classes from n e (element_meant classes from at (element_text e))
element_said classes from n at (letter b) good few place =
    subst (ElementSaid classes from n (letter b))
    (sym (ap (λ t. if t then class_meant classes (at + 1) [] else primitive_meant from b) (base_other b 76 good refl)))
    (letter_by classes from n b (primitive_named b) good refl)
element_said classes from n at (named name) good few place =
    let long : length (name ++ 59 ∷ []) - 1 ≡ length name = omega (arith, length-append name (59 ∷ [])) in
    let cut : take (length (name ++ 59 ∷ []) - 1) (name ++ 59 ∷ []) ≡ name = ap (λ k. take k (name ++ 59 ∷ [])) long ∙ take-append_seam name (59 ∷ []) in
    subst (ElementSaid classes from n (named name)) (sym (ap (class_meant classes (at + 1)) cut))
    (class_by classes from n (at + 1) name (class_named classes name) few (omega (arith, place)) refl)

-- ---- types

-- what is said of a type at a place
abbrev pub TypeSaid : List Class → ℕ → Spelled → Result Ty DescriptorError → Type 0
TypeSaid classes from t (Ok s) = spelled_text t ≡ type_text classes s
TypeSaid classes from t (Err error) = IsNoType classes from t error

item_text : (classes : List Class) (c : Comp) → component_text classes c ≡ type_text classes (item_type c)
item_text classes (comp.Prim p) = refl
item_text classes (comp.Class c) = refl

no_array : (classes : List Class) (from : ℕ) (e : Element) (r : Result Comp DescriptorError) → ElementSaid classes from 0 e r →
    TypeSaid classes from (spelled 0 e) (found_then r (λ c. Ok (item_type c)))
no_array classes from e (Ok c) said = said ∙ item_text classes c
no_array classes from e (Err error) said = said

an_array : (classes : List Class) (from : ℕ) (e : Element) (r : Result Comp DescriptorError) → ElementSaid classes from 1 e r →
    TypeSaid classes from (spelled 1 e) (found_then r (λ c. Ok (ty.Array c)))
an_array classes from e (Ok c) said = ap (λ t. 91 ∷ t) said
an_array classes from e (Err error) said = said

alone_said : (classes : List Class) (from : ℕ) (e : Element) → IsElement e → TypeSaid classes from (spelled 0 e) (type_meant classes from (element_text e))
alone_said classes from (letter b) good =
    subst (TypeSaid classes from (spelled 0 (letter b)))
    (sym (ap (λ t. if t then found_then (element_meant classes from (from + 1) []) (λ c. Ok (ty.Array c))
    else found_then (element_meant classes from from (b ∷ [])) (λ c. Ok (item_type c))) (base_other b 91 good refl)))
    (no_array classes from (letter b) _ (element_said classes from 0 from (letter b) good (omega arith) (omega arith)))
alone_said classes from (named name) good =
    no_array classes from (named name) _ (element_said classes from 0 from (named name) good (omega arith) (omega arith))

said_by : (classes : List Class) (from n : ℕ) (e : Element) → IsElement e →
    TypeSaid classes from (spelled n e) (type_meant classes from (spelled_text (spelled n e)))
said_by classes from zero e good = alone_said classes from e good
said_by classes from (suc zero) e good = an_array classes from e _ (element_said classes from 1 (from + 1) e good (omega arith) (omega arith))
said_by classes from (suc (suc m)) e good =
    (refl, or_left (nat_lt 1 (suc (suc m))) (is_left_out_element e) (le-leb 2 (suc (suc m)) (omega arith)))

pub type_said : (classes : List Class) (from : ℕ) (t : Spelled) → IsSpelled t → TypeSaid classes from t (type_meant classes from (spelled_text t))
type_said classes from t good = said_by classes from t.dimensions t.element good.1
