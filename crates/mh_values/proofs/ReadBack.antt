-- The text of a method type means that type.
use Rattle.std.proofs.Common.{◌≡◌, refl, ap, ◌∙◌, ℕ, ◌+◌, ◌-◌, ◌<◌, ◌==◌, false, List, [], ◌∷◌, ◌++◌, length, map, take, Option, None, Some, Ok, slice_get, arith, append_assoc, length-append}
use Rattle.std.specs.List.{flat_map}
use Rattle.std.specs.Option.{option_map_or}
use Rattle.std.proofs.Math.Seq.{take-append_seam}
use Rattle.mh_values.specs.declared.class.Class.{Class}
use Rattle.mh_values.specs.declared.class.ClassId.{ClassId}
use Rattle.mh_values.specs.declared.types.Primitive.{Primitive}
use Rattle.mh_values.specs.declared.types.Comp.{Comp}
use Rattle.mh_values.specs.declared.types.Comp.TheVariants as comp
use Rattle.mh_values.specs.declared.types.Ty.{Ty}
use Rattle.mh_values.specs.declared.types.Ty.TheVariants as ty
use Rattle.mh_values.specs.declared.types.MethodTy.{MethodTy}
use Rattle.mh_values.specs.Classes.{name_of, IsDistinct}
use Rattle.mh_values.specs.declared.descriptor.Place.TheVariants as place
use Rattle.mh_values.specs.Grammar.{first_bad}
use Rattle.mh_values.specs.Primitives.{letter_of}
use Rattle.mh_values.specs.TypeText.{type_text, return_text, method_type_text}
use Rattle.mh_values.specs.Descriptor.{pieces, type_meant, class_meant, types_meant, return_meant, method_meant, method_of, last_of, desc, type_desc, unless_bad}
use Rattle.mh_values.proofs.LastTwo.{all_but_two, the_last}
use Rattle.mh_values.proofs.PrimitiveLaws.{letter-apart, letter-begun, letter-named}
use Rattle.mh_values.proofs.MethodSpelling.{IsWritableType, method-read}
use Rattle.mh_values.proofs.TypePieces.{types-pieces, return-piece}

-- a component whose class is one of the list
abbrev pub IsComponentOf : List Class → Comp → Type 0
IsComponentOf classes (comp.Prim p) = Unit {0}
IsComponentOf classes (comp.Class c) = c.0 < length classes

-- a type whose class is one of the list
abbrev pub IsTypeOf : List Class → Ty → Type 0
IsTypeOf classes (ty.Prim p) = Unit {0}
IsTypeOf classes (ty.Class c) = c.0 < length classes
IsTypeOf classes (ty.Array c) = IsComponentOf classes c

class-means : (classes : List Class) (at : ℕ) (c : ClassId) → IsDistinct classes → c.0 < length classes →
    class_meant classes at (take (length (name_of classes c ++ 59 ∷ []) - 1) (name_of classes c ++ 59 ∷ [])) ≡ Ok (comp.Class c)
class-means classes at c distinct within =
    let name = name_of classes c in
    let long : length (name ++ 59 ∷ []) - 1 ≡ length name = omega (arith, length-append name (59 ∷ [])) in
    let cut : take (length (name ++ 59 ∷ []) - 1) (name ++ 59 ∷ []) ≡ name = ap (λ n. take n (name ++ 59 ∷ [])) long ∙ take-append_seam name (59 ∷ []) in
    ap (class_meant classes at) cut ∙ rw (distinct c within) refl

type-means-letter : (classes : List Class) (at : ℕ) (p : Primitive) → type_meant classes at (letter_of p ∷ []) ≡ Ok (ty.Prim p)
type-means-letter classes at p = rw (letter-apart p 91 refl, letter-apart p 76 refl, letter-named p) refl

-- the text of a type means the type
type-means : (classes : List Class) (at : ℕ) (t : Ty) → IsDistinct classes → IsTypeOf classes t → type_meant classes at (type_text classes t) ≡ Ok t
type-means classes at (ty.Prim p) distinct of = type-means-letter classes at p
type-means classes at (ty.Class c) distinct of = rw (class-means classes (at + 1) c distinct of) refl
type-means classes at (ty.Array (comp.Prim p)) distinct of = rw (letter-apart p 76 refl, letter-named p) refl
type-means classes at (ty.Array (comp.Class c)) distinct of = rw (class-means classes (at + 1 + 1) c distinct of) refl

-- and so does the letter of a primitive type
pub letter-desc : (classes : List Class) (p : Primitive) → type_desc classes (letter_of p ∷ []) ≡ Ok (ty.Prim p)
letter-desc classes p =
    ap (λ s. unless_bad (option_map_or (λ n. first_bad 1 n []) s (Some 0)) (type_meant classes 0 (letter_of p ∷ []))) (letter-begun p place.Last)
    ∙ type-means-letter classes 0 p

-- each type of a list is one of the list of classes
abbrev pub AreTypesOf : List Class → List Ty → Type 0
AreTypesOf classes [] = Unit {0}
AreTypesOf classes (t ∷ ts) = IsTypeOf classes t × AreTypesOf classes ts

types-mean : (classes : List Class) (at : ℕ) (ts : List Ty) → IsDistinct classes → AreTypesOf classes ts →
    types_meant classes at (map (type_text classes) ts) ≡ Ok ts
types-mean classes at [] distinct of = refl
types-mean classes at (t ∷ ts) distinct of =
    rw (type-means classes at t distinct of.0, types-mean classes (at + length (type_text classes t)) ts distinct of.1) refl

no_void : (classes : List Class) (t : Ty) → option_map_or (λ b. b == 86) (slice_get (type_text classes t) 0) false ≡ false
no_void classes (ty.Prim p) = letter-apart p 86 refl
no_void classes (ty.Class c) = refl
no_void classes (ty.Array c) = refl

-- a return type whose class is one of the list
abbrev pub IsReturnOf : List Class → Option Ty → Type 0
IsReturnOf classes None = Unit {0}
IsReturnOf classes (Some t) = IsTypeOf classes t

return-means : (classes : List Class) (at : ℕ) (ret : Option Ty) → IsDistinct classes → IsReturnOf classes ret →
    return_meant classes at (return_text classes ret) ≡ Ok ret
return-means classes at None distinct of = refl
return-means classes at (Some t) distinct of = rw (no_void classes t, type-means classes at t distinct of) refl

-- the text of a method type is read back as that type
pub desc-text : (classes : List Class) (t : MethodTy) → IsDistinct classes → IsWritableType classes t → AreTypesOf classes t.params → IsReturnOf classes t.ret →
    desc classes (method_type_text classes t) ≡ Ok t
desc-text classes t distinct writable params ret =
    let texts = map (type_text classes) t.params in
    let last = return_text classes t.ret in
    let parts = texts ++ (41 ∷ []) ∷ last ∷ [] in
    let cut : pieces false (flat_map (type_text classes) t.params ++ 41 ∷ [] ++ last) ≡ parts =
    ap (pieces false) (append_assoc (flat_map (type_text classes) t.params) (41 ∷ []) last)
    ∙ types-pieces classes t.params (41 ∷ last) writable.params
    ∙ ap (λ ps. texts ++ (41 ∷ []) ∷ ps) (return-piece classes t.ret writable.ret) in
    let end = length (method_type_text classes t) in
    let front : types_meant classes 1 (take (length parts - 2) parts) ≡ Ok t.params =
    ap (types_meant classes 1) (all_but_two texts (41 ∷ []) last) ∙ types-mean classes 1 t.params distinct params in
    let back : return_meant classes (end - length (last_of parts)) (last_of parts) ≡ Ok t.ret =
    ap (λ l. return_meant classes (end - length l) l) (the_last texts (41 ∷ []) last) ∙ return-means classes (end - length last) t.ret distinct ret in
    ap (λ fault. unless_bad fault (method_meant classes (method_type_text classes t))) (method-read classes t writable)
    ∙ ap (method_of classes end) cut
    ∙ rw (front, back) refl
