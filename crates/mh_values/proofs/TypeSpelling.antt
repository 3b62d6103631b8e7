-- The text of a type is a type, byte by byte.
use Rattle.std.proofs.Common.{◌≡◌, refl, ap, ◌∙◌, ℕ, ◌+◌, ◌==◌, Bool, true, false, not, ◌&&◌, ◌||◌, List, [], ◌∷◌, ◌++◌, length, Option, Some, codes, length-append, arith, append_assoc}
use Rattle.std.proofs.lemmas.Bool.{and_parts, not-true}
use Rattle.std.specs.List.{list_all}
use Rattle.std.specs.Option.{option_map_or}
use Rattle.mh_values.specs.declared.descriptor.Place.{Place}
use Rattle.mh_values.specs.declared.descriptor.Standing.TheVariants as standing
use Rattle.mh_values.specs.Grammar.{after_type, begun, first_bad, within_name}
use Rattle.mh_values.specs.declared.class.Class.{Class}
use Rattle.mh_values.specs.declared.types.Comp.{Comp}
use Rattle.mh_values.specs.declared.types.Comp.TheVariants as comp
use Rattle.mh_values.specs.declared.types.Ty.{Ty}
use Rattle.mh_values.specs.declared.types.Ty.TheVariants as ty
use Rattle.mh_values.specs.Classes.{name_of}
use Rattle.mh_values.proofs.PrimitiveLaws.{letter-apart, letter-element, letter-begun}
use Rattle.mh_values.specs.TypeText.{type_text, component_text}

-- a byte that may stand in a class name of a descriptor
abbrev pub is_name_byte : ℕ → Bool
is_name_byte b = not (b == 59) && not (b == 46 || b == 91)

-- a name that may stand in a descriptor
abbrev pub is_name : List ℕ → Bool
is_name [] = false
is_name (b ∷ bs) = list_all is_name_byte (b ∷ bs)

-- a byte of a name goes on with the name
goes_on : (p : Place) (has : Bool) (b : ℕ) → is_name_byte b ≡ true → within_name p has b ≡ Some (standing.Name p true)
goes_on p has b h =
    let parts = and_parts _ _ h in
    let ends : (b == 59) ≡ false = not-true _ parts.0 in
    let bad : (b == 46 || b == 91) ≡ false = not-true _ parts.1 in
    rw (ends, bad)

-- after a name and its `;`
name-read : (at : ℕ) (p : Place) (name rest : List ℕ) → list_all is_name_byte name ≡ true → first_bad at (standing.Name p true) (name ++ 59 ∷ rest) ≡ first_bad
    (at + length name + 1) (after_type p) rest
name-read at p [] rest good = ap (λ n. first_bad n (after_type p) rest) (omega arith)
name-read at p (b ∷ bs) rest good =
    let parts = and_parts (is_name_byte b) (list_all is_name_byte bs) good in
    rw (goes_on p true b parts.0) (name-read (at + 1) p bs rest parts.1 ∙ ap (λ n. first_bad n (after_type p) rest) (omega arith))

-- the same from the name's first byte on
pub class-read : (at : ℕ) (p : Place) (name rest : List ℕ) → is_name name ≡ true → first_bad at (standing.Name p false) (name ++ 59 ∷ rest) ≡ first_bad
    (at + length name + 1) (after_type p) rest
class-read at p [] rest good = absurd cc
class-read at p (b ∷ bs) rest good =
    let parts = and_parts (is_name_byte b) (list_all is_name_byte bs) good in
    rw (goes_on p false b parts.0) (name-read (at + 1) p bs rest parts.1 ∙ ap (λ n. first_bad n (after_type p) rest) (omega arith))

-- a component whose class has a name that may stand in a descriptor
abbrev pub is_component_named : List Class → Comp → Bool
is_component_named classes (comp.Prim p) = true
is_component_named classes (comp.Class c) = is_name (name_of classes c)

-- a type whose class has such a name
abbrev pub is_type_named : List Class → Ty → Bool
is_type_named classes (ty.Prim p) = true
is_type_named classes (ty.Class c) = is_name (name_of classes c)
is_type_named classes (ty.Array c) = is_component_named classes c

-- where a text stops that begins with a type
abbrev pub begun_bad : ℕ → Place → List ℕ → Option ℕ
begun_bad at p [] = Some at
begun_bad at p (b ∷ bs) = option_map_or (λ n. first_bad (at + 1) n bs) (begun p b) (Some at)

-- the name of a class and its `;`, in one list
pub class-joined : (name rest : List ℕ) → (codes "L" ++ name ++ codes ";") ++ rest ≡ 76 ∷ (name ++ 59 ∷ rest)
class-joined name rest = ap (λ xs. 76 ∷ xs) (append_assoc name (59 ∷ []) rest)

component-read : (classes : List Class) (at : ℕ) (p : Place) (c : Comp) (rest : List ℕ) → is_component_named classes c ≡ true →
    first_bad at (standing.Dimensions p 1) (component_text classes c ++ rest) ≡ first_bad (at + length (component_text classes c)) (after_type p) rest
component-read classes at p (comp.Prim q) rest good = rw (letter-apart q 91 refl, letter-element q p) refl
component-read classes at p (comp.Class c) rest good =
    ap (first_bad at (standing.Dimensions p 1)) (class-joined (name_of classes c) rest)
    ∙ class-read (at + 1) p (name_of classes c) rest good
    ∙ ap (λ n. first_bad n (after_type p) rest) (omega (arith, length-append (name_of classes c) (59 ∷ [])))

pub type-read : (classes : List Class) (at : ℕ) (p : Place) (t : Ty) (rest : List ℕ) → is_type_named classes t ≡ true →
    begun_bad at p (type_text classes t ++ rest) ≡ first_bad (at + length (type_text classes t)) (after_type p) rest
type-read classes at p (ty.Prim q) rest good = ap (λ s. option_map_or (λ n. first_bad (at + 1) n rest) s (Some at)) (letter-begun q p)
type-read classes at p (ty.Class c) rest good =
    ap (begun_bad at p) (class-joined (name_of classes c) rest)
    ∙ class-read (at + 1) p (name_of classes c) rest good
    ∙ ap (λ n. first_bad n (after_type p) rest) (omega (arith, length-append (name_of classes c) (59 ∷ [])))
type-read classes at p (ty.Array c) rest good =
    component-read classes (at + 1) p c rest good ∙ ap (λ n. first_bad n (after_type p) rest) (omega arith)
