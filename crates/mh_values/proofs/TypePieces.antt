-- Each type is one piece of the text of a method type.
use Rattle.std.proofs.Common.{◌≡◌, refl, sym, ap, ◌∙◌, ℕ, ◌+◌, ◌-◌, ◌==◌, true, false, List, [], ◌∷◌, ◌++◌, map, Option, None, Some, codes, append_assoc}
use Rattle.std.proofs.lemmas.Bool.{and_parts, not-true}
use Rattle.std.specs.List.{list_all, flat_map}
use Rattle.std.proofs.lemmas.List.{append-nil}
use Rattle.mh_values.specs.declared.class.Class.{Class}
use Rattle.mh_values.specs.declared.types.Primitive.{Primitive}
use Rattle.mh_values.specs.declared.types.Comp.{Comp}
use Rattle.mh_values.specs.declared.types.Comp.TheVariants as comp
use Rattle.mh_values.specs.declared.types.Ty.{Ty}
use Rattle.mh_values.specs.declared.types.Ty.TheVariants as ty
use Rattle.mh_values.specs.Classes.{name_of}
use Rattle.mh_values.specs.Primitives.{letter_of}
use Rattle.mh_values.specs.TypeText.{type_text, component_text, return_text}
use Rattle.mh_values.specs.Descriptor.{pieces}
use Rattle.mh_values.proofs.PrimitiveLaws.{letter-apart}
use Rattle.mh_values.proofs.TypeSpelling.{is_name, is_name_byte, is_type_named, is_component_named, class-joined}
use Rattle.mh_values.proofs.MethodSpelling.{is_return_named}

-- a name and its `;` are one piece
name-piece : (name rest : List ℕ) → list_all is_name_byte name ≡ true → pieces true (name ++ 59 ∷ rest) ≡ (name ++ 59 ∷ []) ∷ pieces false rest
name-piece [] rest good = refl
name-piece (b ∷ bs) rest good =
    let parts = and_parts (is_name_byte b) (list_all is_name_byte bs) good in
    let inside : (b == 59) ≡ false = not-true _ (and_parts _ _ parts.0).0 in
    rw (inside, name-piece bs rest parts.1) refl

-- a name that may stand in a descriptor has such bytes alone
name-bytes : (name : List ℕ) → is_name name ≡ true → list_all is_name_byte name ≡ true
name-bytes [] good = absurd cc
name-bytes (b ∷ bs) good = good

class-piece : (name rest : List ℕ) → is_name name ≡ true → pieces false ((codes "L" ++ name ++ codes ";") ++ rest) ≡ (codes "L" ++ name ++ codes ";") ∷ pieces
    false rest
class-piece name rest good =
    ap (pieces false) (class-joined name rest) ∙ rw (name-piece name rest (name-bytes name good)) refl

-- a letter is one piece
letter-piece : (p : Primitive) (rest : List ℕ) → pieces false (letter_of p ∷ rest) ≡ (letter_of p ∷ []) ∷ pieces false rest
letter-piece p rest = rw (letter-apart p 91 refl, letter-apart p 76 refl) refl

component-piece : (classes : List Class) (c : Comp) (rest : List ℕ) → is_component_named classes c ≡ true →
    pieces false (component_text classes c ++ rest) ≡ component_text classes c ∷ pieces false rest
component-piece classes (comp.Prim p) rest good = letter-piece p rest
component-piece classes (comp.Class c) rest good = class-piece (name_of classes c) rest good

-- a type is one piece
type-piece : (classes : List Class) (t : Ty) (rest : List ℕ) → is_type_named classes t ≡ true → pieces false (type_text classes t ++ rest) ≡ type_text classes t
    ∷ pieces false rest
type-piece classes (ty.Prim p) rest good = letter-piece p rest
type-piece classes (ty.Class c) rest good = class-piece (name_of classes c) rest good
type-piece classes (ty.Array c) rest good = rw (component-piece classes c rest good) refl

-- types are as many pieces
pub types-pieces : (classes : List Class) (ts : List Ty) (rest : List ℕ) → list_all (is_type_named classes) ts ≡ true →
    pieces false (flat_map (type_text classes) ts ++ rest) ≡ map (type_text classes) ts ++ pieces false rest
types-pieces classes [] rest good = refl
types-pieces classes (t ∷ ts) rest good =
    let parts = and_parts (is_type_named classes t) (list_all (is_type_named classes) ts) good in
    ap (pieces false) (append_assoc (type_text classes t) (flat_map (type_text classes) ts) rest)
    ∙ type-piece classes t (flat_map (type_text classes) ts ++ rest) parts.0
    ∙ ap (λ ps. type_text classes t ∷ ps) (types-pieces classes ts rest parts.1)

pub return-piece : (classes : List Class) (ret : Option Ty) → is_return_named classes ret ≡ true →
    pieces false (return_text classes ret) ≡ return_text classes ret ∷ []
return-piece classes None good = refl
return-piece classes (Some t) good =
    ap (pieces false) (sym (append-nil (type_text classes t))) ∙ type-piece classes t [] good
