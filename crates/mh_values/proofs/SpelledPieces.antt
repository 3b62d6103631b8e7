-- The text of types that are spelled by the grammar, cut type by type.
use Rattle.std.proofs.Common.{◌≡◌, refl, ap, ◌∙◌, zero, suc, ℕ, ◌==◌, true, false, not, ◌||◌, if◌then◌else◌, List, [], ◌∷◌, ◌++◌, map, replicate, append_assoc}
use Rattle.std.proofs.lemmas.Bool.{and_parts, or_parts, not-true}
use Rattle.std.specs.List.{list_all}
use Rattle.mh_values.specs.Descriptor.{pieces, longer}
use Rattle.mh_values.specs.Spelling.{Element, letter, named, Spelled, element_text, spelled_text, is_name_byte, IsElement, AreSpelled, texts_of}
use Rattle.mh_values.proofs.Beginnings.{base_other}

-- a name and its `;` are one piece
name_piece : (name rest : List ℕ) → list_all is_name_byte name ≡ true → pieces true (name ++ 59 ∷ rest) ≡ (name ++ 59 ∷ []) ∷ pieces false rest
name_piece [] rest good = refl
name_piece (b ∷ bs) rest good =
    let parts = and_parts (is_name_byte b) (list_all is_name_byte bs) good in
    let inside = or_parts (b == 59) (b == 46 || b == 91) (not-true _ parts.0) in
    ap (λ t. if t then (b ∷ []) ∷ pieces false (bs ++ 59 ∷ rest) else longer b (pieces true (bs ++ 59 ∷ rest))) inside.0
    ∙ ap (longer b) (name_piece bs rest parts.1)

-- an element is one piece
element_piece : (e : Element) (rest : List ℕ) → IsElement e → pieces false (element_text e ++ rest) ≡ element_text e ∷ pieces false rest
element_piece (letter b) rest good =
    ap (λ t. if not (t || b == 76) then (b ∷ []) ∷ pieces false rest else longer b (pieces (b == 76) rest)) (base_other b 91 good refl)
    ∙ ap (λ t. if not t then (b ∷ []) ∷ pieces false rest else longer b (pieces (b == 76) rest)) (base_other b 76 good refl)
element_piece (named name) rest good =
    ap (λ t. longer 76 (pieces true t)) (append_assoc name (59 ∷ []) rest) ∙ ap (longer 76) (name_piece name rest good.1)

dimensions_piece : (n : ℕ) (e : Element) (rest : List ℕ) → IsElement e → pieces false ((replicate n 91 ++ element_text e) ++ rest) ≡
    (replicate n 91 ++ element_text e) ∷ pieces false rest
dimensions_piece zero e rest good = element_piece e rest good
dimensions_piece (suc n) e rest good = ap (longer 91) (dimensions_piece n e rest good)

-- types are as many pieces
pub spelled_pieces : (ts : List Spelled) (rest : List ℕ) → AreSpelled ts → pieces false (texts_of ts ++ rest) ≡ map spelled_text ts ++ pieces false rest
spelled_pieces [] rest good = refl
spelled_pieces (t ∷ ts) rest good =
    ap (pieces false) (append_assoc (spelled_text t) (texts_of ts) rest)
    ∙ dimensions_piece t.dimensions t.element (texts_of ts ++ rest) good.0.1
    ∙ ap (λ ps. spelled_text t ∷ ps) (spelled_pieces ts rest good.1)
