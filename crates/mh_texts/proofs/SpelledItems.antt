-- Items: what is read is what the token spells.
use Rattle.std.proofs.Common.{◌≡◌, sym, ap, subst, ◌∙◌, ℕ, ◌+◌, ◌-◌, ◌==◌, if◌then◌else◌, nat_le, List, [], ◌∷◌, ◌++◌, codes, None, Some, option_map, option_and_then, arith}
use Rattle.std.proofs.lemmas.Bool.{eqb-true}
use Rattle.std.proofs.lemmas.Slice.Eq.{bytes_eq-Decides}
use Rattle.std.specs.Str.{bytes_eq}
use Rattle.mh_values.specs.declared.class.Class.{Class}
use Rattle.mh_values.specs.declared.value.Num.{Num}
use Rattle.mh_values.specs.declared.value.Cell.{Cell}
use Rattle.mh_values.specs.declared.value.Cell.TheVariants as cell
use Rattle.mh_values.specs.Exception.{bare}
use Rattle.mh_values.specs.Primitives.{primitive_of}
use Rattle.mh_texts.specs.Literal.{marked_number, if_exception, tagged, item_of}
use Rattle.mh_texts.specs.LiteralText.{mark_of, number_mark, boxed_mark}
use Rattle.mh_texts.specs.Spells.{SpellsNumber, SpellsItem}
use Rattle.mh_texts.specs.Escapes.{text_of}
use Rattle.mh_base.proofs.Inversion.{by_test, some_is, none_is_not, map_some}
use Rattle.mh_texts.proofs.SpelledObjects.{object_spelled, object_read, exception_spelled}
use Rattle.mh_texts.proofs.Marks.{mark-tagged, boxed-tagged}
use Rattle.mh_texts.proofs.SpelledNumbers.{number_spelled, number_read}
use Rattle.mh_texts.proofs.SpelledRead.{text_read}
use Rattle.mh_texts.proofs.SpelledText.{text_spelled}

-- ---- after a letter and a colon

boxed_marked : (n : Num) (letter : ℕ) (text : List ℕ) → letter + 32 ≡ mark_of (primitive_of n) → letter ∷ 58 ∷ text ≡ boxed_mark n ++ text
boxed_marked n letter text is = let e : letter ≡ mark_of (primitive_of n) - 32 = omega arith in ap (λ c. c ∷ 58 ∷ text) e

tagged_spelled : (classes : List Class) (letter : ℕ) (text : List ℕ) (item : Cell) → tagged classes letter text ≡ Some item →
    SpellsItem classes item (letter ∷ 58 ∷ text)
tagged_spelled classes letter text item told =
    let P : Cell → Type 0 = λ i. SpellsItem classes i (letter ∷ 58 ∷ text) in
    by_test (letter == 115) _ _ (Some item) told
    (λ e is.
    let read = map_some cell.Text (text_of text) item is in
    subst P read.2 (record { text = text; is = ap (λ c. c ∷ 58 ∷ text) (eqb-true letter 115 e); spelled = text_spelled text read.0 read.1 }))
    (λ e is. by_test (letter == 111) _ _ (Some item) is
    (λ e is.
    let said = object_spelled classes text item is in
    subst P said.is (record { text = text; is = ap (λ c. c ∷ 58 ∷ text) (eqb-true letter 111 e); spelled = said.spelled }))
    (λ e is. by_test (letter == 120) _ _ (Some item) is
    (λ e is.
    let said = exception_spelled classes text item is in
    subst P said.is (record { text = text; is = ap (λ c. c ∷ 58 ∷ text) (eqb-true letter 120 e); spelled = said.spelled }))
    (λ e is. by_test (nat_le 97 letter) _ _ (Some item) is
    (λ low is.
    let read = map_some cell.Prim (marked_number letter text) item is in
    let number = number_spelled letter text read.0 read.1 in
    subst P read.2 (record { text = text; is = ap (λ c. c ∷ 58 ∷ text) number.0; spelled = number.1 }))
    (λ low is.
    let read = map_some cell.Boxed (marked_number (letter + 32) text) item is in
    let number = number_spelled (letter + 32) text read.0 read.1 in
    subst P read.2 (record { text = text; is = boxed_marked read.0 letter text number.0; spelled = number.1 })))))

-- ---- items

pub item_spelled : (classes : List Class) (token : List ℕ) (item : Cell) → item_of classes token ≡ Some item → SpellsItem classes item token
item_spelled classes [] item told = absurd cc
item_spelled classes (b ∷ []) item told = absurd cc
item_spelled classes (letter ∷ b ∷ text) item told =
    by_test (b == 58) _ _ (Some item) told
    (λ e is. subst (λ c. SpellsItem classes item (letter ∷ c ∷ text)) (sym (eqb-true b 58 e)) (tagged_spelled classes letter text item is))
    (λ e is. by_test (bytes_eq (letter ∷ b ∷ text) (codes "null")) (Some cell.Null) None (Some item) is
    (λ same is. subst (λ i. SpellsItem classes i (letter ∷ b ∷ text)) (some_is cell.Null item is) ((bytes_eq-Decides _ _).0 same))
    (λ same is. none_is_not item is))

prim_read : (classes : List Class) (n : Num) (text : List ℕ) → SpellsNumber text n → item_of classes (number_mark n ++ text) ≡ Some (cell.Prim n)
prim_read classes n text is = mark-tagged classes (primitive_of n) text ∙ ap (option_map cell.Prim) (number_read text n is)

boxed_read : (classes : List Class) (n : Num) (text : List ℕ) → SpellsNumber text n → item_of classes (boxed_mark n ++ text) ≡ Some (cell.Boxed n)
boxed_read classes n text is = boxed-tagged classes (primitive_of n) text ∙ ap (option_map cell.Boxed) (number_read text n is)

pub item_read : (classes : List Class) (token : List ℕ) (item : Cell) → SpellsItem classes item token → item_of classes token ≡ Some item
item_read classes token (cell.Prim n) is = ap (item_of classes) is.is ∙ prim_read classes n is.text is.spelled
item_read classes token (cell.Boxed n) is = ap (item_of classes) is.is ∙ boxed_read classes n is.text is.spelled
item_read classes token (cell.Text s) is = ap (item_of classes) is.is ∙ ap (option_map cell.Text) (text_read is.text s is.spelled)
item_read classes token (cell.Object c k) is = ap (item_of classes) is.is ∙ object_read classes is.text c k is.spelled
item_read classes token (cell.Thrown e) is =
    ap (item_of classes) is.is
    ∙ ap (option_and_then (if_exception classes)) is.spelled.named
    ∙ ap (λ t. if t then Some (cell.Thrown (bare is.spelled.class)) else None) is.spelled.throwable
    ∙ ap (λ x. Some (cell.Thrown x)) (sym is.spelled.is)
item_read classes token cell.Null is = ap (item_of classes) is
