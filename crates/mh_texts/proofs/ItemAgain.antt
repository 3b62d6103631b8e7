-- What is written of an item that was read is read as the item.
use Rattle.std.proofs.Common.{◌≡◌, refl, ap, ℕ, ◌≤◌, inl, true, if◌then◌else◌, List, [], ◌∷◌, ◌++◌, codes, None, Some, arith}
use Rattle.std.proofs.lemmas.Bool.{and_parts, or_left, leb-true, lt-ltb}
use Rattle.mh_values.specs.declared.class.Class.{Class}
use Rattle.mh_values.specs.declared.value.Num.{Num}
use Rattle.mh_values.specs.declared.value.Num.TheVariants as num
use Rattle.mh_values.specs.declared.value.Cell.{Cell}
use Rattle.mh_values.specs.declared.value.Cell.TheVariants as cell
use Rattle.mh_values.specs.Classes.{name_of}
use Rattle.mh_texts.specs.Characters.{is_scalar, SpellsCharacter, itself, space, comma, line, backslash, numbered, SpellsCharacters, SpellsText}
use Rattle.mh_texts.specs.LiteralText.{number_mark, boxed_mark, number_text, prim_text, boxed_text, item_written}
use Rattle.mh_texts.specs.Spells.{SpellsNumber, Marked, SpellsItem}
use Rattle.mh_texts.specs.Text.{escaped}
use Rattle.mh_texts.specs.Writable.{AreScalars}
use Rattle.mh_texts.proofs.LiteralBytes.{object_is, exception_is}
use Rattle.mh_texts.proofs.SpelledText.{text_spelled}
use Rattle.mh_texts.proofs.TextTrip.{text_trip}

-- ---- items

number_again : (n : Num) (text : List ℕ) → SpellsNumber text n → SpellsNumber (number_text n) n
number_again (num.Z b) text is = refl
number_again (num.B n) text is = (is.0, inl refl)
number_again (num.C n) text is = (is.0, inl refl)
number_again (num.S n) text is = (is.0, inl refl)
number_again (num.I n) text is = (is.0, inl refl)
number_again (num.J n) text is = (is.0, inl refl)

prim_again : (n : Num) (token : List ℕ) → Marked (number_mark n) (λ text. SpellsNumber text n) token →
    Marked (number_mark n) (λ text. SpellsNumber text n) (prim_text n)
prim_again n token is = record { text = number_text n; is = refl; spelled = number_again n is.text is.spelled }

boxed_again : (n : Num) (token : List ℕ) → Marked (boxed_mark n) (λ text. SpellsNumber text n) token →
    Marked (boxed_mark n) (λ text. SpellsNumber text n) (boxed_text n)
boxed_again n token is = record { text = number_text n; is = refl; spelled = number_again n is.text is.spelled }

character_is : {front : List ℕ} {c : ℕ} → SpellsCharacter front c → is_scalar c ≡ true
character_is (itself c graphic other) =
    let parts = and_parts _ _ graphic in
    let low : c ≤ 0x7E = leb-true c 0x7E parts.1 in
    or_left _ _ (lt-ltb c 0xD800 (omega arith))
character_is space = refl
character_is comma = refl
character_is line = refl
character_is backslash = refl
character_is (numbered ds hex one short scalar) = scalar

characters_are : (cs text : List ℕ) → SpellsCharacters text cs → AreScalars cs
characters_are [] text is = tt
characters_are (c ∷ cs) text is = (ap (λ t. if t then Some c else None) (character_is is.3), characters_are cs is.1 is.4)

text_again : (s text : List ℕ) → SpellsText text s → SpellsText (escaped s) s
text_again s text is = text_spelled (escaped s) s (text_trip s (characters_are s text is.0) is.1)

pub item_again : (classes : List Class) (item : Cell) (token : List ℕ) → SpellsItem classes item token →
    SpellsItem classes item (item_written (name_of classes) item)
item_again classes (cell.Prim n) token is = prim_again n token is
item_again classes (cell.Boxed n) token is = boxed_again n token is
item_again classes (cell.Text s) token is = record { text = escaped s; is = refl; spelled = text_again s is.text is.spelled }
item_again classes (cell.Object c k) token is =
    record { text = is.text; is = ap (λ text. codes "o:" ++ text) (object_is classes c k is.text is.spelled); spelled = is.spelled }
item_again classes (cell.Thrown e) token is =
    record { text = is.text; is = ap (λ text. codes "x:" ++ text) (exception_is classes e is.text is.spelled); spelled = is.spelled }
item_again classes cell.Null token is = refl
