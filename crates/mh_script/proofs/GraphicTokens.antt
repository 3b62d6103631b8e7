-- Tokens are texts of graphic bytes, and so is what is written of the value of one.
use Rattle.std.proofs.Common.{◌≡◌, refl, ℕ, ◌≤◌, ◌==◌, true, ◌&&◌, nat_le, List, [], ◌∷◌, length, Some, arith}
use Rattle.std.proofs.lemmas.Bool.{and_parts, and_from, leb-true, le-leb, ne_eqb, not_from_false}
use Rattle.std.proofs.lemmas.Bool.Decides.{nat_tests}
use Rattle.std.specs.List.{list_all}
use Rattle.mh_base.specs.Lines.{is_plain}
use Rattle.mh_base.proofs.LineTokens.{IsToken, IsFullToken}
use Rattle.mh_values.specs.declared.class.Class.{Class}
use Rattle.mh_values.specs.declared.value.Value.{Value}
use Rattle.mh_texts.specs.Characters.{is_graphic}
use Rattle.mh_texts.specs.Literal.{literal_of}
use Rattle.mh_texts.specs.LiteralText.{literal_text}
use Rattle.mh_texts.proofs.LiteralGraphic.{literal_text-graphic, literal_text-some}

graphic_is : (token : List ℕ) → IsToken token → list_all is_graphic token ≡ true
graphic_is [] is = refl
graphic_is (b ∷ bs) is =
    let parts = and_parts (nat_le 0x20 b && nat_le b 0x7E) (is_plain bs) is.plain in
    let byte = and_parts (nat_le 0x20 b) (nat_le b 0x7E) parts.0 in
    let visible : 0x20 ≤ b = leb-true 0x20 b byte.0 in
    let past : 0x21 ≤ b = grind (arith, nat_tests, is.one.0, visible) in
    and_from (is_graphic b) (list_all is_graphic bs) (and_from (nat_le 0x21 b) (nat_le b 0x7E) (le-leb 0x21 b past) byte.1)
    (graphic_is bs (record { plain = parts.1; one = is.one.1 }))

token_is : (text : List ℕ) → list_all is_graphic text ≡ true → IsToken text
token_is [] graphic = record { plain = refl; one = tt }
token_is (b ∷ bs) graphic =
    let parts = and_parts (is_graphic b) (list_all is_graphic bs) graphic in
    let byte = and_parts (nat_le 0x21 b) (nat_le b 0x7E) parts.0 in
    let visible : 0x21 ≤ b = leb-true 0x21 b byte.0 in
    let first = and_from (nat_le 0x20 b) (nat_le b 0x7E) (le-leb 0x20 b (omega arith)) byte.1 in
    let rest = token_is bs parts.1 in
    record {
      plain = and_from (nat_le 0x20 b && nat_le b 0x7E) (is_plain bs) first rest.plain;
      one = (ne_eqb b 32 (λ e. omega arith), rest.one);
    }

-- what is written of the value of a token is one that is not empty
pub literal-token : (classes : List Class) (token : List ℕ) (v : Value) → literal_of classes token ≡ Some v → IsFullToken token →
    IsFullToken (literal_text classes v)
literal-token classes token v h is =
    let text : List ℕ = literal_text classes v in
    let some = literal_text-some classes v in
    record {
      token = token_is text (literal_text-graphic classes token v h (graphic_is token is.token));
      full = not_from_false (length text == 0) (ne_eqb (length text) 0 (λ e. omega (arith, e, some)));
    }
