-- Texts as they are written: the spellings of a character, and of a text character by character.
use Rattle.std.specs.Prelude.{◌≡◌, ℕ, ◌<◌, ◌≤◌, ◌==◌, nat_le, nat_lt, Bool, false, ◌&&◌, ◌||◌, List, [], ◌∷◌, ◌++◌, codes, length, IsTrue}
use Rattle.std.specs.List.{list_all}
use Rattle.std.specs.Str.Parse.{digits_value}
use Rattle.mh_base.specs.Ascii as ascii
use Rattle.mh_base.specs.Ascii.{digit_0, digit_9, small_a, small_f}
use Rattle.mh_values.specs.ValueLimits.{most_characters}

-- a character that may stand for itself: 0x21 to 0x7E
abbrev pub is_graphic : ℕ → Bool
is_graphic b = nat_le 0x21 b && nat_le b 0x7E

-- a digit of a hexadecimal number, in lower case
abbrev pub is_hex_digit : ℕ → Bool
is_hex_digit b = (nat_le digit_0 b && nat_le b digit_9) || (nat_le small_a b && nat_le b small_f)

-- a number that is a character (a Unicode scalar value): no half of a surrogate pair, none above 10FFFF
abbrev pub is_scalar : ℕ → Bool
is_scalar n = nat_lt n 0xD800 || (nat_le 0xE000 n && nat_lt n 0x110000)

-- what may be written of a character: itself, if it is no backslash; `\s` of a space, `\c` of a comma, `\n` of LF, `\\` of a backslash;
-- or `\u{..}` with one to six digits of its hexadecimal number
pub data SpellsCharacter : List ℕ → ℕ → Type 0 where
  itself : (c : ℕ) → IsTrue (is_graphic c) → (c == ascii.backslash) ≡ false → SpellsCharacter (c ∷ []) c
  space : SpellsCharacter (codes "\\s") 32
  comma : SpellsCharacter (codes "\\c") 44
  line : SpellsCharacter (codes "\\n") 10
  backslash : SpellsCharacter (codes "\\\\") 92
  numbered : (digits : List ℕ) → IsTrue (list_all is_hex_digit digits) → 0 < length digits → length digits ≤ 6 → IsTrue (is_scalar (digits_value 16 digits)) →
      SpellsCharacter (codes "\\u{" ++ (digits ++ codes "}")) (digits_value 16 digits)

-- what may be written of characters: what may be written of each, one after the other
abbrev pub SpellsCharacters : List ℕ → List ℕ → Type 0
SpellsCharacters text [] = text ≡ []
SpellsCharacters text (c ∷ cs) =
    (front : List ℕ) × (rest : List ℕ) × (text ≡ front ++ rest) × SpellsCharacter front c × SpellsCharacters rest cs

-- a text has at most as many characters as one in a value may have
abbrev pub SpellsText : List ℕ → List ℕ → Type 0
SpellsText text cs = SpellsCharacters text cs × (length cs ≤ most_characters)
