-- How the reader of a text goes from byte to byte. Characters says what a text is read as, without a reader.
use Rattle.std.specs.Prelude.{ℕ, ◌+◌, ◌-◌, ◌*◌, ◌==◌, nat_le, nat_lt, Bool, true, false, ◌&&◌, if◌then◌else◌, List, [], ◌∷◌, length, Option, None, Some, option_map, option_and_then}
use Rattle.mh_base.specs.Ascii.{backslash, comma, digit_0, digit_9, left_brace, line_feed, right_brace, small_a, small_c, small_f, small_n, small_s, small_u, space}
use Rattle.mh_values.specs.ValueLimits.{most_characters}
use Rattle.mh_texts.specs.declared.escape.Escape.{Escape}
use Rattle.mh_texts.specs.declared.escape.Escape.TheVariants as escape
use Rattle.mh_texts.specs.Characters.{is_graphic, is_scalar}

-- the value of a lower-case hexadecimal digit
abbrev pub hex_value : ℕ → Option ℕ
hex_value b =
    if nat_le digit_0 b && nat_le b digit_9 then Some (b - digit_0)
    else (if nat_le small_a b && nat_le b small_f then Some (b - 87) else None)

-- a number, if it is a character
abbrev pub scalar : ℕ → Option ℕ
scalar n = if is_scalar n then Some n else None

-- a whole character was read
abbrev pub whole : ℕ → Option (Escape × Option ℕ)
whole c = Some (escape.Outside, Some c)

-- an escape goes on
abbrev pub goes_on : Escape → Option (Escape × Option ℕ)
goes_on e = Some (e, None)

-- after a backslash: `\s` is a space, `\c` a comma, `\n` LF, `\\` a backslash, and `\u` begins a number
abbrev pub after_backslash : ℕ → Option (Escape × Option ℕ)
after_backslash b =
    if b == small_s then whole space
    else (if b == small_c then whole comma
    else (if b == small_n then whole line_feed
    else (if b == backslash then whole backslash
    else (if b == small_u then goes_on escape.Code else None))))

-- a digit more in `\u{..}`: at most six, and no number above 10FFFF
abbrev pub one_digit_more : ℕ → ℕ → ℕ → Option (Escape × Option ℕ)
one_digit_more count value digit =
    if nat_lt count 6 && nat_le (16 * value + digit) 0x10FFFF then goes_on (escape.Digits (count + 1) (16 * value + digit)) else None

-- within the braces of `\u{..}`: the closing one comes after one digit or more
abbrev pub within_braces : ℕ → ℕ → ℕ → Option (Escape × Option ℕ)
within_braces count value b =
    if b == right_brace then (if nat_lt 0 count then option_and_then whole (scalar value) else None)
    else option_and_then (one_digit_more count value) (hex_value b)

-- one byte more of a text: what then goes on, and the character that it ends
abbrev pub step : Escape → ℕ → Option (Escape × Option ℕ)
step escape.Outside b = if b == backslash then goes_on escape.Backslash else (if is_graphic b then whole b else None)
step escape.Backslash b = after_backslash b
step escape.Code b = if b == left_brace then goes_on (escape.Digits 0 0) else None
step (escape.Digits count value) b = within_braces count value b

-- a character, if there is one, before others
abbrev pub in_front : Option ℕ → List ℕ → List ℕ
in_front None cs = cs
in_front (Some c) cs = c ∷ cs

-- no escape is begun
abbrev pub is_outside : Escape → Bool
is_outside escape.Outside = true
is_outside _ = false

-- the characters of the rest of a text
abbrev pub characters_from : Escape → List ℕ → Option (List ℕ)
characters_from e [] = if is_outside e then Some [] else None
characters_from e (b ∷ bs) = option_and_then (λ s. option_map (in_front s.1) (characters_from s.0 bs)) (step e b)

-- a text, if it is not too long
abbrev pub if_short : List ℕ → Option (List ℕ)
if_short cs = if nat_le (length cs) most_characters then Some cs else None

-- the characters that a text writes
abbrev pub text_of : List ℕ → Option (List ℕ)
text_of bytes = option_and_then if_short (characters_from escape.Outside bytes)
