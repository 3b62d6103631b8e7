-- Numbers of the command line.
use Rattle.std.specs.Prelude.{ℕ, ◌==◌, Bool, nat_le, not, ◌&&◌, if◌then◌else◌, List, length, Option, None, Some}
use Rattle.std.specs.Char.{is_ascii_digit}
use Rattle.std.specs.List.{list_all}
use Rattle.std.specs.Str.Parse.{digits_value}

-- how many digits a number may have, whichever it is
abbrev pub most_digits : ℕ
most_digits = 6

-- whether a text writes a number: one or more decimal digits, up to `most`, and nothing else
abbrev pub is_written : ℕ → List ℕ → Bool
is_written most text = not (length text == 0) && nat_le (length text) most && list_all is_ascii_digit text

-- the number that a text of up to `most` digits writes
abbrev pub number_of : ℕ → List ℕ → Option ℕ
number_of most text = if is_written most text then Some (digits_value 10 text) else None
