-- Numbers in literals: what their digits are read as.
use Rattle.std.specs.Prelude.{ℕ, ◌^◌, ℤ, nat_lt, Bool, ◌&&◌, ◌||◌, if◌then◌else◌, List, codes, Option, None, Some}
use Rattle.std.specs.Fmt.{decimal, signed_decimal}
use Rattle.std.specs.Str.{bytes_eq}
use Rattle.std.specs.Str.Parse.{digits_value, signed_digits_value, without_leading_plus}
use Rattle.mh_values.specs.Primitives.{is_signed}

-- of 64 bits
abbrev pub is_long : ℤ → Bool
is_long = is_signed 63

-- whether a text writes a number: in decimal, without a needless zero; 0 may have a sign
abbrev pub writes : ℤ → List ℕ → Bool
writes n text = bytes_eq (signed_decimal n) text || bytes_eq (codes "-0") text

-- the number of 64 bits that a text writes
abbrev pub long_of : List ℕ → Option ℤ
long_of text = let n = signed_digits_value 10 text in if is_long n && writes n text then Some n else None

-- the number from 0 to 4294967295 that a text writes, without a sign
abbrev pub unsigned_of : List ℕ → Option ℕ
unsigned_of text = let n = digits_value 10 (without_leading_plus text) in if nat_lt n (2 ^ 32) && bytes_eq (decimal n) text then Some n else None
