-- What is read of a text that writes a number.
use Rattle.std.proofs.Common.{◌≡◌, ℕ, ◌^◌, ◌<◌, ◌≤◌, arith, refl, rules, true, List, length, Result, Ok}
use Rattle.std.specs.Char.{is_ascii_digit}
use Rattle.std.specs.List.{list_all}
use Rattle.std.specs.Result.{result_ok}
use Rattle.std.specs.Str.Parse.{ParsesUnsigned, digits_value}
use Rattle.std.proofs.lemmas.Str.Parse.{IsNumeralModel, digits_value_short, numerals_by_value, parse_gives}
use Rattle.mh_words.specs.Number.{is_written, most_digits, number_of}

-- the test tells decimal digits
digits : IsNumeralModel (λ text. list_all is_ascii_digit text ≡ true) (digits_value 10)
digits = numerals_by_value _ (search rules)

-- a number that is written is small
pub written_is_small : (most : ℕ) (text : List ℕ) → most ≤ most_digits → is_written most text ≡ true → digits_value 10 text < 10 ^ most_digits
written_is_small most text few_digits written =
    let all : list_all is_ascii_digit text ≡ true = grind arith in
    let few : length text < 7 = grind arith in
    digits_value_short digits text 6 all (omega arith)

-- a text that writes a number is read as a number of 32 bits
written_is_read : {E : Type 0} (most : ℕ) (text : List ℕ) (r : Result ℕ E) → most ≤ most_digits → ParsesUnsigned 32 10 text r →
    is_written most text ≡ true → r ≡ Ok (digits_value 10 text)
written_is_read most text r few_digits parses written =
    let all : list_all is_ascii_digit text ≡ true = grind arith in
    let some : 0 < length text = grind arith in
    parse_gives digits 32 text r parses all some (omega (arith, written_is_small most text few_digits written))

-- and that number is the one that it writes
pub number_is_read : {E : Type 0} (most : ℕ) (text : List ℕ) (r : Result ℕ E) → most ≤ most_digits → ParsesUnsigned 32 10 text r →
    is_written most text ≡ true → result_ok r ≡ number_of most text
number_is_read most text r few_digits parses written = rw (written_is_read most text r few_digits parses written, written) refl
