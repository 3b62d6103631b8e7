-- Numbers in scripts: what their digits are read as.
use Rattle.std.specs.Prelude.{ℕ, ◌^◌, ◌==◌, nat_lt, nat_le, ◌&&◌, if◌then◌else◌, List, [], ◌∷◌, codes, Option, None, Some, option_map, option_and_then}
use Rattle.std.specs.List.{slice_split}
use Rattle.std.specs.Fmt.{decimal}
use Rattle.std.specs.Str.{bytes_eq}
use Rattle.std.specs.Str.Parse.{digits_value, without_leading_plus}
use Rattle.mh_base.specs.Ascii.{comma}
use Rattle.mh_script.specs.declared.script.Step.{Step}
use Rattle.mh_script.specs.declared.script.Step.TheVariants as step

-- the number below 2^64 that a text writes, in decimal and without a needless zero
abbrev pub number_of : List ℕ → Option ℕ
number_of text = let n = digits_value 10 (without_leading_plus text) in if nat_lt n (2 ^ 64) && bytes_eq (decimal n) text then Some n else None

-- a number, if it is at most 255
abbrev pub if_small : ℕ → Option ℕ
if_small n = if nat_le n 255 then Some n else None

-- the number from 0 to 255 that a text writes
abbrev pub small_of : List ℕ → Option ℕ
small_of text = option_and_then if_small (number_of text)

-- the numbers that texts write, one by each text
abbrev pub numbers_of : List (List ℕ) → Option (List ℕ)
numbers_of [] = Some []
numbers_of (text ∷ texts) = option_and_then (λ n. option_map (λ ns. n ∷ ns) (numbers_of texts)) (small_of text)

-- numbers with commas between them, or `-` for none
abbrev pub order_of : List ℕ → Option (List ℕ)
order_of token = if bytes_eq token (codes "-") then Some [] else numbers_of (slice_split (λ b. b == comma) token)

-- `failmod` with numbers of its range: the modulus is from 1 to 1,000,000, and the remainder below it
abbrev pub if_fail : ℕ → ℕ → Option Step
if_fail modulus remainder =
    if (nat_le 1 modulus && nat_le modulus 1000000) && nat_lt remainder modulus then Some (step.FailMod modulus remainder) else None

-- `failmod K R`
abbrev pub fail_of : List ℕ → List ℕ → Option Step
fail_of modulus remainder = option_and_then (λ m. option_and_then (if_fail m) (number_of remainder)) (number_of modulus)
