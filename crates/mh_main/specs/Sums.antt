-- The line that is written of a run of the input that is made from a number.
use Rattle.std.specs.Prelude.{ℕ, ℤ, pos, List, ◌++◌, codes, fold, Option, None, Some}
use Rattle.std.specs.Fmt.{decimal, signed_decimal}
use Rattle.std.specs.Int.{int_wrapping_add, w32}
use Rattle.mh_values.specs.declared.value.Num.TheVariants.{I}
use Rattle.mh_values.specs.declared.value.Value.{Value}
use Rattle.mh_values.specs.declared.value.Value.TheVariants.{Prim}
use Rattle.mh_values.specs.Computation.{Gave}
use Rattle.mh_report.specs.Results.{Result}

-- an int, and 0 of any other value
abbrev pub int_of : Value → ℤ
int_of (Prim (I n)) = n
int_of _ = pos 0

-- the int that was returned, or 0 if none was
abbrev pub returned_int : Option Value → ℤ
returned_int None = pos 0
returned_int (Some value) = int_of value

-- the int that a call returned, or 0 if it returned none
abbrev pub result_int : Result → ℤ
result_int (Gave value calls) = returned_int value
result_int _ = pos 0

-- a sum with the int that one call more returned, wrapped to 32 bits
abbrev pub with_result : ℤ → Result → ℤ
with_result sum result = int_wrapping_add w32 sum (result_int result)

-- a sum with those of a thread's calls
abbrev pub with_results : ℤ → List Result → ℤ
with_results sum results = fold with_result sum results

-- the sum of the ints that the calls of all threads returned, wrapped to 32 bits
abbrev pub sum_of : List (List Result) → ℤ
sum_of threads = fold with_results (pos 0) threads

-- the line: the number, how many call sites and calls there are, the sum, and how many forms and types
abbrev pub sum_line : ℕ → ℕ → ℕ → ℤ → ℕ → ℕ → List ℕ
sum_line number sites calls sum forms types =
    codes "gen " ++ decimal number ++ codes " sites " ++ decimal sites ++ codes " calls " ++ decimal calls ++ codes " sum " ++ signed_decimal sum
    ++ codes " forms " ++ decimal forms ++ codes " types " ++ decimal types ++ codes "\n"
