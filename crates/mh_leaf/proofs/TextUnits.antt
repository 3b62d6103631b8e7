-- The number of UTF-16 units of a text that is not too long is an int.
use Rattle.std.proofs.Common.{◌≡◌, refl, ℕ, ◌*◌, ◌≤◌, ◌^◌, Bool, true, false, cond, pos, negsuc, List, [], ◌∷◌, length, sum_by, nat_lt, Some, arith}
use Rattle.std.specs.Int.{w32, int_wrap}
use Rattle.std.proofs.lemmas.Bool.{leb-true, lt-ltb}
use Rattle.std.proofs.lemmas.List.Sums.{sum_by-cons}
use Rattle.mh_values.specs.declared.value.Value.TheVariants as value
use Rattle.mh_values.specs.Primitives.{is_signed}
use Rattle.mh_values.specs.ValueLimits.{most_characters, is_short_text}
use Rattle.mh_leaf.specs.Outcome.{int, units_of, measured}

at_most_two : (b : Bool) → cond b 1 2 ≤ 2
at_most_two true = omega arith
at_most_two false = omega arith

two_each : (s : List ℕ) → sum_by units_of s ≤ 2 * length s
two_each [] = omega arith
two_each (c ∷ s) = omega (arith, sum_by-cons units_of c s, at_most_two (nat_lt c 65536), two_each s)

pub units-within : (s : List ℕ) → is_short_text s ≡ true → is_signed 31 (pos (sum_by units_of s)) ≡ true
units-within s short =
    let few = leb-true (length s) most_characters short in lt-ltb (sum_by units_of s) (2 ^ 31) (omega (arith, two_each s, few))

-- ---- by computation

two_units_above_ffff : measured (value.Text (97 ∷ 128512 ∷ [])) ≡ Some (int (pos 3))
two_units_above_ffff = refl

the_least_int_follows_the_greatest : int (int_wrap w32 (pos 2147483648)) ≡ int (negsuc 2147483647)
unfolding int_wrap
the_least_int_follows_the_greatest = refl
