-- Numbers that rise and are 1 to their count.
use Rattle.std.proofs.Common.{◌≡◌, refl, sym, ap, ℕ, zero, suc, ◌+◌, ◌-◌, ◌<◌, ◌≤◌, ◌==◌, ◌&&◌, cond, Bool, true, false, List, [], ◌∷◌, length, get_or, arith}
use Rattle.std.specs.Prelude.{Contains}
use lib.Dec.{leb}
use Rattle.std.proofs.lemmas.Bool.{eq-eqb, lt-leb}
use Rattle.std.proofs.lemmas.Bool.Decides.{nat_tests}
use Rattle.std.proofs.lemmas.List.Elements.{Contains-get_or}
use Rattle.std.proofs.lemmas.List.Sums.{sum_by-cons}
use Rattle.mh_seats.specs.Room.{times}
use Rattle.mh_tickets.specs.Draws.{EachOnce, once_up_to}
use Rattle.mh_condy.specs.Resolving.{Rise}

-- nothing is each number once
pub none-once : EachOnce []
none-once x = cases x
  where
    cases : (x : ℕ) → times x [] ≡ once_up_to 0 x
    cases zero = refl
    cases (suc x) = sym (ap (λ b. cond b 1 0) (none (leb 1 (suc x))))
      where
        none : (b : Bool) → (b && leb (suc x) 0) ≡ false
        none true = lt-leb (suc x) 0 (omega arith)
        none false = refl

-- 1 for a number that is the other one
abbrev is_it : ℕ → ℕ → ℕ
is_it y x = cond (y == x) 1 0

-- a number of a list stands there
stands : (x : ℕ) (ys : List ℕ) (k : ℕ) → k < length ys → get_or ys k x ≡ x → 0 < times x ys
stands x [] k within same = absurd (omega (arith, within))
stands x (y ∷ ys) zero within same =
    let one : is_it y x ≡ 1 = ap (λ b. cond b 1 0) (eq-eqb y x same) in omega (arith, one, sum_by-cons (λ z. is_it z x) y ys)
stands x (y ∷ ys) (suc k) within same = omega (arith, stands x ys k (omega (arith, within)) same, sum_by-cons (λ z. is_it z x) y ys)

up-to : (n x : ℕ) → 0 < once_up_to n x → x ≤ n
up-to n x some = grind (arith, nat_tests)

from-one : (n x : ℕ) → 0 < once_up_to n x → 1 ≤ x
from-one n x some = grind (arith, nat_tests)

-- of numbers that are 1 to their count, none is greater than that
pub no-greater : (numbers : List ℕ) (x : ℕ) → EachOnce numbers → Contains numbers x → x ≤ length numbers
no-greater numbers x once there =
    up-to (length numbers) x (omega (arith, once x, stands x numbers there.0 there.1 there.2))

-- and each is at least 1
no-less : (numbers : List ℕ) (x : ℕ) → EachOnce numbers → Contains numbers x → 1 ≤ x
no-less numbers x once there =
    from-one (length numbers) x (omega (arith, once x, stands x numbers there.0 there.1 there.2))

-- numbers that rise besides are 1, 2, 3, ..
module _ (numbers : List ℕ) (once : EachOnce numbers) (rise : Rise numbers) (d : ℕ) where
  low : (k : ℕ) → k < length numbers → k + 1 ≤ get_or numbers k d
  low zero within = no-less numbers (get_or numbers 0 d) once (Contains-get_or numbers 0 d within)
  low (suc k) within =
      let less = low k (omega (arith, within)) in
      let more = rise k (suc k) d (omega arith) within in
      omega (arith, less, more)

  high : (m k : ℕ) → k + m + 1 ≡ length numbers → get_or numbers k d + m ≤ length numbers
  high zero k last =
      let most = no-greater numbers (get_or numbers k d) once (Contains-get_or numbers k d (omega (arith, last))) in
      omega (arith, most)
  high (suc m) k last =
      let next = high m (suc k) (omega (arith, last)) in
      let more = rise k (suc k) d (omega arith) (omega (arith, last)) in
      omega (arith, next, more)

  pub numbered-at : (k : ℕ) → k < length numbers → get_or numbers k d ≡ k + 1
  numbered-at k within =
      let least = low k within in
      let most = high (length numbers - k - 1) k (omega (arith, within)) in
      omega (arith, least, most, within)
