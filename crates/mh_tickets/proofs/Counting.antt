-- How often numbers stand in lists, and which of them are at most one.
use Rattle.std.proofs.Common.{◌≡◌, ℕ, zero, suc, ◌+◌, ◌<◌, ◌≤◌, ◌==◌, cond, List, [], ◌∷◌, ◌++◌, length, get_or, All, refl, ap, ◌∙◌, arith}
use Rattle.std.proofs.lemmas.List.Sums.{sum_by-cons, sum_by-append}
use Rattle.std.proofs.lemmas.Bool.Decides.{nat_tests}
use Rattle.mh_seats.specs.Room.{times}
use Rattle.mh_tickets.specs.Draws.{once_up_to}

-- the next number is one more of those that stand once
pub one_more : (n x : ℕ) → once_up_to n x + cond ((n + 1) == x) 1 0 ≡ once_up_to (n + 1) x
one_more n x = grind (arith, nat_tests)

pub never_above : (n x : ℕ) → 0 < once_up_to n x → x ≤ n
never_above n x h = grind (arith, nat_tests)

-- a number stands once there, or not at all
pub at_most_once : (n x : ℕ) → once_up_to n x ≤ 1
at_most_once n x = grind (arith, nat_tests)

-- a list with one more number
pub times_more : (x y : ℕ) (xs : List ℕ) → times x (xs ++ y ∷ []) ≡ times x xs + cond (y == x) 1 0
times_more x y xs =
    sum_by-append (λ z. cond (z == x) 1 0) xs (y ∷ [])
    ∙ ap (λ k. times x xs + k) (sum_by-cons (λ z. cond (z == x) 1 0) y [] ∙ omega arith)

pub times_none : (x : ℕ) (xs : List ℕ) → length xs ≡ 0 → times x xs ≡ 0
times_none x [] e = refl
times_none x (y ∷ ys) e = absurd (omega arith)

-- each member of a list stands in it
times_at : (xs : List ℕ) (k d : ℕ) → k < length xs → 0 < times (get_or xs k d) xs
times_at [] k d h = absurd (omega arith)
times_at (y ∷ ys) zero d h = let s = sum_by-cons (λ z. cond (z == y) 1 0) y ys in grind (arith, nat_tests, s)
times_at (y ∷ ys) (suc k) d h = omega (arith, sum_by-cons (λ z. cond (z == get_or ys k d) 1 0) y ys, times_at ys k d (omega arith))

-- where no number above n stands in a list, all are at most n
pub all_below : (n : ℕ) (xs : List ℕ) → ((x : ℕ) → times x xs ≤ once_up_to n x) → All (λ y. y ≤ n) xs
all_below n xs h k d b =
    let x : ℕ = get_or xs k d in
    let t : 0 < times x xs = times_at xs k d b in
    let m : times x xs ≤ once_up_to n x = h x in
    never_above n x (omega arith)
