-- Numbers below a count, each once.
use Rattle.std.proofs.Common.{◌≡◌, ℕ, zero, suc, ◌+◌, ◌<◌, ◌≤◌, ◌==◌, cond, List, [], ◌∷◌, ◌++◌, All, sym, refl, ap, ◌∙◌, arith}
use Rattle.std.specs.List.{range_with_len}
use Rattle.std.proofs.lemmas.Bool.Decides.{nat_tests}
use Rattle.std.proofs.lemmas.List.Sums.{sum_by-cons}
use Rattle.mh_base.proofs.Lists.{range_more}
use Rattle.mh_seats.specs.Room.{times}

-- one number more
pub range_next : (n : ℕ) → range_with_len 0 n ++ n ∷ [] ≡ range_with_len 0 (n + 1)
range_next n = let e : 0 + n ≡ n = omega arith in ap (λ k. range_with_len 0 n ++ k ∷ []) (sym e) ∙ sym (range_more 0 n)

-- how often a number stands among n numbers from a on
times_below : (x a n : ℕ) → x < a → times x (range_with_len a n) ≡ 0
times_below x a zero h = refl
times_below x a (suc n) h =
    let s = sum_by-cons (λ y. cond (y == x) 1 0) a (range_with_len (a + 1) n) in
    let r = times_below x (a + 1) n (omega arith) in
    grind (arith, nat_tests, s, r)

times_above : (x a n : ℕ) → a + n ≤ x → times x (range_with_len a n) ≡ 0
times_above x a zero h = refl
times_above x a (suc n) h =
    let s = sum_by-cons (λ y. cond (y == x) 1 0) a (range_with_len (a + 1) n) in
    let r = times_above x (a + 1) n (omega arith) in
    grind (arith, nat_tests, s, r)

pub times_within : (x a n : ℕ) → a ≤ x → x < a + n → times x (range_with_len a n) ≡ 1
times_within x a zero h k = absurd (omega arith)
times_within x a (suc n) h k =
    let s = sum_by-cons (λ y. cond (y == x) 1 0) a (range_with_len (a + 1) n) in
    let r = times_below x (a + 1) n in
    let i = times_within x (a + 1) n in
    grind (arith, nat_tests, s, r, i)

pub times_few : (x a n : ℕ) → times x (range_with_len a n) ≤ 1
times_few x a zero = omega arith
times_few x a (suc n) =
    let s = sum_by-cons (λ y. cond (y == x) 1 0) a (range_with_len (a + 1) n) in
    let r = times_below x (a + 1) n in
    let i = times_few x (a + 1) n in
    grind (arith, nat_tests, s, r, i)

-- where no number from n on stands in a list, all are below n
none_above : (n : ℕ) (xs : List ℕ) → ((x : ℕ) → n ≤ x → times x xs ≡ 0) → All (λ y. y < n) xs
none_above n [] none k d b = absurd (omega arith)
none_above n (y ∷ ys) none zero d b =
    let s = sum_by-cons (λ z. cond (z == y) 1 0) y ys in
    let e : n ≤ y → times y (y ∷ ys) ≡ 0 = none y in
    grind (arith, nat_tests, s, e)
none_above n (y ∷ ys) none (suc k) d b =
    none_above n ys (λ x le. let e = none x le in omega (arith, sum_by-cons (λ z. cond (z == x) 1 0) y ys)) k d (omega arith)

-- where each number stands at most as often as among those below n, all are below n
pub all_within : (n : ℕ) (xs : List ℕ) → ((x : ℕ) → times x xs ≤ times x (range_with_len 0 n)) → All (λ y. y < n) xs
all_within n xs few = none_above n xs (λ x le. let e = times_above x 0 n (omega arith) in let m = few x in omega arith)
