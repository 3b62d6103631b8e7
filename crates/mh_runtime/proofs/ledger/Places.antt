-- Items of a list by their places, where one more is put last.
use Rattle.std.proofs.Common.{◌≡◌, ℕ, zero, suc, ◌+◌, ◌-◌, ◌<◌, ◌≤◌, List, get_or, subst, Some, arith}
use Rattle.std.specs.Prelude.{slice_get, Contains}
use Rattle.std.specs.List.{range_with_len}
use Rattle.std.proofs.lemmas.List.FromFn.{length-range_with_len}
use Rattle.std.proofs.lemmas.Option.{get_or_from_slice_get, slice_get_within}

-- ---- items

pub place-contains : {A : Type 0} (xs : List A) (i : ℕ) (x : A) → slice_get xs i ≡ Some x → Contains xs x
place-contains xs i x is = (i, slice_get_within xs i x is, get_or_from_slice_get xs i x x is)

-- ---- numbers in order

pub range-from : (from n k : ℕ) → k < n → get_or (range_with_len from n) k (from + k) ≡ from + k
range-from from zero k within = absurd (omega (arith, within))
range-from from (suc n) zero within = omega arith
range-from from (suc n) (suc k) within =
    let same : (from + 1) + k ≡ from + suc k = omega arith in
    subst (λ d. get_or (range_with_len (from + 1) n) k d ≡ d) same (range-from (from + 1) n k (omega (arith, within)))

-- a number is one of a range
pub in-range : (n serial : ℕ) → 1 ≤ serial → serial ≤ n → Contains (range_with_len 1 n) serial
in-range n serial some few =
    let same : 1 + (serial - 1) ≡ serial = omega (arith, some) in (
      serial - 1,
      omega (arith, length-range_with_len 1 n, some, few),
      subst (λ d. get_or (range_with_len 1 n) (serial - 1) d ≡ d) same (range-from 1 n (serial - 1) (omega (arith, some, few))),
    )
