-- Attempts that are sorted by their serials.
use Rattle.std.proofs.Common.{◌≡◌, refl, sym, ◌∙◌, ap, ap₂, ℕ, suc, ◌+◌, ◌<◌, ◌≤◌, ◌&&◌, cond, List, [], ◌∷◌, length, get_or, map, ⊎_elim, arith}
use Rattle.std.specs.Prelude.{◌==◌, Contains}
use Rattle.std.specs.List.{range_with_len}
use Rattle.std.specs.List.Sorted.{IsNonDecreasingBy, IsPermutation}
use lib.Dec.{leb, ltb}
use Rattle.std.proofs.lemmas.Bool.{cases_eq, eq-eqb, ne_eqb}
use Rattle.std.proofs.lemmas.Bool.Decides.{nat_tests}
use Rattle.std.proofs.lemmas.List.{get_or-map, length-map}
use Rattle.std.proofs.lemmas.List.Sorted.{IsPermutation-map, length_permutation, sum_by-IsPermutation}
use Rattle.std.proofs.lemmas.List.Sums.{sum_by-cons}
use Rattle.mh_seats.specs.Room.{times}
use Rattle.mh_tickets.specs.Draws.{EachOnce, once_up_to}
use Rattle.mh_report.specs.declared.attempt.Attempt.{Attempt}
use Rattle.mh_runtime.specs.Joined.{AreInOrder}
use Rattle.mh_runtime.proofs.ledger.Rising.{contains-cases, contains-later}

-- ---- how often a number stands in a list

-- 1 for a number that is the other one
abbrev pub is_it : ℕ → ℕ → ℕ
is_it y x = cond (y == x) 1 0

pub times-cons : (x y : ℕ) (ys : List ℕ) → times x (y ∷ ys) ≡ is_it y x + times x ys
times-cons x y ys = sum_by-cons (λ z. is_it z x) y ys

-- a number that stands in a list is one of its numbers
pub times-contains : (x : ℕ) (ys : List ℕ) → 0 < times x ys → Contains ys x
times-contains x [] some = absurd (omega (arith, some))
times-contains x (y ∷ ys) some = ⊎_elim
    (λ (same : y ≡ x). (0, omega arith, same))
    (λ (other : y ≡ x → ⊥).
    let none : is_it y x ≡ 0 = ap (λ b. cond b 1 0) (ne_eqb y x other) in
    contains-later y ys x (times-contains x ys (omega (arith, some, times-cons x y ys, none))))
    (cases_eq y x)

pub contains-times : (x : ℕ) (ys : List ℕ) → Contains ys x → 0 < times x ys
contains-times x [] h = absurd (omega (arith, h.1))
contains-times x (y ∷ ys) h = ⊎_elim
    (λ (same : y ≡ x). let one : is_it y x ≡ 1 = ap (λ b. cond b 1 0) (eq-eqb y x same) in omega (arith, one, times-cons x y ys))
    (λ (later : Contains ys x). omega (arith, contains-times x ys later, times-cons x y ys))
    (contains-cases y ys x h)

-- ---- numbers that stand once

-- 1 for so many numbers from one on, and else 0
abbrev once_from : ℕ → ℕ → ℕ → ℕ
once_from from n x = cond (leb from x && ltb x (from + n)) 1 0

from-first : (from n x : ℕ) → 0 < once_from from n x → from ≤ x
from-first from n x some = grind (arith, nat_tests)

first-once : (from n : ℕ) → once_from from (suc n) from ≡ 1
first-once from n = grind (arith, nat_tests)

once-after : (from n x : ℕ) → once_from from (suc n) x ≡ is_it from x + once_from (from + 1) n x
once-after from n x = grind (arith, nat_tests)

once-to : (n x : ℕ) → once_up_to n x ≡ once_from 1 n x
once-to n x = grind (arith, nat_tests)

module _ {A : Type 0} (n : A → ℕ) where
  -- the first is no greater than the others
  first-least : (a : A) (xs : List A) (x : ℕ) → IsNonDecreasingBy n (a ∷ xs) → Contains (map n xs) x → n a ≤ x
  first-least a xs x up h =
      let within : h.0 < length xs = omega (arith, h.1, length-map xs n) in
      let later : n (get_or xs h.0 a) ≡ x = sym (get_or-map n xs h.0 a x within) ∙ h.2 in
      omega (arith, later, up 0 (suc h.0) a (omega arith) (omega (arith, within)))

  pub sorted-range : (xs : List A) (from : ℕ) → IsNonDecreasingBy n xs → ((x : ℕ) → times x (map n xs) ≡ once_from from (length xs) x) →
      map n xs ≡ range_with_len from (length xs)
  sorted-range [] from up once = refl
  sorted-range (a ∷ xs) from up once =
      let first : n a ≡ from = is-first in
      ap₂ (λ k ks. k ∷ ks) first (sorted-range xs (from + 1) (λ i j d order within. up (suc i) (suc j) d (omega (arith, order)) (omega (arith, within)))
      (λ x.
      let one : is_it (n a) x ≡ is_it from x = ap (λ k. is_it k x) first in
      omega (arith, one, once x, times-cons x (n a) (map n xs), once-after from (length xs) x)))
    where
      is-first : n a ≡ from
      is-first = ⊎_elim
          (λ (same : n a ≡ from). same)
          (λ (other : n a ≡ from → ⊥).
          let none : is_it (n a) from ≡ 0 = ap (λ b. cond b 1 0) (ne_eqb (n a) from other) in
          let here : is_it (n a) (n a) ≡ 1 = ap (λ b. cond b 1 0) (eq-eqb (n a) (n a) refl) in
          let above : from ≤ n a = from-first from (length (a ∷ xs)) (n a) (omega (arith, here, once (n a), times-cons (n a) (n a) (map n xs))) in
          let below : n a ≤ from = first-least a xs from up (times-contains from (map n xs)
          (omega (arith, none, once from, times-cons from (n a) (map n xs), first-once from (length xs)))) in
          omega (arith, above, below))
          (cases_eq (n a) from)

-- ---- attempts

-- attempts with serials that are 1 to their count, each once, are in order where they are sorted by them
pub in-order : (attempts ordered : List Attempt) (numbers : List ℕ) → map (λ (a : Attempt). a.serial) attempts ≡ numbers → EachOnce numbers →
    IsPermutation attempts ordered → IsNonDecreasingBy (λ (a : Attempt). a.serial) ordered → AreInOrder attempts ordered
in-order attempts ordered numbers serials once same up = record {
  same = same;
  serials = sorted-range (λ (a : Attempt). a.serial) ordered 1 up (λ x.
      let moved : times x (map (λ (a : Attempt). a.serial) ordered) ≡ times x (map (λ (a : Attempt). a.serial) attempts) =
      sum_by-IsPermutation (λ y. is_it y x) (map (λ (a : Attempt). a.serial) attempts) (map (λ (a : Attempt). a.serial) ordered)
      (IsPermutation-map (λ (a : Attempt). a.serial) attempts ordered same) in
      let count : length numbers ≡ length ordered =
      ap length (sym serials) ∙ (length-map attempts (λ (a : Attempt). a.serial) ∙ sym (length_permutation attempts ordered same)) in
      moved ∙ (ap (times x) serials ∙ (once x ∙ (ap (λ n. once_up_to n x) count ∙ once-to (length ordered) x))));
}
