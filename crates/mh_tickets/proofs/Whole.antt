-- What the seat knows that has the room and the numbers of all, and that a seat with room can draw.
use Rattle.std.proofs.Common.{◌≡◌, ℕ, ◌+◌, ◌<◌, ◌≤◌, List, [], ◌∷◌, length, sum_by, slice_index, sym, refl, ap, ◌∙◌, arith}
use Rattle.std.proofs.lemmas.List.Sums.{sum_by-cons}
use lib.ListN.{get_elem?}
use mathlib.Core.Option.{some}
use Rattle.atomic_table.specs.Table.{State}
use Rattle.mh_seats.specs.Room.{limit, times}
use Rattle.mh_seats.proofs.Totals.{at_most, alone}
use Rattle.mh_tickets.specs.declared.drawn.Drawn.{Drawn}
use Rattle.mh_tickets.specs.Draws.{once_up_to, EachOnce, count_of, held_by, Kept}
use Rattle.mh_tickets.proofs.Counting.{times_none}

-- the seat that has all has as many numbers as were drawn
pub has_count : (s : State (Unit {0}) Drawn) → Kept s → (id : ℕ) (v : Drawn) → get_elem? s.views id ≡ some v → held_by v ≡ limit →
    length v.numbers ≡ slice_index s.words 0
has_count s k id v at full = alone held_by count_of s.views (λ _ u _ e. omega arith) id v at (omega (arith, k.whole)) ∙ k.last

-- the seat that has all has every number
pub has_all : (s : State (Unit {0}) Drawn) → Kept s → (id : ℕ) (v : Drawn) → get_elem? s.views id ≡ some v → held_by v ≡ limit → EachOnce v.numbers
has_all s k id v at full x =
    let mine : times x v.numbers ≡ sum_by (λ u. times x u.numbers) s.views =
    alone held_by (λ u. times x u.numbers) s.views (λ _ u _ e. times_none x u.numbers (omega arith)) id v at (omega (arith, k.whole)) in
    mine ∙ (k.each_once x ∙ ap (λ n. once_up_to n x) (sym (has_count s k id v at full)))

-- a view that has some room leaves a number to draw
pub fits : (s : State (Unit {0}) Drawn) → Kept s → (id : ℕ) (v : Drawn) → get_elem? s.views id ≡ some v → 0 < v.room → slice_index s.words 0 < limit
fits s k id v at some_room =
    let a : sum_by held_by s.views ≡ sum_by (λ u. u.room) s.views + sum_by count_of s.views = split_sum s.views in
    let m : v.room ≤ sum_by (λ u. u.room) s.views = at_most (λ u. u.room) s.views id v at in
    omega (arith, k.whole, k.last)
  where
    split_sum : (views : List Drawn) → sum_by held_by views ≡ sum_by (λ u. u.room) views + sum_by count_of views
    split_sum [] = refl
    split_sum (x ∷ xs) = omega (arith, sum_by-cons held_by x xs, sum_by-cons (λ (u : Drawn). u.room) x xs, sum_by-cons count_of x xs, split_sum xs)
