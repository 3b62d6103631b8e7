-- Each kind of step keeps the rule, and what it tells holds.
use Rattle.std.proofs.Common.{◌≡◌, ℕ, zero, suc, ◌+◌, ◌-◌, ◌%◌, ◌<◌, ◌≤◌, ◌==◌, cond, List, [], ◌∷◌, ◌++◌, length, sum_by, slice_index, get_or, set, sym, refl, ◌∙◌, subst, arith, length-set, get_or-set_same, length-append}
use Rattle.std.proofs.lemmas.List.Sums.{sum_by-cons, sum_by-append}
use Rattle.std.proofs.lemmas.Bool.Decides.{nat_tests}
use lib.ListN.{get_elem?}
use mathlib.Core.Option.{some, some-ne-none}
use Rattle.atomic_table.specs.Table.{State, Me, Allows, Splits, Joins, keeps}
use Rattle.atomic_table.proofs.Lists.{set_again}
use Rattle.mh_seats.specs.Room.{limit, times}
use Rattle.mh_tickets.specs.declared.drawn.Drawn.{Drawn}
use Rattle.mh_tickets.specs.Draws.{EachOnce, drawn, count_of, held_by, Kept, Drew, Looked, without, joined_views}
use Rattle.mh_seats.proofs.Totals.{total_set, at_most, alone}
use Rattle.mh_tickets.proofs.Counting.{all_below, at_most_once, one_more, times_more}
use Rattle.mh_tickets.proofs.Whole.{has_all, has_count, fits}

set_there : (views : List Drawn) (id : ℕ) (v w : Drawn) → get_elem? views id ≡ some v → get_elem? (set views id w) id ≡ some w
set_there [] id v w e = absurd (some-ne-none v (sym e))
set_there (x ∷ xs) zero v w e = refl
set_there (x ∷ xs) (suc i) v w e = set_there xs i v w e

set_word : (words : List ℕ) → set words 0 (slice_index words 0) ≡ words
set_word [] = refl
set_word (x ∷ xs) = refl

after_draw : (s : State (Unit {0}) Drawn) → Kept s → (id : ℕ) (v : Drawn) → get_elem? s.views id ≡ some v → 0 < v.room
    → let n = slice_index s.words 0 in
    Kept record { words = set s.words 0 (n + 1); homes = s.homes; views = set s.views id (drawn (v.numbers ++ (n + 1) ∷ []) (v.room - 1)) }
after_draw s k id v at some_room =
    let n : ℕ = slice_index s.words 0 in
    let w : Drawn = drawn (v.numbers ++ (n + 1) ∷ []) (v.room - 1) in
    let here : get_or (set s.words 0 (n + 1)) 0 0 ≡ n + 1 = get_or-set_same s.words 0 (n + 1) 0 (omega (arith, k.one_word)) in
    record {
      one_word = length-set s.words 0 (n + 1) ∙ k.one_word;
      each_once = λ x.
          let t = total_set (λ u. times x u.numbers) s.views id v w at in
          let m = times_more x (n + 1) v.numbers in
          let o = one_more n x in
          let e = k.each_once x in
          rw here (omega arith);
      last = let t = total_set count_of s.views id v w at in rw here (omega (arith, k.last, length-append v.numbers ((n + 1) ∷ [])));
      whole = let t = total_set held_by s.views id v w at in omega (arith, k.whole, length-append v.numbers ((n + 1) ∷ []));
    }

-- a draw
pub draws_allowed : (slots id : ℕ) (me : Me (Unit {0}) Drawn) → 0 < me.0.room
    → Allows Kept slots id me 0 (λ n. (n + 1) % 18446744073709551616) (λ n m. Drew me.0 n m.0 × (m.1 ≡ me.1))
draws_allowed slots id me some_room s k _ at _ =
    let n : ℕ = slice_index s.words 0 in
    let v : Drawn = me.0 in
    let w : Drawn = drawn (v.numbers ++ (n + 1) ∷ []) (v.room - 1) in
    let small : n < limit = fits s k id v at some_room in
    let whole : (n + 1) % 18446744073709551616 ≡ n + 1 = omega arith in
    let after = after_draw s k id v at some_room in
    let there : get_elem? (set s.views id w) id ≡ some w = set_there s.views id v w at in (
      w,
      keeps,
      tt,
      rw whole after,
      (
        record {
          now = refl;
          fits = small;
          next = λ full. sym (has_count s k id v at full);
          greater = all_below n v.numbers (λ x. let m = at_most (λ (u : Drawn). times x u.numbers) s.views id v at in let e = k.each_once x in omega arith);
          all = λ full. has_all record { words = set s.words 0 (n + 1); homes = s.homes; views = set s.views id w } after id w there full;
        },
        refl,
      ),
    )

-- a look
pub looks_allowed : (slots id : ℕ) (me : Me (Unit {0}) Drawn)
    → Allows Kept slots id me 0 (λ n. n) (λ n m. Looked me.0 m.0 × (m.1 ≡ me.1))
looks_allowed slots id me s k _ at _ = (
  me.0,
  keeps,
  tt,
  subst (λ (z : List ℕ × List Drawn). Kept record { words = z.0; homes = s.homes; views = z.1 })
      (λ i. (sym (set_word s.words) i, sym (set_again s.views id me.0 at) i)) k,
  (
    record {
      same = refl;
      distinct = λ x.
          let m = at_most (λ (u : Drawn). times x u.numbers) s.views id me.0 at in
          let once = at_most_once (slice_index s.words 0) x in
          let e = k.each_once x in
          omega arith;
      all = has_all s k id me.0 at;
    },
    refl,
  ),
)

-- a cut
pub cuts_allowed : (id room : ℕ) (v : Drawn) → room ≤ v.room → Splits Kept id v (without room v) (drawn [] room)
cuts_allowed id room v le s k at =
    let left : Drawn = without room v in
    let right : Drawn = drawn [] room in
    record {
      one_word = k.one_word;
      each_once = λ x.
          let t = total_set (λ u. times x u.numbers) s.views id v left at in
          let a = sum_by-append (λ (u : Drawn). times x u.numbers) (set s.views id left) (right ∷ []) in
          let o = sum_by-cons (λ (u : Drawn). times x u.numbers) right [] in
          omega (arith, k.each_once x);
      last =
          let t = total_set count_of s.views id v left at in
          let a = sum_by-append count_of (set s.views id left) (right ∷ []) in
          let o = sum_by-cons count_of right [] in
          omega (arith, k.last);
      whole =
          let t = total_set held_by s.views id v left at in
          let a = sum_by-append held_by (set s.views id left) (right ∷ []) in
          let o = sum_by-cons held_by right [] in
          omega (arith, k.whole);
    }

-- a join
pub joins_allowed : (id : ℕ) (v : Drawn) (other : ℕ) (w : Drawn) → Joins Kept id v other w (joined_views v w) (drawn [] 0)
joins_allowed id v other w s k at apart there =
    let both : Drawn = joined_views v w in
    let none : Drawn = drawn [] 0 in
    record {
      one_word = k.one_word;
      each_once = λ x.
          let t = total_set (λ u. times x u.numbers) s.views id v both at in
          let u = total_set (λ u. times x u.numbers) (set s.views id both) other w none there in
          let a : times x (v.numbers ++ w.numbers) ≡ times x v.numbers + times x w.numbers = sum_by-append (λ z. cond (z == x) 1 0) v.numbers w.numbers in
          omega (arith, k.each_once x);
      last =
          let t = total_set count_of s.views id v both at in
          let u = total_set count_of (set s.views id both) other w none there in
          omega (arith, k.last, length-append v.numbers w.numbers);
      whole =
          let t = total_set held_by s.views id v both at in
          let u = total_set held_by (set s.views id both) other w none there in
          omega (arith, k.whole, length-append v.numbers w.numbers);
    }

-- the end, seen by the seat that has all
pub ends : (s : State (Unit {0}) Drawn) → Kept s → (id : ℕ) (v : Drawn) → get_elem? s.views id ≡ some v → held_by v ≡ limit
    → (slice_index s.words 0 ≡ length v.numbers) × EachOnce v.numbers
ends s k id v at full =
    let count : length v.numbers ≡ sum_by count_of s.views = alone held_by count_of s.views (λ _ u _ e. omega arith) id v at (omega (arith, k.whole)) in
    (omega (arith, k.last), has_all s k id v at full)

pub opens : Kept record { words = 0 ∷ []; homes = []; views = drawn [] limit ∷ [] }
opens = record { one_word = refl; each_once = λ x. grind (arith, nat_tests); last = refl; whole = refl }
