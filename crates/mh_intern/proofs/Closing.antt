-- The words of the last state count the slots that the last seat holds, and the types.
use Rattle.std.proofs.Common.{◌≡◌, ℕ, zero, suc, ◌+◌, ◌<◌, ◌≤◌, ◌≢◌, ◌==◌, nat_lt, Bool, true, false, List, [], ◌∷◌, ◌++◌, length, sum_by, count_by, slice_index, take, sym, refl, ap, ◌∙◌, arith}
use Rattle.std.proofs.lemmas.Bool.{eqb-true, eq-eqb, ne_eqb}
use Rattle.std.proofs.lemmas.Bool.Decides.{nat_tests}
use Rattle.std.proofs.lemmas.List.{take_more}
use Rattle.std.proofs.lemmas.List.Sums.{count_by-le-length}
use mir.Val.{bool_byte}
use Rattle.std.proofs.lemmas.List.Sums.{sum_by-cons}
use native.Mathlib.Decide.{ℕ_discrete}
use mathlib.Core.Logic.{dite}
use mathlib.Core.Option.{some, some-injective, some-ne-none}
use lib.ListN.{get_elem?}
use Rattle.atomic_table.specs.Table.{State}
use Rattle.mh_values.specs.Same.{is_same_method_type}
use Rattle.mh_intern.specs.declared.holding.Entry.{Entry}
use Rattle.mh_intern.specs.declared.holding.Holding.{Holding}
use Rattle.mh_intern.specs.Held.{on_slot, on_type, weight, Held}
use Rattle.mh_seats.specs.Room.{limit}
use Rattle.mh_intern.specs.Lists.{Agrees, is_entry}
use Rattle.mh_intern.specs.Kinds.{up_from}
use Rattle.mh_intern.specs.Seats.{distinct_slots, distinct_types}
use Rattle.mh_seats.proofs.Totals.{alone}
use Rattle.mh_intern.proofs.Measures.{count_cons, count_append}
use Rattle.mh_intern.proofs.Entries.{bit, In, entry-itself}
use Rattle.mh_intern.proofs.Filling.{once, sum_two, sum_none}
use Rattle.mh_intern.proofs.Seating.{agree_test, agrees_less}

positive : (n : ℕ) → 0 < n → bit (nat_lt 0 n) ≡ 1
positive n lt = grind (arith, nat_tests)

pos_of : (n m : ℕ) → n ≡ m → bit (nat_lt 0 n) ≡ bit (nat_lt 0 m)
pos_of n m e = ap (λ z. bit (nat_lt 0 z)) e

same_sum : (f g : ℕ → ℕ) → ((k : ℕ) → f k ≡ g k) → (ks : List ℕ) → sum_by f ks ≡ sum_by g ks
same_sum f g is [] = refl
same_sum f g is (k ∷ ks) = omega (arith, sum_by-cons f k ks, sum_by-cons g k ks, is k, same_sum f g is ks)

-- the words are what f says
list_count : (ws : List ℕ) (f : ℕ → ℕ) (a : ℕ) → ((i : ℕ) → i < length ws → slice_index ws i ≡ f (a + i)) →
    count_by (λ n. nat_lt 0 n) ws ≡ sum_by (λ k. bit (nat_lt 0 (f k))) (up_from a (length ws))
list_count [] f a is = refl
list_count (w ∷ ws) f a is =
    let first : w ≡ f a = is 0 (omega arith) ∙ ap f (omega arith) in
    omega (
      arith,
      count_cons (λ (n : ℕ). nat_lt 0 n) w ws,
      sum_by-cons (λ (k : ℕ). bit (nat_lt 0 (f k))) a (up_from (suc a) (length ws)),
      pos_of w (f a) first,
      list_count ws f (suc a) (λ i lt. is (suc i) (omega arith) ∙ ap f (omega arith)),
    )

-- a new slot is counted once
slots_counted : (n : ℕ) (es : List Entry) → ((k : ℕ) → n ≤ k → on_slot k es ≡ 0) → sum_by (λ k. bit (nat_lt 0 (on_slot k es))) (up_from 0 n) ≡ distinct_slots es
slots_counted n [] small = sum_none (up_from 0 n)
slots_counted n (x ∷ xs) small =
    at (on_slot x.slot xs == 0) refl (slots_counted n xs (λ k le. omega (arith, count_cons (λ (e : Entry). e.slot == k) x xs, small k le)))
  where
    more : (k : ℕ) → on_slot k (x ∷ xs) ≡ bit (x.slot == k) + on_slot k xs
    more k = count_cons (λ (e : Entry). e.slot == k) x xs

    at_first : bit (x.slot == x.slot) ≡ 1
    at_first = ap bit (eq-eqb x.slot x.slot refl)

    low : x.slot < n
    low = dite (native.Mathlib.Decide.dec_le n x.slot) (λ le. let z = small x.slot le in absurd (omega (arith, more x.slot, at_first))) (λ ne. omega arith)

    at : (b : Bool) → (on_slot x.slot xs == 0) ≡ b → sum_by (λ k. bit (nat_lt 0 (on_slot k xs))) (up_from 0 n) ≡ distinct_slots xs
        → sum_by (λ k. bit (nat_lt 0 (on_slot k (x ∷ xs)))) (up_from 0 n) ≡ bit (on_slot x.slot xs == 0) + distinct_slots xs
    at true q later =
        let none : on_slot x.slot xs ≡ 0 = eqb-true (on_slot x.slot xs) 0 q in
        let o : bit (on_slot x.slot xs == 0) ≡ 1 = ap bit q in
        let each : (k : ℕ) → bit (nat_lt 0 (on_slot k (x ∷ xs))) ≡ bit (nat_lt 0 (on_slot k xs)) + bit (x.slot == k) = λ k. dite (ℕ_discrete x.slot k)
        (λ e.
        let h : bit (x.slot == k) ≡ 1 = ap bit (eq-eqb x.slot k e) in
        let z : on_slot k xs ≡ on_slot x.slot xs = ap (λ j. on_slot j xs) (sym e) in
        omega (arith, positive (on_slot k (x ∷ xs)) (omega (arith, more k)), pos_of (on_slot k xs) 0 (z ∙ none)))
        (λ ne. let h : bit (x.slot == k) ≡ 0 = ap bit (ne_eqb x.slot k ne) in omega (arith, pos_of (on_slot k (x ∷ xs)) (on_slot k xs) (omega (arith, more k))))
        in
        omega (
          arith,
          sum_two (λ k. bit (nat_lt 0 (on_slot k xs))) (λ k. bit (x.slot == k)) (λ k. bit (nat_lt 0 (on_slot k (x ∷ xs)))) each (up_from 0 n),
          once
              x.slot 0 n (omega arith) (omega (arith, low)),
        )
    at false q later =
        let o : bit (on_slot x.slot xs == 0) ≡ 0 = ap bit q in
        let some_are : on_slot x.slot xs ≢ 0 = λ e. let t : (on_slot x.slot xs == 0) ≡ true = eq-eqb (on_slot x.slot xs) 0 e in cc in
        let each : (k : ℕ) → bit (nat_lt 0 (on_slot k (x ∷ xs))) ≡ bit (nat_lt 0 (on_slot k xs)) = λ k. dite (ℕ_discrete x.slot k)
        (λ e.
        let z : on_slot k xs ≡ on_slot x.slot xs = ap (λ j. on_slot j xs) (sym e) in
        let lt : 0 < on_slot k xs = dite (ℕ_discrete (on_slot k xs) 0) (λ none. absurd (some_are (sym z ∙ none))) (λ some. omega arith) in
        omega (arith, positive (on_slot k (x ∷ xs)) (omega (arith, more k)), positive (on_slot k xs) lt))
        (λ ne. let h : bit (x.slot == k) ≡ 0 = ap bit (ne_eqb x.slot k ne) in pos_of (on_slot k (x ∷ xs)) (on_slot k xs) (omega (arith, more k))) in
        omega (arith, same_sum (λ k. bit (nat_lt 0 (on_slot k (x ∷ xs)))) (λ k. bit (nat_lt 0 (on_slot k xs))) each (up_from 0 n))

pub closes : (s : State (Unit {0}) Holding) → Held s → (id : ℕ) (v : Holding) (kept : List Entry) → get_elem? s.views id ≡ some v → weight v ≡ limit →
    ((k : ℕ) → on_slot k kept ≡ on_slot k v.holds) → ((k : ℕ) → 2048 ≤ k → on_slot k kept ≡ 0)
    → count_by (λ n. nat_lt 0 n) s.words ≡ distinct_slots kept
closes s h id v kept at whole same small =
    let mine : (k : ℕ) → on_slot k v.holds ≡ sum_by (λ u. on_slot k u.holds) s.views =
    λ k. alone weight (λ (u : Holding). on_slot k u.holds) s.views
    (λ i u there none. let m = count_by-le-length (λ (e : Entry). e.slot == k) u.holds in omega arith) id v at (omega (arith, h.whole)) in
    list_count s.words (λ k. on_slot k kept) 0
    (λ i lt. h.words i (omega (arith, h.wide)) ∙ (sym (mine i) ∙ (sym (same i) ∙ ap (λ k. on_slot k kept) (omega arith))))
    ∙ slots_counted (length s.words) kept (λ k le. small k (omega (arith, h.wide)))

-- where the holds agree, there are as many slots as types
same_count : (p q : Entry → Bool) (xs : List Entry) → ((y : Entry) → In xs y → p y ≡ q y) → count_by p xs ≡ count_by q xs
same_count p q [] is = refl
same_count p q (y ∷ ys) is =
    let o : bit (is_entry y y) ≡ 1 = ap bit (entry-itself y) in
    let first : bit (p y) ≡ bit (q y) = ap bit (is y (omega (arith, count_cons (λ (e : Entry). is_entry e y) y ys))) in
    omega (arith, count_cons p y ys, count_cons q y ys, same_count p q ys (λ z held. is z (omega (arith, count_cons (λ (e : Entry). is_entry e z) y ys))))

pub as_many : (es : List Entry) → Agrees es → distinct_slots es ≡ distinct_types es
as_many [] agrees = refl
as_many (x ∷ xs) agrees =
    let here : In (x ∷ xs) x = let o : bit (is_entry x x) ≡ 1 = ap bit (entry-itself x) in omega (arith, count_cons (λ (e : Entry). is_entry e x) x xs) in
    let longer : (y : Entry) → In xs y → In (x ∷ xs) y = λ y held. omega (arith, count_cons (λ (e : Entry). is_entry e y) x xs) in
    let same : on_slot x.slot xs ≡ on_type x.ty xs = same_count (λ y. y.slot == x.slot) (λ y. is_same_method_type y.ty x.ty) xs
    (λ y held. agree_test (x ∷ xs) y x agrees (longer y held) here) in
    let rest = as_many xs (agrees_less xs (x ∷ xs) longer agrees) in
    omega (arith, ap (λ n. bit (n == 0)) same)

-- one word more
word_at : (ws : List ℕ) (i n : ℕ) → get_elem? ws i ≡ some n → (i < length ws) × (slice_index ws i ≡ n)
word_at [] i n e = absurd (some-ne-none n (sym e))
word_at (w ∷ ws) zero n e = (omega arith, some-injective w n e)
word_at (w ∷ ws) (suc i) n e = let r = word_at ws i n e in (omega (arith, r.0), r.1)

byte_bit : (b : Bool) → bool_byte b ≡ bit b
byte_bit true = refl
byte_bit false = refl

bit_small : (b : Bool) → bit b ≤ 1
bit_small true = omega arith
bit_small false = omega arith

pub counted_more : (ws : List ℕ) (i n c : ℕ) → get_elem? ws i ≡ some n → c ≡ bool_byte (nat_lt 0 n)
    → (count_by (λ n. nat_lt 0 n) (take (i + 1) ws) ≡ count_by (λ n. nat_lt 0 n) (take i ws) + c) × (c ≤ 1)
counted_more ws i n c at is =
    let w = word_at ws i n at in
    let b : c ≡ bit (nat_lt 0 n) = is ∙ byte_bit (nat_lt 0 n) in
    let more : take (i + 1) ws ≡ take i ws ++ n ∷ [] = take_more ws i 0 w.0 ∙ ap (λ z. take i ws ++ z ∷ []) w.1 in
    let count : count_by (λ n. nat_lt 0 n) (take (i + 1) ws) ≡ count_by (λ n. nat_lt 0 n) (take i ws ++ n ∷ []) = ap (count_by (λ n. nat_lt 0 n)) more in
    (omega (arith, count_append (λ (n : ℕ). nat_lt 0 n) (take i ws) (n ∷ []), count_cons (λ (n : ℕ). nat_lt 0 n) n []), omega (arith, bit_small (nat_lt 0 n)))
