-- A bucket whose slots were all read as not zero is full.
use Rattle.std.proofs.Common.{◌≡◌, ℕ, zero, suc, ◌+◌, ◌*◌, ◌<◌, ◌≤◌, ◌==◌, false, cond, List, [], ◌∷◌, length, sum_by, slice_index, get_or, sym, refl, ap, ◌∙◌, subst, arith}
use Rattle.std.proofs.lemmas.Bool.{eq-eqb, ne_eqb}
use Rattle.std.proofs.lemmas.List.Sums.{sum_by-cons}
use native.Mathlib.Decide.{ℕ_discrete}
use mathlib.Core.Logic.{dite}
use Rattle.mh_intern.specs.declared.holding.Entry.{Entry}
use Rattle.mh_intern.specs.declared.holding.Holding.{Holding}
use Rattle.mh_intern.specs.Buckets.{bucket_of, bucket_at}
use Rattle.mh_intern.specs.Held.{on_slot, IsFull}
use Rattle.mh_seats.specs.Room.{times}
use Rattle.mh_intern.specs.Lists.{Listed}
use Rattle.mh_intern.specs.Kinds.{full_bucket, up_from, with_notes}
use Rattle.mh_intern.specs.Plays.{WasRead}
use Rattle.mh_intern.proofs.Measures.{count_cons}
use Rattle.mh_intern.proofs.Entries.{bit}

pub on_slot-at : (es : List Entry) (i : ℕ) (d : Entry) → i < length es → 0 < on_slot (get_or es i d).slot es
on_slot-at [] i d lt = absurd (omega arith)
on_slot-at (x ∷ xs) zero d lt = let o : bit (x.slot == x.slot) ≡ 1 = ap bit (eq-eqb x.slot x.slot refl) in
    omega (arith, count_cons (λ (e : Entry). e.slot == x.slot) x xs)
on_slot-at (x ∷ xs) (suc i) d lt = omega (arith, count_cons (λ (e : Entry). e.slot == (get_or xs i d).slot) x xs, on_slot-at xs i d (omega arith))

never : (s a n : ℕ) → s < a → sum_by (λ k. bit (s == k)) (up_from a n) ≡ 0
never s a zero lt = refl
never s a (suc n) lt =
    let o : bit (s == a) ≡ 0 = ap bit (ne_eqb s a (λ e. omega arith)) in
    omega (arith, sum_by-cons (λ (k : ℕ). bit (s == k)) a (up_from (suc a) n), never s (suc a) n (omega arith))

pub once : (s a n : ℕ) → a ≤ s → s < a + n → sum_by (λ k. bit (s == k)) (up_from a n) ≡ 1
once s a zero le lt = absurd (omega arith)
once s a (suc n) le lt = dite (ℕ_discrete s a)
    (λ is.
    let o : bit (s == a) ≡ 1 = ap bit (eq-eqb s a is) in
    omega (arith, sum_by-cons (λ (k : ℕ). bit (s == k)) a (up_from (suc a) n), never s (suc a) n (omega arith)))
    (λ apart.
    let o : bit (s == a) ≡ 0 = ap bit (ne_eqb s a apart) in
    omega (arith, sum_by-cons (λ (k : ℕ). bit (s == k)) a (up_from (suc a) n), once s (suc a) n (omega arith) (omega arith)))

pub sum_two : (f g h : ℕ → ℕ) → ((k : ℕ) → h k ≡ f k + g k) → (ks : List ℕ) → sum_by h ks ≡ sum_by f ks + sum_by g ks
sum_two f g h is [] = refl
sum_two f g h is (x ∷ xs) = omega (arith, sum_by-cons f x xs, sum_by-cons g x xs, sum_by-cons h x xs, is x, sum_two f g h is xs)

pub sum_none : (ks : List ℕ) → sum_by (λ k. 0) ks ≡ 0
sum_none [] = refl
sum_none (x ∷ xs) = omega (arith, sum_by-cons (λ (k : ℕ). 0) x xs, sum_none xs)

-- the entries are counted slot by slot
slot_by_slot : (a n : ℕ) (es : List Entry) → ((j : ℕ) → ¬ ((a ≤ j) × (j < a + n)) → on_slot j es ≡ 0) → sum_by (λ k. on_slot k es) (up_from a n) ≡ length es
slot_by_slot a n [] outside = sum_none (up_from a n)
slot_by_slot a n (x ∷ xs) outside =
    let first : (k : ℕ) → on_slot k (x ∷ xs) ≡ bit (x.slot == k) + on_slot k xs = λ k. count_cons (λ (e : Entry). e.slot == k) x xs in
    let within : ¬ ¬ ((a ≤ x.slot) × (x.slot < a + n)) =
    λ out. let z = outside x.slot out in let o : bit (x.slot == x.slot) ≡ 1 = ap bit (eq-eqb x.slot x.slot refl) in absurd (omega (arith, first x.slot)) in
    let lower : a ≤ x.slot = dite (native.Mathlib.Decide.dec_le a x.slot) (λ e. e) (λ ne. absurd (within (λ p. ne p.0))) in
    let upper : x.slot + 1 ≤ a + n = dite (native.Mathlib.Decide.dec_le (x.slot + 1) (a + n)) (λ e. e) (λ ne. absurd (within (λ p. ne (omega (arith, p.1))))) in
    omega (
      arith,
      sum_two (λ (k : ℕ). bit (x.slot == k)) (λ k. on_slot k xs) (λ k. on_slot k (x ∷ xs)) first (up_from a n),
      once x.slot a n lower (omega arith),
      slot_by_slot a n xs (λ j out. omega (arith, first j, outside j out)),
    )

ones : (f : ℕ → ℕ) (a n : ℕ) → ((j : ℕ) → a ≤ j → j < a + n → f j ≡ 1) → sum_by f (up_from a n) ≡ n
ones f a zero all = refl
ones f a (suc n) all = omega (
  arith,
  sum_by-cons f a (up_from (suc a) n),
  all a (omega arith) (omega arith),
  ones f (suc a) n
      (λ j le lt. all j (omega arith) (omega arith)),
)

pub full_at : (b : ℕ) (v : Holding) → v.keeps ≡ b ∷ [] → Listed b v.entries → ((j : ℕ) → 32 * b ≤ j → j < 32 * b + 32 → (0 < times j v.busy)
    × (0 < on_slot j v.entries)) → IsFull (full_bucket v)
full_at b v keeps l read =
    let head : slice_index v.keeps 0 ≡ b = ap (λ z. slice_index z 0) keeps in
    record {
      many = sym (slot_by_slot (32 * b) 32 v.entries (λ j out. l.slots j (λ e. out (omega arith, omega arith))))
          ∙ ones (λ k. on_slot k v.entries) (32 * b) 32 (λ j le lt. let r = (read j le lt).1 in let o = l.one_slot j in omega arith);
      apart = l.one_type;
      here = λ t some_are. dite (ℕ_discrete (bucket_of t) b) (λ e. e ∙ sym head) (λ ne. let z = l.types t ne in absurd (omega arith));
      read = λ i d lt.
          let k : ℕ = (get_or v.entries i d).slot in
          let there : 0 < on_slot k v.entries = on_slot-at v.entries i d lt in
          dite (ℕ_discrete (bucket_at k) b)
          (λ e. (read k (omega arith) (omega arith)).0)
          (λ ne. let z = l.slots k ne in absurd (omega arith));
    }

-- one slot more was read, and is not zero
pub read_more : (b i n : ℕ) (u v w : Holding) → v ≡ with_notes v.zeros v.busy u → WasRead (32 * b + i) n v w → ¬ (n ≡ 0)
    → ((j : ℕ) → 32 * b ≤ j → j < 32 * b + i → (0 < times j v.busy) × (0 < on_slot j v.entries))
    → (w ≡ with_notes w.zeros w.busy u) × ((j : ℕ) → 32 * b ≤ j → j < 32 * b + (i + 1) → (0 < times j w.busy) × (0 < on_slot j w.entries))
read_more b i n u v w is f some_holds all =
    let k : ℕ = 32 * b + i in
    let q : (n == 0) ≡ false = ne_eqb n 0 some_holds in
    let busy : w.busy ≡ k ∷ v.busy = ap (λ z. z.busy) f.now ∙ rw q refl in
    let entries : w.entries ≡ v.entries = ap (λ z. z.entries) f.now in
    let now : w ≡ with_notes (cond (n == 0) (k ∷ v.zeros) v.zeros) (cond (n == 0) v.busy (k ∷ v.busy)) u =
    f.now ∙ ap (λ z. with_notes (cond (n == 0) (k ∷ v.zeros) v.zeros) (cond (n == 0) v.busy (k ∷ v.busy)) z) is in (
      subst (λ z. z ≡ with_notes z.zeros z.busy u) (sym now) refl,
      λ j le lt.
          let t : times j w.busy ≡ bit (k == j) + times j v.busy = ap (times j) busy ∙ count_cons (λ (y : ℕ). y == j) k v.busy in
          let o : on_slot j w.entries ≡ on_slot j v.entries = ap (on_slot j) entries in
          dite (ℕ_discrete k j)
          (λ e.
          let h : bit (k == j) ≡ 1 = ap bit (eq-eqb k j e) in
          let m : on_slot k v.entries ≡ on_slot j v.entries = ap (λ z. on_slot z v.entries) e in
          let used = f.used some_holds in
          (omega arith, omega arith))
          (λ ne. let old = all j le (omega arith) in let a = old.0 in let a' = old.1 in (omega arith, omega arith)),
    )
