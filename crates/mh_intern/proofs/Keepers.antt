-- The reads of keepers, and what a keeper knows of its buckets.
use Rattle.std.proofs.Common.{◌≡◌, ℕ, ◌<◌, ◌≤◌, ◌≢◌, ◌==◌, ◌&&◌, Bool, true, false, List, [], ◌∷◌, length, sum_by, slice_index, set, sym, refl, ap, ◌∙◌, subst, arith, ⊎_elim}
use Rattle.std.proofs.lemmas.Bool.{eq-eqb, ne_eqb}
use Rattle.std.proofs.lemmas.List.Sums.{sum_by-cons}
use native.Mathlib.Decide.{ℕ_discrete}
use mathlib.Core.Logic.{dite}
use mathlib.Core.Option.{some}
use lib.ListN.{get_elem?}
use Rattle.atomic_table.specs.Table.{State, Allows, keeps}
use Rattle.mh_values.specs.declared.types.MethodTy.{MethodTy}
use Rattle.mh_values.specs.Same.{is_same_method_type}
use Rattle.mh_values.proofs.SameTypes.{same_method_type-itself}
use Rattle.mh_intern.specs.declared.holding.Entry.{Entry}
use Rattle.mh_intern.specs.declared.holding.Holding.{Holding}
use Rattle.mh_intern.specs.Buckets.{bucket_at}
use Rattle.mh_intern.specs.Held.{on_slot, has, Fits, Held}
use Rattle.mh_seats.specs.Room.{times}
use Rattle.mh_intern.specs.Kinds.{after_read}
use Rattle.mh_intern.specs.Plays.{HMe, WasRead}
use Rattle.mh_seats.proofs.Totals.{total_set, at_most, alone}
use Rattle.mh_intern.proofs.Measures.{count_cons}
use Rattle.mh_intern.proofs.Entries.{bit, has-on_slot, one_le}
use Rattle.mh_intern.proofs.Turning.{either_word, Turns, Tallies, turned, same_entries}

-- the keeper of a bucket has all of what lies in the bucket
pub all_of : (s : State (Unit {0}) Holding) → Held s → (id b : ℕ) (v : Holding) → get_elem? s.views id ≡ some v → b < 64 → 0 < times b v.keeps
    → (g : Holding → ℕ) → ((u : Holding) → Fits u → times b u.keeps ≡ 0 → g u ≡ 0) → g v ≡ sum_by g s.views
all_of s h id b v at small mine g follows =
    let m = at_most (λ (u : Holding). times b u.keeps) s.views id v at in
    alone (λ (u : Holding). times b u.keeps) g s.views (λ i u there none. follows u (h.each i u there) none) id v at (omega (arith, h.keepers b small))

-- where no type of a slot is in a list, no entry is of the slot
no_entry : (k : ℕ) (es : List Entry) → ((t : MethodTy) → has k t es ≡ 0) → on_slot k es ≡ 0
no_entry k [] none = refl
no_entry k (x ∷ xs) none =
    let p : Entry → Bool = λ e. (e.slot == k) && is_same_method_type e.ty x.ty in
    let first = count_cons (λ (e : Entry). e.slot == k) x xs in
    let hit : bit (p x) ≡ bit (x.slot == k) = at (x.slot == k) (is_same_method_type x.ty x.ty) (same_method_type-itself x.ty) in
    let rest = no_entry k xs (λ t. omega (arith, count_cons (λ (e : Entry). (e.slot == k) && is_same_method_type e.ty t) x xs, none t)) in
    omega (arith, count_cons p x xs, none x.ty)
  where
    at : (a b : Bool) → b ≡ true → bit (a && b) ≡ bit a
    at true true q = refl
    at true false q = absurd cc
    at false b q = refl

no_entries : (k : ℕ) (views : List Holding) → ((t : MethodTy) → sum_by (λ u. has k t u.holds) views ≡ 0) → sum_by (λ u. on_slot k u.holds) views ≡ 0
no_entries k [] none = refl
no_entries k (x ∷ xs) none =
    let first = no_entry k x.holds (λ t. omega (arith, sum_by-cons (λ (u : Holding). has k t u.holds) x xs, none t)) in
    let rest = no_entries k xs (λ t. omega (arith, sum_by-cons (λ (u : Holding). has k t u.holds) x xs, none t)) in
    omega (arith, sum_by-cons (λ (u : Holding). on_slot k u.holds) x xs)

-- a slot whose word is not zero has an entry in the list of its keeper
entry_of : (s : State (Unit {0}) Holding) → Held s → (id k : ℕ) (v : Holding) → get_elem? s.views id ≡ some v → k < 2048 → 0 < times (bucket_at k) v.keeps
    → ¬ (slice_index s.words k ≡ 0) → 0 < on_slot k v.entries
entry_of s h id k v at small kept some_holds =
    let mine : on_slot k v.entries ≡ sum_by (λ u. on_slot k u.entries) s.views = all_of s h id (bucket_at k) v at (omega arith) kept (λ u. on_slot k u.entries)
    (λ u fu none. fu.slots k none) in
    dite (ℕ_discrete (on_slot k v.entries) 0)
    (λ none.
    let free = no_entries k s.views (λ t. h.held k t
    (let le : sum_by (λ x. has k t x.entries) s.views ≤ sum_by (λ x. on_slot k x.entries) s.views =
    one_le (λ (x : Holding). has k t x.entries) (λ x. on_slot k x.entries) (λ x. has-on_slot k t x.entries) s.views in omega arith)) in
    absurd (some_holds (h.words k small ∙ free)))
    (λ some_are. omega arith)

pub reads_allowed : (slots id k : ℕ) (me : HMe) → k < 2048 → 0 < times (bucket_at k) me.0.keeps
    → Allows Held slots id me k (λ n. n) (λ n m. WasRead k n me.0 m.0 × (m.1 ≡ me.1))
reads_allowed slots id k me small kept s h _ at _ =
    let v : Holding = me.0 in
    let n : ℕ = slice_index s.words k in
    let w : Holding = after_read k n v in
    let f : Fits v = h.each id v at in
    let lt : k < length s.words = omega (arith, h.wide) in
    let more : (j : ℕ) → j ≢ k → times j w.zeros ≡ times j v.zeros = λ j apart. dite (ℕ_discrete n 0)
    (λ none. let q : (n == 0) ≡ true = eq-eqb n 0 none in let z : bit (k == j) ≡ 0 = ap bit (ne_eqb k j (λ p. apart (sym p))) in
    rw q (omega (arith, count_cons (λ (y : ℕ). y == j) k v.zeros)))
    (λ some_are. let q : (n == 0) ≡ false = ne_eqb n 0 some_are in rw q refl) in
    let busy : n ≢ 0 → w.zeros ≡ v.zeros = λ some_are. let q : (n == 0) ≡ false = ne_eqb n 0 some_are in rw q refl in
    let t : Turns k n n v w = record {
      weight = refl;
      keeps = λ b. refl;
      here = refl;
      there = λ j apart. refl;
      asked = λ u. omega arith;
      used = λ u. omega arith;
      fits = record {
        slots = f.slots;
        types = f.types;
        zeros = λ j none. dite (ℕ_discrete j k)
            (λ is. let e : times (bucket_at j) v.keeps ≡ times (bucket_at k) v.keeps = ap (λ (z : ℕ). times (bucket_at z) v.keeps) is in absurd (omega arith))
            (λ apart. more j apart ∙ f.zeros j none);
        full = f.full;
        idle = f.idle;
      };
    } in
    let g : Tallies s id k n w = same_entries s h id k n v w at refl (λ j u none _. none)
    (λ j some_zeros. ⊎_elim
    (λ (c : (j ≡ k) × (slice_index (set s.words k n) j ≡ n)). c.1 ∙ dite (ℕ_discrete n 0) (λ e. e)
    (λ some_are.
    let e : times j w.zeros ≡ times j v.zeros = ap (times j) (busy some_are) in
    let q : slice_index s.words j ≡ n = ap (λ z. slice_index s.words z) c.0 in
    sym q ∙ h.zeros j (omega (arith, total_set (λ (u : Holding). times j u.zeros) s.views id v w at))))
    (λ (c : (j ≢ k) × (slice_index (set s.words k n) j ≡ slice_index s.words j)).
    let e = more j c.0 in c.1 ∙ h.zeros j (omega (arith, total_set (λ (u : Holding). times j u.zeros) s.views id v w at)))
    (either_word s.words k n j lt)) in
    let found : WasRead k n v w = record {
      now = refl;
      used = entry_of s h id k v at small kept;
    } in
    (w, keeps, tt, turned s h id k n v w at small t g, (found, refl))

-- the zeros that are left after a raise by the keeper of the bucket
pub zeros_left : (s : State (Unit {0}) Holding) → Held s → (id k m : ℕ) (v w : Holding) → get_elem? s.views id ≡ some v → w.zeros ≡ [] → k < 2048 →
    0 < times (bucket_at k) v.keeps
    → (j : ℕ) → 0 < sum_by (λ u. times j u.zeros) (set s.views id w) → slice_index (set s.words k m) j ≡ 0
zeros_left s h id k m v w at is small kept j lt =
    let e : times j w.zeros ≡ 0 = ap (times j) is in
    let c = total_set (λ (u : Holding). times j u.zeros) s.views id v w at in
    ⊎_elim
    (λ (c' : (j ≡ k) × (slice_index (set s.words k m) j ≡ m)).
    let mine : times j v.zeros ≡ sum_by (λ u. times j u.zeros) s.views = all_of s h id (bucket_at k) v at (omega arith) kept (λ u. times j u.zeros)
    (λ u f none. f.zeros j (subst (λ (z : ℕ). times (bucket_at z) u.keeps ≡ 0) (sym c'.0) none)) in
    absurd (omega arith))
    (λ (c' : (j ≢ k) × (slice_index (set s.words k m) j ≡ slice_index s.words j)). c'.1 ∙ h.zeros j (omega arith))
    (either_word s.words k m j (omega (arith, h.wide)))
