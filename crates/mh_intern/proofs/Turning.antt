-- A step on a word keeps the rule: a read, a raise, and a lowering.
use Rattle.std.proofs.Common.{◌≡◌, ℕ, ◌+◌, ◌<◌, ◌≤◌, ◌≢◌, ◌==◌, List, length, sum_by, slice_index, get_or, set, sym, ap, ◌∙◌, subst, arith, ◌⊎◌, inl, inr, ⊎_elim, length-set, get_or-set_same}
use Rattle.std.proofs.lemmas.List.{get_or-set_other}
use Rattle.std.proofs.lemmas.List.Sums.{count_by-le-length}
use native.Mathlib.Decide.{ℕ_discrete}
use mathlib.Core.Logic.{dite}
use mathlib.Core.Option.{some}
use lib.ListN.{get_elem?}
use Rattle.atomic_table.specs.Table.{State}
use Rattle.mh_values.specs.declared.types.MethodTy.{MethodTy}
use Rattle.mh_intern.specs.declared.holding.Entry.{Entry}
use Rattle.mh_intern.specs.declared.holding.Holding.{Holding}
use Rattle.mh_intern.specs.Held.{on_slot, on_type, has, weight, asks, uses, Fits, Held}
use Rattle.mh_seats.specs.Room.{times, limit}
use Rattle.mh_seats.proofs.Totals.{total_set, at_most, smaller, each_set}

-- another word stays, the word k becomes n
pub either_word : (ws : List ℕ) (k n j : ℕ) → k < length ws → ((j ≡ k) × (slice_index (set ws k n) j ≡ n))
    ⊎ ((j ≢ k) × (slice_index (set ws k n) j ≡ slice_index ws j))
either_word ws k n j lt = dite (ℕ_discrete j k)
    (λ e. inl (e, subst (λ (z : ℕ). get_or (set ws k n) z 0 ≡ n) (sym e) (get_or-set_same ws k n 0 lt)))
    (λ ne. inr (ne, get_or-set_other ws k j n 0 ne))

-- a word is at most the whole
pub word_fits : (s : State (Unit {0}) Holding) → Held s → (k : ℕ) → k < 2048 → slice_index s.words k ≤ limit
word_fits s h k lt =
    let m = smaller (λ (v : Holding). on_slot k v.holds) weight (λ v. omega (arith, count_by-le-length (λ (e : Entry). e.slot == k) v.holds)) s.views in
    omega (arith, h.words k lt, h.whole)

-- what a step on the word k, from n to m, owes of the view, whatever the table is
pub record Turns (k n m : ℕ) (v w : Holding) : Type 0 where
  pub weight : weight w ≡ weight v
  pub keeps : (b : ℕ) → times b w.keeps ≡ times b v.keeps
  pub here : on_slot k w.holds + n ≡ on_slot k v.holds + m
  pub there : (j : ℕ) → j ≢ k → on_slot j w.holds ≡ on_slot j v.holds
  pub asked : (t : MethodTy) → asks t v ≤ asks t w
  pub used : (t : MethodTy) → uses t w ≤ uses t v
  pub fits : Fits w

-- and what it owes of the table
pub record Tallies (s : State (Unit {0}) Holding) (id k m : ℕ) (w : Holding) : Type 0 where
  pub slots : (j : ℕ) → sum_by (λ u. on_slot j u.entries) (set s.views id w) ≤ 1
  pub types : (t : MethodTy) → sum_by (λ u. on_type t u.entries) (set s.views id w) ≤ 1
  pub held : (j : ℕ) (t : MethodTy) → sum_by (λ u. has j t u.entries) (set s.views id w) ≡ 0 → sum_by (λ u. has j t u.holds) (set s.views id w) ≡ 0
  pub zeros : (j : ℕ) → 0 < sum_by (λ u. times j u.zeros) (set s.views id w) → slice_index (set s.words k m) j ≡ 0

pub turned : (s : State (Unit {0}) Holding) → Held s → (id k m : ℕ) (v w : Holding) → get_elem? s.views id ≡ some v → k < 2048
    → Turns k (slice_index s.words k) m v w → Tallies s id k m w → Held record { words = set s.words k m; homes = s.homes; views = set s.views id w }
turned s h id k m v w at small t g =
    let lt : k < length s.words = omega (arith, h.wide) in
    let same : (f : Holding → ℕ) → f w ≡ f v → sum_by f (set s.views id w) ≡ sum_by f s.views = λ f e. omega (arith, total_set f s.views id v w at) in
    record {
      wide = length-set s.words k m ∙ h.wide;
      words = λ j b.
          let old = h.words j b in
          let change = total_set (λ (u : Holding). on_slot j u.holds) s.views id v w at in
          ⊎_elim
          (λ (c : (j ≡ k) × (slice_index (set s.words k m) j ≡ m)).
          let n : slice_index s.words j ≡ slice_index s.words k = ap (λ z. slice_index s.words z) c.0 in
          let a : on_slot j w.holds ≡ on_slot k w.holds = ap (λ z. on_slot z w.holds) c.0 in
          let a' : on_slot j v.holds ≡ on_slot k v.holds = ap (λ z. on_slot z v.holds) c.0 in
          omega (arith, t.here))
          (λ (c : (j ≢ k) × (slice_index (set s.words k m) j ≡ slice_index s.words j)). omega (arith, t.there j c.0))
          (either_word s.words k m j lt);
      whole = same weight t.weight ∙ h.whole;
      keepers = λ b small_b. same (λ u. times b u.keeps) (t.keeps b) ∙ h.keepers b small_b;
      slots = g.slots;
      types = g.types;
      held = g.held;
      zeros = g.zeros;
      asked = λ u e.
          let c = total_set (uses u) s.views id v w at in
          let l = t.used u in
          let o : sum_by (uses u) s.views ≡ 0 = h.asked u (omega (arith, total_set (asks u) s.views id v w at, t.asked u)) in
          let p = at_most (uses u) s.views id v at in
          omega arith;
      each = each_set Fits s.views id w h.each t.fits;
    }

-- where the lists of entries are as before
pub same_entries : (s : State (Unit {0}) Holding) → Held s → (id k m : ℕ) (v w : Holding) → get_elem? s.views id ≡ some v → w.entries ≡ v.entries
    → ((j : ℕ) (t : MethodTy) → has j t v.holds ≡ 0 → sum_by (λ u. has j t u.entries) s.views ≡ 0 → has j t w.holds ≡ 0)
    → ((j : ℕ) → 0 < sum_by (λ u. times j u.zeros) (set s.views id w) → slice_index (set s.words k m) j ≡ 0)
    → Tallies s id k m w
same_entries s h id k m v w at is covers zeros =
    let same : (f : List Entry → ℕ) → sum_by (λ u. f u.entries) (set s.views id w) ≡ sum_by (λ u. f u.entries) s.views =
    λ f. let e : f w.entries ≡ f v.entries = ap f is in omega (arith, total_set (λ (u : Holding). f u.entries) s.views id v w at) in
    record {
      slots = λ j. omega (arith, same (on_slot j), h.slots j);
      types = λ t. omega (arith, same (on_type t), h.types t);
      held = λ j t e.
          let none : sum_by (λ u. has j t u.entries) s.views ≡ 0 = sym (same (has j t)) ∙ e in
          let old = h.held j t none in
          let mine = at_most (λ (u : Holding). has j t u.holds) s.views id v at in
          let new = covers j t (omega arith) none in
          omega (arith, total_set (λ (u : Holding). has j t u.holds) s.views id v w at);
      zeros = zeros;
    }
