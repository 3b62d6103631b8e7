-- The steps of callers on words: a raise and a lowering of a slot that is held.
use Rattle.std.proofs.Common.{◌≡◌, ℕ, zero, suc, ◌+◌, ◌-◌, ◌%◌, ◌<◌, ◌≤◌, ◌≢◌, ◌==◌, ◌&&◌, Bool, true, false, cond, List, ◌∷◌, ◌++◌, length, sum_by, count_by, slice_index, set, replicate, sym, refl, ap, ◌∙◌, arith, ⊎_elim, length-append}
use Rattle.std.proofs.lemmas.List.{length-replicate}
use Rattle.std.proofs.lemmas.List.Sums.{count_by-le-length}
use Rattle.std.proofs.lemmas.Bool.{eq-eqb, ne_eqb}
use mathlib.Core.Option.{some}
use lib.ListN.{get_elem?}
use Rattle.atomic_table.specs.Table.{State, Allows, keeps}
use Rattle.mh_values.specs.declared.types.MethodTy.{MethodTy}
use Rattle.mh_values.specs.Same.{is_same_method_type}
use Rattle.mh_intern.specs.declared.holding.Entry.{Entry}
use Rattle.mh_intern.specs.declared.holding.Holding.{Holding}
use Rattle.mh_intern.specs.Held.{times_type, on_slot, has, Fits, Held}
use Rattle.mh_seats.specs.Room.{times, limit}
use Rattle.mh_intern.specs.Lists.{entry, is_entry, removed}
use Rattle.mh_intern.specs.Kinds.{held_more, held_less, kept_more, kept_asked, kept_less, counted_more}
use Rattle.mh_intern.specs.Plays.{HMe}
use Rattle.mh_seats.proofs.Totals.{total_set, at_most}
use Rattle.mh_intern.proofs.Measures.{count_cons, count_append}
use Rattle.mh_intern.proofs.Entries.{bit, not_hit, removed_count, removed_length, has-on_slot}
use Rattle.mh_intern.proofs.Turning.{either_word, word_fits, Turns, Tallies, turned, same_entries}

pub slot_hit : (e : Entry) (k : ℕ) → e.slot ≡ k → bit (e.slot == k) ≡ 1
slot_hit e k is = ap bit (eq-eqb e.slot k is)

pub slot_missed : (e : Entry) (k j : ℕ) → e.slot ≡ k → j ≢ k → bit (e.slot == j) ≡ 0
slot_missed e k j is apart = ap bit (ne_eqb e.slot j (λ q. apart (sym q ∙ is)))

-- a slot that is held has a word that is not zero
pub word_held : (s : State (Unit {0}) Holding) → Held s → (id k : ℕ) (e : Entry) (v : Holding) → get_elem? s.views id ≡ some v → e.slot ≡ k → k < 2048 →
    0 < has e.slot e.ty v.holds
    → (0 < on_slot k v.holds) × (on_slot k v.holds ≤ slice_index s.words k)
word_held s h id k e v at is small mine =
    let m = at_most (λ (u : Holding). on_slot k u.holds) s.views id v at in
    let a : has e.slot e.ty v.holds ≤ on_slot e.slot v.holds = has-on_slot e.slot e.ty v.holds in
    let b : on_slot e.slot v.holds ≡ on_slot k v.holds = ap (λ z. on_slot z v.holds) is in
    (omega arith, omega (arith, h.words k small))

-- zeros stay where a word that is not zero changes, and the notes stay
zeros_stay : (s : State (Unit {0}) Holding) → Held s → (id k m : ℕ) (v w : Holding) → get_elem? s.views id ≡ some v → w.zeros ≡ v.zeros → k < 2048 →
    0 < slice_index s.words k
    → (j : ℕ) → 0 < sum_by (λ u. times j u.zeros) (set s.views id w) → slice_index (set s.words k m) j ≡ 0
zeros_stay s h id k m v w at is small some_holds j lt =
    let e : times j w.zeros ≡ times j v.zeros = ap (times j) is in
    let old : slice_index s.words j ≡ 0 = h.zeros j (omega (arith, total_set (λ (u : Holding). times j u.zeros) s.views id v w at)) in
    ⊎_elim (λ (c : (j ≡ k) × (slice_index (set s.words k m) j ≡ m)). let q : slice_index s.words j ≡ slice_index s.words k =
    ap (λ z. slice_index s.words z) c.0 in absurd (omega arith))
    (λ (c : (j ≢ k) × (slice_index (set s.words k m) j ≡ slice_index s.words j)). c.1 ∙ old)
    (either_word s.words k m j (omega (arith, h.wide)))

pub dups_allowed : (slots id k : ℕ) (e : Entry) (me : HMe) → e.slot ≡ k → k < 2048 → 1 ≤ me.0.room → 0 < has e.slot e.ty me.0.holds
    → Allows Held slots id me k (λ n. (n + 1) % 18446744073709551616) (λ n m. (m.0 ≡ held_more e me.0) × (m.1 ≡ me.1))
dups_allowed slots id k e me is small room mine s h _ at _ =
    let v : Holding = me.0 in
    let n : ℕ = slice_index s.words k in
    let w : Holding = held_more e v in
    let f : Fits v = h.each id v at in
    let q = word_held s h id k e v at is small mine in
    let fit : n ≤ limit = word_fits s h k small in
    let no_wrap : (n + 1) % 18446744073709551616 ≡ n + 1 = omega arith in
    let t : Turns k n (n + 1) v w = record {
      weight = omega arith;
      keeps = λ b. refl;
      here = omega (arith, count_cons (λ (x : Entry). x.slot == k) e v.holds, slot_hit e k is);
      there = λ j apart. omega (arith, count_cons (λ (x : Entry). x.slot == j) e v.holds, slot_missed e k j is apart);
      asked = λ u. omega arith;
      used = λ u. omega arith;
      fits = record { slots = f.slots; types = f.types; zeros = f.zeros; full = f.full; idle = λ none u. f.idle (omega arith) u };
    } in
    let g : Tallies s id k (n + 1) w = same_entries s h id k (n + 1) v w at refl
    (λ j u none _. omega (arith, count_cons (λ (x : Entry). (x.slot == j) && is_same_method_type x.ty u) e v.holds, not_hit e j u v.holds mine none))
    (zeros_stay s h id k (n + 1) v w at refl small (omega arith)) in
    (w, keeps, tt, rw no_wrap (turned s h id k (n + 1) v w at small t g), (refl, refl))

pub releases_allowed : (slots id k : ℕ) (e : Entry) (me : HMe) → e.slot ≡ k → k < 2048 → 0 < has e.slot e.ty me.0.holds
    → Allows Held slots id me k (λ n. (n + 18446744073709551615) % 18446744073709551616) (λ n m. (m.0 ≡ held_less e me.0) × (m.1 ≡ me.1))
releases_allowed slots id k e me is small mine s h _ at _ =
    let v : Holding = me.0 in
    let n : ℕ = slice_index s.words k in
    let w : Holding = held_less e v in
    let f : Fits v = h.each id v at in
    let q = word_held s h id k e v at is small mine in
    let fit : n ≤ limit = word_fits s h k small in
    let no_wrap : (n + 18446744073709551615) % 18446744073709551616 ≡ n - 1 = omega arith in
    let count : (p : Entry → Bool) → count_by p (removed e v.holds) + bit (p e) ≡ count_by p v.holds = λ p. removed_count p e v.holds mine in
    let t : Turns k n (n - 1) v w = record {
      weight = omega (arith, removed_length e v.holds mine);
      keeps = λ b. refl;
      here = omega (arith, count (λ (x : Entry). x.slot == k), slot_hit e k is);
      there = λ j apart. omega (arith, count (λ (x : Entry). x.slot == j), slot_missed e k j is apart);
      asked = λ u. omega arith;
      used = λ u. omega arith;
      fits = record {
        slots = f.slots;
        types = f.types;
        zeros = f.zeros;
        full = f.full;
        idle = λ none u. f.idle (omega (arith, removed_length e v.holds mine)) u;
      };
    } in
    let g : Tallies s id k (n - 1) w = same_entries s h id k (n - 1) v w at refl
    (λ j u none _. omega (arith, count (λ (x : Entry). (x.slot == j) && is_same_method_type x.ty u)))
    (zeros_stay s h id k (n - 1) v w at refl small (omega arith)) in
    (w, keeps, tt, rw no_wrap (turned s h id k (n - 1) v w at small t g), (refl, refl))

-- A caller that keeps more or less, and may have asked for more: the words and what they count stay.
module _ (slots id k : ℕ) (e : Entry) (me : HMe) (is : e.slot ≡ k) (small : k < 2048) (mine : 0 < has e.slot e.ty me.0.holds) where
  stays_allowed : (kept : List Entry) (asked : List MethodTy) → ((u : MethodTy) → times_type u me.0.asked ≤ times_type u asked)
      → Allows Held slots id me k (λ n. n) (λ n m. (m.0 ≡ record me.0 { kept = kept; asked = asked }) × (m.1 ≡ me.1))
  stays_allowed kept asked more s h _ at _ =
      let v : Holding = me.0 in
      let n : ℕ = slice_index s.words k in
      let w : Holding = record v { kept = kept; asked = asked } in
      let f : Fits v = h.each id v at in
      let q = word_held s h id k e v at is small mine in
      let t : Turns k n n v w = record {
        weight = refl;
        keeps = λ b. refl;
        here = refl;
        there = λ j apart. refl;
        asked = more;
        used = λ u. omega arith;
        fits = record {
          slots = f.slots;
          types = f.types;
          zeros = f.zeros;
          full = f.full;
          idle = λ none u. absurd (omega (arith, count_by-le-length (λ (x : Entry). (x.slot == e.slot) && is_same_method_type x.ty e.ty) v.holds));
        };
      } in
      let g : Tallies s id k n w = same_entries s h id k n v w at refl (λ j u none _. none) (zeros_stay s h id k n v w at refl small (omega arith)) in
      (w, keeps, tt, turned s h id k n v w at small t g, (refl, refl))

  pub keeps_more_allowed : Allows Held slots id me k (λ n. n) (λ n m. (m.0 ≡ kept_more e me.0) × (m.1 ≡ me.1))
  keeps_more_allowed = stays_allowed (e ∷ me.0.kept) me.0.asked (λ u. omega arith)

  pub keeps_less_allowed : Allows Held slots id me k (λ n. n) (λ n m. (m.0 ≡ kept_less e me.0) × (m.1 ≡ me.1))
  keeps_less_allowed = stays_allowed (removed e me.0.kept) me.0.asked (λ u. omega arith)

  pub keeps_asked_allowed : Allows Held slots id me k (λ n. n) (λ n m. (m.0 ≡ kept_asked e me.0) × (m.1 ≡ me.1))
  keeps_asked_allowed = stays_allowed (e ∷ me.0.kept) (e.ty ∷ me.0.asked) (λ u. omega (
    arith,
    count_cons (λ (x : MethodTy). is_same_method_type x u) e.ty
        me.0.asked,
  ))

-- how often an entry that is taken so many times is counted
pub count_replicate : (p : Entry → Bool) (n : ℕ) (e : Entry) → count_by p (replicate n e) ≡ cond (p e) n 0
count_replicate p zero e = at (p e)
  where
    at : (b : Bool) → ◌≡◌ {A = ℕ} 0 (cond b 0 0)
    at true = refl
    at false = refl
count_replicate p (suc n) e = count_cons p e (replicate n e) ∙ (ap (λ z. cond (p e) 1 0 + z) (count_replicate p n e) ∙ at (p e))
  where
    at : (b : Bool) → cond b 1 0 + cond b n 0 ≡ cond b (suc n) 0
    at true = omega arith
    at false = refl

pub counts_allowed : (slots id k n : ℕ) (e : Entry) (me : HMe) → e.slot ≡ k → k < 2048 → n ≤ me.0.room → 0 < has e.slot e.ty me.0.holds
    → Allows Held slots id me k (λ m. (m + n) % 18446744073709551616) (λ _ m. (m.0 ≡ counted_more n e me.0) × (m.1 ≡ me.1))
counts_allowed slots id k n e me is small room mine s h _ at _ =
    let v : Holding = me.0 in
    let m : ℕ = slice_index s.words k in
    let w : Holding = counted_more n e v in
    let f : Fits v = h.each id v at in
    let q = word_held s h id k e v at is small mine in
    let fit : m ≤ limit = word_fits s h k small in
    let whole = at_most Rattle.mh_intern.specs.Held.weight s.views id v at in
    let most : v.room ≤ limit = omega (arith, h.whole) in
    let no_wrap : (m + n) % 18446744073709551616 ≡ m + n = omega arith in
    let count : (p : Entry → Bool) → count_by p (replicate n e ++ v.holds) ≡ cond (p e) n 0 + count_by p v.holds = λ p.
    omega (arith, count_append p (replicate n e) v.holds, count_replicate p n e) in
    let many : length (replicate n e ++ v.holds) ≡ n + length v.holds =
    omega (arith, length-append (replicate n e) v.holds, length-replicate {A = Entry} n e) in
    let t : Turns k m (m + n) v w = record {
      weight = omega arith;
      keeps = λ b. refl;
      here = let hit : cond (e.slot == k) n 0 ≡ n = ap (λ b. cond b n 0) (eq-eqb e.slot k is) in omega (arith, count (λ (x : Entry). x.slot == k));
      there = λ j apart. let miss : cond (e.slot == j) n 0 ≡ 0 = ap (λ b. cond b n 0) (ne_eqb e.slot j (λ q. apart (sym q ∙ is))) in
          omega (arith, count (λ (x : Entry). x.slot == j));
      asked = λ u. omega arith;
      used = λ u. omega arith;
      fits = record { slots = f.slots; types = f.types; zeros = f.zeros; full = f.full; idle = λ none u. f.idle (omega arith) u };
    } in
    let g : Tallies s id k (m + n) w = same_entries s h id k (m + n) v w at refl
    (λ j u none _. let off : cond (is_entry e (entry j u)) n 0 ≡ 0 = bit_off (is_entry e (entry j u)) n (not_hit e j u v.holds mine none) in
    omega (arith, count (λ (x : Entry). (x.slot == j) && is_same_method_type x.ty u)))
    (zeros_stay s h id k (m + n) v w at refl small (omega arith)) in
    (w, keeps, tt, rw no_wrap (turned s h id k (m + n) v w at small t g), (refl, refl))
  where
    bit_off : (b : Bool) (n : ℕ) → bit b ≡ 0 → cond b n 0 ≡ 0
    bit_off true n e = absurd (omega arith)
    bit_off false n e = refl
