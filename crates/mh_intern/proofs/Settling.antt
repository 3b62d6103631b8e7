-- All holds of a seat are counted.
use Rattle.std.proofs.Common.{All, Option, Some, None, Result, Ok, Err, OnOk, OnErr, nat_lt, inl, inr, ⊎_elim, ◌≡◌, ℕ, zero, suc, ◌+◌, ◌-◌, ◌<◌, ◌≤◌, ◌≢◌, ◌==◌, ◌&&◌, Bool, true, false, cond, List, [], ◌∷◌, ◌++◌, length, sum_by, count_by, get_or, drop, set, replicate, refl, sym, ap, ◌∙◌, subst, arith, length-append}
use Rattle.std.proofs.lemmas.List.{length-replicate}
use Rattle.std.proofs.lemmas.List.Sums.{sum_by-cons}
use native.Mathlib.Decide.{ℕ_discrete}
use mathlib.Core.Logic.{dite}
use mathlib.Core.Option.{some, some-injective, some-ne-none}
use lib.ListN.{get_elem?}
use Rattle.mh_seats.specs.Room.{limit}
use Rattle.mh_intern.specs.declared.holding.Entry.{Entry}
use Rattle.mh_intern.specs.declared.holding.Holding.{Holding}
use Rattle.mh_intern.specs.declared.notes.Note.{Note}
use Rattle.atomic_table.specs.Table.{State}
use Rattle.mh_intern.specs.Callers.{IsSettledBy}
use Rattle.mh_intern.specs.Seats.{distinct_slots}
use Rattle.mh_intern.specs.Held.{on_slot, weight, Held}
use Rattle.mh_intern.specs.Kinds.{counted_more, joined_views}
use Rattle.mh_intern.specs.Lists.{entry, is_entry}
use Rattle.mh_intern.specs.Notes.{owed, IsNoted, as_kept}
use Rattle.mh_intern.proofs.Measures.{count_append}
use Rattle.mh_intern.proofs.Callers.{count_replicate}
use Rattle.mh_intern.proofs.Closing.{closes}
use Rattle.mh_intern.proofs.Noting.{weight_kept}

-- ---- all is counted

-- a note of which nothing is owed may go
pub settled_none : (v : Holding) (m : Note) (notes : List Note) → m.owed ≡ 0 → IsNoted v (m ∷ notes) → IsNoted v notes
settled_none v m notes none_owed n = record {
  counts = λ p. omega (arith, n.counts p, sum_by-cons (λ (x : Note). cond (p x.entry) x.owed 0) m notes, none_of (p m.entry));
  many = omega (arith, n.many, sum_by-cons (λ (x : Note). x.owed) m notes);
  known = λ k t. omega (arith, n.known k t, sum_by-cons (λ (x : Note). cond (is_entry x.entry (entry k t)) x.counted 0) m notes);
  covered = λ i. n.covered (suc i);
  room = omega (arith, n.room, sum_by-cons (λ (x : Note). x.owed) m notes);
  small = λ i. n.small (suc i);
}
  where
    none_of : (b : Bool) → cond b m.owed 0 ≡ 0
    none_of true = none_owed
    none_of false = refl

pub settled_note : (v : Holding) (m : Note) (notes : List Note) → IsNoted v (m ∷ notes) → IsNoted (counted_more m.owed m.entry v) notes
settled_note v m notes n =
    let count : (p : Entry → Bool) → count_by p (replicate m.owed m.entry ++ v.holds) ≡ cond (p m.entry) m.owed 0 + count_by p v.holds = λ p.
    omega (arith, count_append p (replicate m.owed m.entry) v.holds, count_replicate p m.owed m.entry) in
    record {
      counts = λ p. omega (arith, n.counts p, count p, sum_by-cons (λ (x : Note). cond (p x.entry) x.owed 0) m notes);
      many = omega (
        arith,
        n.many,
        length-append (replicate m.owed m.entry) v.holds,
        length-replicate {A = Entry} m.owed m.entry,
        sum_by-cons (λ (x : Note). x.owed) m notes,
      );
      known = λ k t. omega (
        arith,
        n.known k t,
        count (λ (x : Entry). is_entry x (entry k t)),
        sum_by-cons (λ (x : Note). cond (is_entry x.entry (entry k t)) x.counted 0) m notes,
      );
      covered = λ i x at lt. omega (arith, n.covered (suc i) x at lt, count (λ (y : Entry). is_entry y x.entry));
      room = omega (arith, n.room, sum_by-cons (λ (x : Note). x.owed) m notes);
      small = λ i. n.small (suc i);
    }

pub room_settled : (v : Holding) (k : ℕ) (e : Entry) → k ≤ v.room → (as_kept (counted_more k e v)).room ≡ (as_kept v).room
room_settled v k e le = omega (arith, length-append (replicate k e) v.holds, length-replicate {A = Entry} k e)

-- a view whose holds are counted, one note after the other
abbrev pub CountsOn : Holding → Holding → List Note → Type 0
CountsOn first v rest = IsNoted v rest × ((as_kept v).room ≡ (as_kept first).room) × (v ≡ record first { holds = v.holds; room = v.room })

pub counts_on : (first v w : Holding) (m : Note) (rest : List Note) → w ≡ counted_more m.owed m.entry v → CountsOn first v (m ∷ rest) → CountsOn first w rest
counts_on first v w m rest is (n, room, others) =
    subst (λ (z : Holding). CountsOn first z rest) (sym is) (
      settled_note v m rest n,
      room_settled v m.owed m.entry (omega (arith, n.room, sum_by-cons (λ (x : Note). x.owed) m rest)) ∙ room,
      ap (λ (z : Holding). record z { holds = replicate m.owed m.entry ++ v.holds; room = v.room - m.owed }) others,
    )

-- two views together, of which one owes nothing
pub noted_joined : (v u : Holding) (notes : List Note) → IsNoted v notes → IsNoted u [] → IsNoted (joined_views v u) notes
noted_joined v u notes n o = record {
  counts = λ p. omega (arith, n.counts p, o.counts p, count_append p u.kept v.kept, count_append p u.holds v.holds);
  many = omega (arith, n.many, o.many, length-append u.kept v.kept, length-append u.holds v.holds);
  known = λ k t. omega (arith, n.known k t, count_append (λ (x : Entry). is_entry x (entry k t)) u.holds v.holds);
  covered = λ i m at lt. omega (arith, n.covered i m at lt, count_append (λ (x : Entry). is_entry x m.entry) u.holds v.holds);
  room = omega (arith, n.room);
  small = n.small;
}

pub room_joined : (v u : Holding) (notes : List Note) → IsNoted v notes → IsNoted u [] →
    (as_kept (joined_views v u)).room ≡ (as_kept u).room + (as_kept v).room
room_joined v u notes n o = omega (arith, n.many, n.room, o.many, length-append u.kept v.kept, length-append u.holds v.holds)

pub kept_joined : (v u : Holding) (notes : List Note) → IsNoted v notes → IsNoted u [] → as_kept (joined_views v u) ≡ joined_views (as_kept v) (as_kept u)
kept_joined v u notes n o = ap (λ z. record (joined_views v u) { holds = u.kept ++ v.kept; room = z }) (room_joined v u notes n o)

-- a view with nothing that is kept has nothing noted
pub noted_new : (room : ℕ) (v : Holding) → v.holds ≡ [] → v.kept ≡ [] → IsNoted v []
noted_new room v holds kept = record {
  counts = λ p. ap (count_by p) kept ∙ (sym (ap (count_by p) holds) ∙ omega arith);
  many = ap length kept ∙ (sym (ap length holds) ∙ omega arith);
  known = λ k t. omega arith;
  covered = λ i m at. absurd (some-ne-none m (sym at));
  room = omega arith;
  small = λ i m at. absurd (some-ne-none m (sym at));
}

-- the words count the slots of which a caller keeps a hold, if all holds are counted
pub closes_settled : (s : State (Unit {0}) Holding) → Held s → (id : ℕ) (v view : Holding) → get_elem? s.views id ≡ some v → IsSettledBy view v
    → view.room + length view.holds ≡ limit → ((k : ℕ) → 2048 ≤ k → on_slot k view.holds ≡ 0) → count_by (λ n. nat_lt 0 n) s.words ≡ distinct_slots view.holds
closes_settled s h id v view at settled whole small =
    let kept : v.kept ≡ view.holds = ap (λ z. z.holds) settled.is in
    let all : weight v ≡ limit = sym (weight_kept v [] settled.noted) ∙ (ap weight settled.is ∙ whole) in
    closes s h id v v.kept at all (λ k. omega (arith, settled.noted.counts (λ (x : Entry). x.slot == k))) (λ k le. ap (on_slot k) kept ∙ small k le)
    ∙ ap distinct_slots kept
