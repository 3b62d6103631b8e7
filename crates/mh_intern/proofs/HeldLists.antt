-- Lists of holds, and what is held of them.
use Rattle.std.proofs.Common.{◌≡◌, ◌∙◌, ap, ℕ, ◌+◌, List, [], ◌∷◌, ◌++◌, arith}
use Rattle.std.proofs.lemmas.List.{map-append}
use Rattle.atomic_table.specs.Seated.{TableId}
use Rattle.mh_values.specs.declared.types.MethodTy.{MethodTy}
use Rattle.mh_intern.specs.declared.holding.Entry.{Entry}
use Rattle.mh_intern.specs.Exchanges.{AreHeld, AreOf, entries_of}
use Rattle.mh_intern.specs.Held.{has}
use Rattle.mh_intern.specs.Lists.{is_entry, entry}
use Rattle.mh_intern.specs.Seats.{Holds}
use Rattle.mh_intern.specs.Views.{HoldView, SeatView}
use Rattle.mh_intern.proofs.Measures.{count_append}
use Rattle.mh_intern.proofs.Trading.{part_held}

-- ---- lists of holds

pub has-append : (k : ℕ) (t : MethodTy) (a b : List HoldView) → has k t (entries_of (a ++ b)) ≡ has k t (entries_of a) + has k t (entries_of b)
has-append k t a b =
    ap (has k t) (map-append (λ (h : HoldView). h.entry) a b) ∙ count_append (λ (e : Entry). is_entry e (entry k t)) (entries_of a) (entries_of b)

pub of-both : (table : TableId) (a b : List HoldView) → AreOf table a → AreOf table b → AreOf table (a ++ b)
of-both table [] b of_a of_b = of_b
of-both table (h ∷ a) b of_a of_b = (of_a.0, of-both table a b of_a.1 of_b)

pub of-first : (table : TableId) (a b : List HoldView) → AreOf table (a ++ b) → AreOf table a
of-first table [] b all = tt
of-first table (h ∷ a) b all = (all.0, of-first table a b all.1)

pub of-second : (table : TableId) (a b : List HoldView) → AreOf table (a ++ b) → AreOf table b
of-second table [] b all = all
of-second table (h ∷ a) b all = of-second table a b all.1

-- ---- what is held

pub held-none : (seat : SeatView) → AreHeld seat []
held-none seat = record { tables = tt; held = record { counts = λ k t. omega arith } }

pub held-first : (seat : SeatView) (a b : List HoldView) → AreHeld seat (a ++ b) → AreHeld seat a
held-first seat a b all = record {
  tables = of-first seat.table.holders a b all.tables;
  held = record { counts = λ k t. let n = has-append k t a b in let h = all.held.counts k t in omega (arith, n, h) };
}

pub held-second : (seat : SeatView) (a b : List HoldView) → AreHeld seat (a ++ b) → AreHeld seat b
held-second seat a b all = record {
  tables = of-second seat.table.holders a b all.tables;
  held = record { counts = λ k t. let n = has-append k t a b in let h = all.held.counts k t in omega (arith, n, h) };
}

-- one hold of those
pub hold-held : (seat : SeatView) (h : HoldView) (rest : List HoldView) → AreHeld seat (h ∷ rest) → Holds seat h
hold-held seat h rest all = record { table = all.tables.0; counted = part_held h.entry seat.holds (entries_of rest) all.held }
