-- What contracts see of a table of constants, which threads share, and of a pass, which each thread has of its own.
use Rattle.std.specs.Prelude.{◌≡◌, ℕ, ◌^◌, ◌<◌, ◌⊎◌, List, [], ◌∷◌, ◌++◌, length, replicate, slice_set, All, Contains, Option, None, Some}
use denote.Ref.{Bor}
use Rattle.mh_tickets.specs.Seats.{Draws, KnowsAll, SeatView, TicketsId, new_seat}
use Rattle.mh_link.specs.Named.{Constants}
use Rattle.mh_condy.specs.declared.pass.ConstAttempt.{ConstAttempt}
use Rattle.mh_condy.specs.Nodes.{IsKnown, Keeps, Knows, Nodes, node_in}
use Rattle.mh_condy.specs.Recorded.{ConstView}

-- a table: the names of the cells of the constants, one for each, and the counter of the serials of attempts
pub record TableView : Type 0 where
  pub cells : List ℕ
  pub serials : TicketsId

-- A pass: its table, its thread, and what it has learnt of each constant. Also the attempts that were made with it, those that it has recorded, and the seat
-- with which it draws serials.
pub record PassView : Type 0 where
  pub table : TableView
  pub thread : ℕ
  pub known : Nodes
  pub attempts : List ConstAttempt
  pub recorded : List ConstAttempt
  pub seat : SeatView

-- ---- what a pass keeps

-- the attempt is one of the pass's, the constant is what this attempt has made of it, and the pass knows all that the attempt has found
pub record IsRecorded (known : Nodes) (attempts : List ConstAttempt) (a : ConstAttempt) : Type 0 where
  pub among : Contains attempts a
  pub node : ConstView
  pub at : node_in known a.constant ≡ Some node
  pub serial : node.serial ≡ a.serial
  pub under : All (Knows known) node.under

-- attempts are of constants of the run, and what those that the pass has recorded rest on is known
pub record AreAttempts (run : Constants) (known : Nodes) (attempts recorded : List ConstAttempt) : Type 0 where
  pub within : All (λ a. a.constant < length run.jobs) attempts
  pub recorded_are : All (IsRecorded known attempts) recorded

-- what a pass keeps: each constant that is known is recorded under what its own attempt has found, and so on
pub record IsPass (run : Constants) (pass : PassView) : Type 0 where
  pub known : IsKnown run pass.known
  pub attempts : AreAttempts run pass.known pass.attempts pass.recorded

-- ---- passes that begin

-- a pass that has learnt of no constant, with a seat
abbrev pub pass_at : TableView → ℕ → ℕ → SeatView → PassView
pass_at table thread constants seat = record {
  table = table;
  thread = thread;
  known = replicate constants None;
  attempts = [];
  recorded = [];
  seat = seat;
}

-- how many serials a pass may draw that was split off
abbrev pub split_room : ℕ
split_room = 2 ^ 32

-- the pass that is split off for a thread: it has learnt of the same constants, and has attempted none
abbrev pub split_pass : ℕ → PassView → PassView
split_pass thread pass = record {
  table = pass.table;
  thread = thread;
  known = pass.known;
  attempts = [];
  recorded = [];
  seat = new_seat pass.table.serials split_room;
}

-- the pass with another seat
abbrev pub with_seat : SeatView → PassView → PassView
with_seat seat pass = record pass { seat = seat }

-- the pass has what it had and what the other one had
pub record HasBoth (old other new : PassView) : Type 0 where
  pub mine : Keeps old.known new.known
  pub theirs : Keeps other.known new.known
  pub attempts : new.attempts ≡ old.attempts ++ other.attempts
  pub recorded : new.recorded ≡ old.recorded ++ other.recorded

-- ---- steps

-- the pass with a constant that it did not know
abbrev pub with_node : ℕ → ConstView → PassView → PassView
with_node c node pass = record pass { known = slice_set pass.known c (Some node) }

-- a constant was learnt that the pass did not know, and nothing else has changed
abbrev pub Learns : ℕ → ConstView → PassView → PassView → Type 0
Learns c node old new = (node_in old.known c ≡ None) × (new ≡ with_node c node old)

-- a look at a constant: it was known, or it is learnt of its cell; or nothing is known of it, and nothing has changed
abbrev pub Looks : ℕ → PassView → PassView → Option (Bor ConstView) → Type 0
Looks c old new None = (node_in old.known c ≡ None) × (new ≡ old)
Looks c old new (Some node) = ((node_in old.known c ≡ Some node.now) × (new ≡ old)) ⊎ Learns c node.now old new

-- the attempt of a thread that made a recorded constant
abbrev pub attempt_of : ℕ → ConstView → ConstAttempt
attempt_of thread node = record { thread = thread; constant = node.job.number; serial = node.serial }

-- the pass has begun an attempt of a constant with a serial that was drawn now
pub record Begins (c serial : ℕ) (old new : PassView) : Type 0 where
  pub draws : Draws serial old.seat new.seat
  pub knows : KnowsAll new.seat
  pub is : new ≡ record old { attempts = old.attempts ++ record { thread = old.thread; constant = c; serial = serial } ∷ []; seat = new.seat }

-- what is recorded of a constant after an attempt: what ours has made, or another one that was recorded before and is learnt now
abbrev pub Records : ConstView → ConstView → PassView → PassView → Type 0
Records ours node old new =
    ((node ≡ ours) × (new ≡ record (with_node ours.job.number ours old) { recorded = old.recorded ++ attempt_of old.thread ours ∷ [] }))
    ⊎ Learns ours.job.number node old new
