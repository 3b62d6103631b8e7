-- The first pass has room to resolve all dynamic constants, and so has each of the two passes that a split makes of it.
use Rattle.std.proofs.Common.{◌≡◌, ◌≤◌, ◌∙◌, ap, ℕ, length, None, arith}
use Rattle.std.specs.Prelude.{replicate}
use Rattle.std.proofs.lemmas.List.{length-replicate}
use Rattle.mh_seats.specs.Room.{limit}
use Rattle.mh_tickets.specs.Seats.{SeatView}
use Rattle.mh_condy.specs.Nodes.{Nodes, unresolved}
use Rattle.mh_condy.specs.Passes.{PassView, TableView, pass_at}
use Rattle.mh_runtime.specs.declared.linker.Linker.{Linker}
use Rattle.mh_runtime.specs.declared.pass.Pass.{Pass}
use Rattle.mh_runtime.specs.declared.tables.Seats.{Seats}
use Rattle.mh_runtime.specs.Attempts.{HasRoomForConstants}
use Rattle.mh_runtime.specs.Linkers.{BeginsPass, HasLessRoom, SplitsPass}
use Rattle.mh_runtime.specs.Passes.{LinkPass, split_room}
use Rattle.mh_runtime.proofs.constants.MadeConstants.{unresolved-few}

module _ {J : Type 0} (constants sites thread : ℕ) (linker : Linker J) (seats : Seats) (table : TableView) (seat : SeatView) (asked : PassView)
    (old new other : Pass J) (few : constants ≤ split_room) (whole : seat.room ≡ limit) (fresh : asked ≡ pass_at table 0 constants seat)
    (begins : BeginsPass sites linker seats asked old) where
  -- nothing is resolved yet
  unlearnt : old.links.constants.known ≡ replicate constants None
  unlearnt = ap (λ (p : LinkPass). p.constants.known) begins.links ∙ ap (λ (p : PassView). p.known) fresh

  all-room : old.links.constants.seat.room ≡ limit
  all-room = ap (λ (p : LinkPass). p.constants.seat.room) begins.links ∙ (ap (λ (p : PassView). p.seat.room) fresh ∙ whole)

  unresolved-all : (nodes : Nodes) → nodes ≡ old.links.constants.known → unresolved nodes ≤ constants
  unresolved-all nodes same =
      let count : length nodes ≡ constants = ap length (same ∙ unlearnt) ∙ length-replicate constants None in
      let most = unresolved-few nodes in
      omega (arith, count, most)

  -- the first pass after the split
  pub first-has : SplitsPass thread old new other → HasLessRoom old new → HasRoomForConstants new.links
  first-has splits less =
      let few-left = unresolved-all new.links.constants.known (ap (λ (p : LinkPass). p.constants.known) splits.links_left) in
      let left = less.constants in
      omega (arith, few-left, left, all-room, few)

  -- the pass that was split off
  pub other-has : SplitsPass thread old new other → HasRoomForConstants other.links
  other-has splits =
      let few-left = unresolved-all other.links.constants.known (ap (λ (p : LinkPass). p.constants.known) splits.links) in
      let has : other.links.constants.seat.room ≡ split_room = ap (λ (p : LinkPass). p.constants.seat.room) splits.links in
      omega (arith, few-left, has, few)
