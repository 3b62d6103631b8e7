-- How much room calls leave.
use Rattle.std.proofs.Common.{◌≡◌, ◌∙◌, ap, ℕ, ◌+◌, arith}
use Rattle.mh_handle.specs.Passes.{PassView}
use Rattle.mh_handle.specs.Seats as forms_seat
use Rattle.mh_intern.specs.Views.{SeatView}
use Rattle.mh_tickets.specs.Seats as serials_seat
use Rattle.mh_seats.specs.Room.{limit}
use Rattle.mh_condy.specs.Passes as consts
use Rattle.mh_runtime.specs.declared.linker.Linker.{Linker}
use Rattle.mh_runtime.specs.declared.pass.Pass.{Pass}
use Rattle.mh_runtime.specs.declared.tables.Seats.{Seats}
use Rattle.mh_runtime.specs.declared.tables.Tables.{Tables}
use Rattle.mh_runtime.specs.Joining.{HasAllRoom}
use Rattle.mh_runtime.specs.Linkers.{BeginsPass, CanSplit, GoesOnCalling, HasLessRoom, HasRoom, HaveAll}
use Rattle.mh_runtime.specs.Passes.{LinkPass}

module _ {J : Type 0} where
  -- after a call there is room for all calls but one
  pub room_left : (old new : Pass J) → GoesOnCalling 1 old new → (more : ℕ) → HasRoom (more + 1) old → HasRoom more new
  room_left old new goes more has = record {
    serials = let a = goes.links.room in let b = has.serials in omega (arith, a, b);
    forms = let a = goes.room in let b = has.forms in omega (arith, a, b);
    holds = let a = goes.holds in let b = has.holds in omega (arith, a, b);
  }

  -- where there is room for more calls there is room for one
  pub room_for_one : (pass : Pass J) (more : ℕ) → HasRoom (more + 1) pass → HasRoom 1 pass
  room_for_one pass more has = record {
    serials = let a = has.serials in omega (arith, a);
    forms = let a = has.forms in omega (arith, a);
    holds = let a = has.holds in omega (arith, a);
  }

  -- the first pass has all the room that its seats have
  pub all_room : (sites : ℕ) (linker : Linker J) (tables : Tables) (seats : Seats) (asked : consts.PassView) (pass : Pass J) →
      BeginsPass sites linker seats asked pass → asked.seat.room ≡ limit → HaveAll tables seats → HasAllRoom pass
  all_room sites linker tables seats asked pass begins room all = record {
    serials = ap (λ (p : LinkPass). p.seat.room) begins.links ∙ ap (λ (s : serials_seat.SeatView). s.room) all.serials_are;
    constants = ap (λ (p : LinkPass). p.constants.seat.room) begins.links ∙ room;
    forms = ap (λ (p : PassView). p.seat.room) begins.forms ∙ ap (λ (s : forms_seat.SeatView). s.room) all.forms_are;
    types = ap (λ (s : SeatView). s.room) begins.types_are ∙ ap (λ (s : SeatView). s.room) all.types_are;
  }

  -- a pass with all the room can be split
  pub can_split : (pass : Pass J) → HasAllRoom pass → CanSplit pass
  can_split pass has = record {
    serials = let a = has.serials in omega (arith, a);
    constants = let a = has.constants in omega (arith, a);
    forms = let a = has.forms in omega (arith, a);
    holds = let a = has.types in omega (arith, a);
  }

  -- it has room for a call then
  pub room_after_split : (old new : Pass J) → HasAllRoom old → HasLessRoom old new → HasRoom 1 new
  room_after_split old new has less = record {
    serials = let a = has.serials in let b = less.serials in omega (arith, a, b);
    forms = let a = has.forms in let b = less.forms in omega (arith, a, b);
    holds = let a = has.types in let b = less.holds in omega (arith, a, b);
  }
