-- The types that recorded linkages hold.
use Rattle.std.specs.Prelude.{◌≡◌, ◌+◌, ◌≤◌, List, length}
use Rattle.std.specs.List.{flat_map}
use Rattle.mh_values.specs.declared.types.MethodTy.{MethodTy}
use Rattle.mh_intern.specs.Exchanges.{entries_of}
use Rattle.mh_intern.specs.Held.{on_type, times_type}
use Rattle.mh_intern.specs.Views.{SeatView}
use Rattle.mh_handle.specs.declared.work.Work.{Work}
use Rattle.mh_jobs.specs.Given.{Given}
use Rattle.mh_attempt.specs.Linkage.{LinkageView}
use Rattle.mh_link.specs.Linked.{held_by}
use Rattle.mh_link.specs.Sites.{linked_at}
use Rattle.mh_report.specs.declared.attempt.Attempt.{Attempt}

-- the types that the linkages of attempts hold
abbrev pub types_held : Given → List Attempt → List MethodTy
types_held given attempts = flat_map (λ a. held_by given.leaves (linked_at given a.site a.serial)) attempts

-- the new seat holds what the linkages of recorded attempts hold, and what the old seat held in addition to those of the attempts before
abbrev pub HoldsInstead : Given → List Attempt → List Attempt → SeatView → SeatView → Type 0
HoldsInstead given before after old new =
    (t : MethodTy) → on_type t new.holds + times_type t (types_held given before) ≡ on_type t old.holds + times_type t (types_held given after)

-- the seat stays with its table, and room and holds are together as many as before, whatever values constants have
pub record StaysWhole (old new : SeatView) : Type 0 where
  pub table : new.table ≡ old.table
  pub whole : new.room + length new.holds ≡ old.room + length old.holds

-- the seat holds what the linkages of recorded attempts hold, if it held what those before hold; room and holds are together as many as before
pub record HoldsRecorded (given : Given) (before after : List Attempt) (old new : SeatView) : Type 0 where
  pub table : new.table ≡ old.table
  pub whole : new.room + length new.holds ≡ old.room + length old.holds
  pub types : HoldsInstead given before after old new

-- a linkage was recorded and its holds stay in the seat, or it was not and they were handed back
pub record Records (given : Given) (linkage : LinkageView) (before after : List Attempt) (old new : SeatView) : Type 0 where
  pub table : new.table ≡ old.table
  pub whole : new.room + length new.holds ≡ old.room + length old.holds
  pub few : old.room ≤ new.room
  pub types : (t : MethodTy) → on_type t new.holds + times_type t (types_held given before) + on_type t (entries_of linkage.held)
      ≡ on_type t old.holds + times_type t (types_held given after)

-- the seat of a work does the same
abbrev pub KeepsOthers : Given → List Attempt → List Attempt → Work → Work → Type 0
KeepsOthers given before after old new = HoldsRecorded given before after old.seat.now new.seat.now

-- the seat holds as much of each type as before
pub record KeepsTypes (old new : Work) : Type 0 where
  pub table : new.seat.now.table ≡ old.seat.now.table
  pub whole : new.seat.now.room + length new.seat.now.holds ≡ old.seat.now.room + length old.seat.now.holds
  pub types : (t : MethodTy) → on_type t new.seat.now.holds ≡ on_type t old.seat.now.holds

-- the seat holds just what the linkages of these attempts hold
abbrev pub HoldsJust : Given → List Attempt → SeatView → Type 0
HoldsJust given recorded seat = (t : MethodTy) → on_type t seat.holds ≡ times_type t (types_held given recorded)
