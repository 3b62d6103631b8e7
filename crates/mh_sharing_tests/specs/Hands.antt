-- What a player of a table of types has in hand.
use Rattle.std.specs.Prelude.{◌≡◌, [], ◌∷◌}
use Rattle.mh_intern.specs.Views.{TypesId, SeatView, HoldView}

-- the seat is of the table, and has this one hold
pub record HasInHand (table : TypesId) (seat : SeatView) (hold : HoldView) : Type 0 where
  pub seat_of : seat.table ≡ table
  pub hold_of : hold.table ≡ table.holders
  pub holds : seat.holds ≡ hold.entry ∷ []

-- the seat is of the table, and has a newer hold beside the one in hand
pub record HasNewer (table : TypesId) (seat : SeatView) (newer hold : HoldView) : Type 0 where
  pub seat_of : seat.table ≡ table
  pub hold_of : hold.table ≡ table.holders
  pub newer_of : newer.table ≡ table.holders
  pub holds : seat.holds ≡ newer.entry ∷ hold.entry ∷ []
