-- What is held where the holds of the second of two handles are handed back before those of the first.
use Rattle.std.proofs.Common.{List, [], ◌++◌}
use Rattle.mh_intern.specs.Exchanges.{AreHeld, Exchanges}
use Rattle.mh_intern.specs.Views.{HoldView, SeatView}
use Rattle.mh_intern.proofs.Exchanging.{held-still}
use Rattle.mh_handle.proofs.holding.HoldOrders.{exchanges-back, exchanges-same, same-swapped}
use Rattle.mh_handle.proofs.holding.SingleHolds.{held-swapped}

-- the holds of both are handed back
pub exchanges-backwards : (first second : List HoldView) (a b c : SeatView) → Exchanges [] second [] a b → Exchanges [] first [] b c →
    Exchanges [] (first ++ second) [] a c
exchanges-backwards first second a b c x y =
    exchanges-same [] (second ++ first) (first ++ second) [] a c (same-swapped second first) (exchanges-back second first a b c x y)

-- the first holds are there still where the second were handed back
pub first-yet : (first second : List HoldView) (a b : SeatView) → AreHeld a (first ++ second) → Exchanges [] second [] a b → AreHeld b first
first-yet first second a b had x = held-still [] second [] first a b x (held-swapped a first second had)

-- the second holds are there still where the first were handed back
pub second-yet : (first second : List HoldView) (a b : SeatView) → AreHeld a (first ++ second) → Exchanges [] first [] a b → AreHeld b second
second-yet first second a b had x = held-still [] first [] second a b x had
