-- What calls that make handles leave of a seat of types, whichever types they ask for.
use Rattle.std.specs.Prelude.{List, [], ◌++◌, Result, Ok, Err}
use Rattle.mh_values.specs.declared.types.MethodTy.{MethodTy}
use Rattle.mh_intern.specs.Exchanges.{Exchanges}
use Rattle.mh_intern.specs.Views.{HoldView, SeatView}
use Rattle.mh_handle.specs.declared.error.HandleError.{HandleError}
use Rattle.mh_handle.specs.declared.handle.Handle.{Handle}
use Rattle.mh_handle.specs.declared.work.Work.{Work}
use Rattle.mh_more.specs.Several.{holds_of}

-- the seat has the holds that came in the place of those that are gone, and was asked for some types
abbrev pub ExchangesAny : List HoldView → List HoldView → SeatView → SeatView → Type 0
ExchangesAny gone came old new = (asks : List MethodTy) × Exchanges asks gone came old new

-- the holds of handles that were handed in are gone, and those of the handle came, if there is one
abbrev pub TradesAny : List HoldView → Work → Work → Result Handle HandleError → Type 0
TradesAny gone old new (Ok h) = ExchangesAny gone h.held old.seat.now new.seat.now
TradesAny gone old new (Err e) = ExchangesAny gone [] old.seat.now new.seat.now

-- the holds of two handles came, if they are there
abbrev pub TradesAnyBoth : Work → Work → Result (Handle × Handle) HandleError → Type 0
TradesAnyBoth old new (Ok both) = ExchangesAny [] (both.0.held ++ both.1.held) old.seat.now new.seat.now
TradesAnyBoth old new (Err e) = ExchangesAny [] [] old.seat.now new.seat.now

-- the holds of all handles of a list came, if they are there
abbrev pub TradesAnyAll : Work → Work → Result (List Handle) HandleError → Type 0
TradesAnyAll old new (Ok hs) = ExchangesAny [] (holds_of hs) old.seat.now new.seat.now
TradesAnyAll old new (Err e) = ExchangesAny [] [] old.seat.now new.seat.now
