-- What is left of the seat of types by calls that give some holds for others.
use Rattle.std.proofs.Common.{sym, subst, List, [], ◌++◌, append-nil}
use Rattle.mh_intern.specs.Exchanges.{Exchanges}
use Rattle.mh_intern.specs.Views.{HoldView}
use Rattle.mh_intern.proofs.Exchanging.{exchanges-both, exchanges-still, exchanges-then, held-came}
use Rattle.mh_intern.proofs.HeldLists.{held-second}
use Rattle.mh_handle.specs.declared.work.Work.{Work}
use Rattle.mh_handle.specs.Works.{HoldsTypes}
use Rattle.mh_handle.proofs.holding.HoldOrders.{exchanges-kept}
use Rattle.mh_attempt.specs.Runs.{Replaces}
use Rattle.mh_attempt.specs.Several.{Adds}

-- nothing is given
pub replaces-none : (holds : List HoldView) (w : Work) → HoldsTypes w holds → Replaces holds holds w w
replaces-none holds w held = ([], exchanges-kept [] [] [] holds w.seat.now w.seat.now held (exchanges-still w.seat.now))

-- what came is given for others
pub replaces-then : (gone through came : List HoldView) (old mid new : Work) → Replaces gone through old mid → Replaces through came mid new →
    Replaces gone came old new
replaces-then gone through came old mid new x y = (
  x.0 ++ y.0,
  subst (λ l. Exchanges (x.0 ++ y.0) l came old.seat.now new.seat.now) (append-nil gone)
      (exchanges-then x.0 y.0 gone through [] came old.seat.now mid.seat.now new.seat.now x.1
      (subst (λ l. Exchanges y.0 l came mid.seat.now new.seat.now) (sym (append-nil through)) y.1)),
)

-- more comes
pub replaces-more : (gone came more : List HoldView) (old mid new : Work) → Replaces gone came old mid → Adds more mid new →
    Replaces gone (came ++ more) old new
replaces-more gone came more old mid new x y = (
  x.0 ++ y.0,
  subst (λ l. Exchanges (x.0 ++ y.0) l (came ++ more) old.seat.now new.seat.now) (append-nil gone)
      (exchanges-both x.0 y.0 gone [] came more old.seat.now mid.seat.now new.seat.now x.1 y.1),
)

-- nothing more comes
pub replaces-still : (gone came : List HoldView) (old mid new : Work) → Replaces gone came old mid → Adds [] mid new → Replaces gone came old new
replaces-still gone came old mid new x y =
    subst (λ l. Replaces gone l old new) (append-nil came) (replaces-more gone came [] old mid new x y)

-- what came is held
pub replaces-held : (gone came : List HoldView) (old new : Work) → HoldsTypes old gone → Replaces gone came old new → HoldsTypes new came
replaces-held gone came old new had x = held-came x.0 gone came old.seat.now new.seat.now x.1 had

-- some of what came is given back
pub replaces-back : (gone back kept : List HoldView) (old mid new : Work) → HoldsTypes old gone → Replaces gone (back ++ kept) old mid →
    Exchanges [] back [] mid.seat.now new.seat.now → Replaces gone kept old new
replaces-back gone back kept old mid new had x y =
    replaces-then gone (back ++ kept) kept old mid new x
    ([], exchanges-kept [] back [] kept mid.seat.now new.seat.now (held-second mid.seat.now back kept (replaces-held gone (back ++ kept) old mid had x)) y)
