-- Calls one after the other that make handles, and what they leave of the seat of types.
use Rattle.std.proofs.Common.{◌≡◌, sym, ap, subst, List, [], ◌++◌, length, append-nil, arith, Result, Ok, Err}
use Rattle.std.specs.Result.{IsErrAnd}
use Rattle.mh_values.specs.declared.types.MethodTy.{MethodTy}
use Rattle.mh_intern.specs.Exchanges.{AreHeld, Exchanges}
use Rattle.mh_intern.specs.Views.{HoldView, SeatView}
use Rattle.mh_intern.proofs.Exchanging.{exchanges-both, exchanges-still, exchanges-then, held-came, held-still}
use Rattle.mh_intern.proofs.HeldLists.{held-first, held-none}
use Rattle.mh_handle.specs.declared.error.HandleError.{HandleError}
use Rattle.mh_handle.specs.declared.error.HandleError.TheVariants.{NoMemory, FormsFull, TypesFull, Refused}
use Rattle.mh_handle.specs.declared.handle.Handle.{Handle}
use Rattle.mh_handle.specs.declared.work.Work.{Work}
use Rattle.mh_handle.specs.Stands.{HandleView, IsShaped}
use Rattle.mh_handle.specs.Works.{TradesTypes}
use Rattle.mh_handle.proofs.obeying.Going.{Seated, seated-came}
use Rattle.mh_handle.proofs.holding.HoldOrders.{exchanges-back, exchanges-same, same-swapped}
use Rattle.mh_handle.proofs.holding.SingleHolds.{held-swapped, held-yet}
use Rattle.mh_steps.specs.AnyTypes.{ExchangesAny, TradesAny}

-- ---- single calls

pub adds-none : (s : SeatView) → ExchangesAny [] [] s s
adds-none s = ([], exchanges-still s)

pub adds : (asks : List MethodTy) (gone : List HoldView) (a b : Work) (r : Result Handle HandleError) → TradesTypes asks gone a b r → TradesAny gone a b r
adds asks gone a b (Ok h) t = (asks, t)
adds asks gone a b (Err NoMemory) t = (asks, t)
adds asks gone a b (Err (FormsFull drawn)) t = (asks, t)
adds asks gone a b (Err (TypesFull bucket)) t = (asks, t.0)
adds asks gone a b (Err (Refused e)) t = ([], t)

-- an error is passed on
pub adds-refused : (P : HandleError → Type 0) (gone : List HoldView) (a b : Work) (r : Result Handle HandleError) → IsErrAnd r P →
    ExchangesAny gone [] a.seat.now b.seat.now → TradesAny gone a b r
adds-refused P gone a b (Ok h) is x = absurd is
adds-refused P gone a b (Err e) is x = x

-- nothing was called
pub none-made : (P : HandleError → Type 0) (w : Work) (r : Result Handle HandleError) → IsErrAnd r P → TradesAny [] w w r
none-made P w r is = adds-refused P [] w w r is (adds-none w.seat.now)

-- ---- seats after calls

-- holds come in the place of those that had come
pub adds-next : (gone through came : List HoldView) (a b c : SeatView) → ExchangesAny gone through a b → ExchangesAny through came b c →
    ExchangesAny gone came a c
adds-next gone through came a b c x y = (
  x.0 ++ y.0,
  subst (λ l. Exchanges (x.0 ++ y.0) l came a c) (append-nil gone)
      (exchanges-then x.0 y.0 gone through [] came a b c x.1 (subst (λ l. Exchanges y.0 l came b c) (sym (append-nil through)) y.1)),
)

-- holds come beside those that had come
pub adds-both : (came came' : List HoldView) (a b c : SeatView) → ExchangesAny [] came a b → ExchangesAny [] came' b c → ExchangesAny [] (came ++ came') a c
adds-both came came' a b c x y = (x.0 ++ y.0, exchanges-both x.0 y.0 [] [] came came' a b c x.1 y.1)

-- none come beside them
pub adds-still : (came : List HoldView) (a b c : SeatView) → ExchangesAny [] came a b → ExchangesAny [] [] b c → ExchangesAny [] came a c
adds-still came a b c x y = subst (λ l. ExchangesAny [] l a c) (append-nil came) (adds-both came [] a b c x y)

-- holds come in the place of others and of those that had come
pub adds-with : (kept part came : List HoldView) (a b c : SeatView) → ExchangesAny [] part a b → ExchangesAny (kept ++ part) came b c →
    ExchangesAny kept came a c
adds-with kept part came a b c x y =
    (x.0 ++ y.0, exchanges-then x.0 y.0 [] part kept came a b c x.1 (exchanges-same y.0 (kept ++ part) (part ++ kept) came b c (same-swapped kept part) y.1))

-- others are handed back after a call that has brought none
pub adds-back : (kept : List HoldView) (a b c : SeatView) → ExchangesAny [] [] a b → Exchanges [] kept [] b c → ExchangesAny kept [] a c
adds-back kept a b c x y = (x.0 ++ [], exchanges-then x.0 [] [] [] kept [] a b c x.1 y)

-- ---- what is held

pub adds-held : (came : List HoldView) (a b : SeatView) → ExchangesAny [] came a b → AreHeld b came
adds-held came a b x = held-came x.0 [] came a b x.1 (held-none a)

-- others are held still
pub adds-yet : (came kept : List HoldView) (a b : SeatView) → ExchangesAny [] came a b → AreHeld a kept → AreHeld b kept
adds-yet came kept a b x had = held-yet x.0 came kept a b x.1 had

-- others are held beside those that came
pub adds-beside : (kept part : List HoldView) (a b : SeatView) → ExchangesAny [] part a b → AreHeld a kept → AreHeld b (kept ++ part)
adds-beside kept part a b x had = held-swapped b part kept (held-still x.0 [] part kept a b x.1 had)

-- ---- calls that make handles

pub types-next : (gone through : List HoldView) (a b c : Work) (r : Result Handle HandleError) → ExchangesAny gone through a.seat.now b.seat.now →
    TradesAny through b c r → TradesAny gone a c r
types-next gone through a b c (Ok h) x y = adds-next gone through h.held a.seat.now b.seat.now c.seat.now x y
types-next gone through a b c (Err e) x y = adds-next gone through [] a.seat.now b.seat.now c.seat.now x y

pub types-with : (kept part : List HoldView) (a b c : Work) (r : Result Handle HandleError) → ExchangesAny [] part a.seat.now b.seat.now →
    TradesAny (kept ++ part) b c r → TradesAny kept a c r
types-with kept part a b c (Ok h) x y = adds-with kept part h.held a.seat.now b.seat.now c.seat.now x y
types-with kept part a b c (Err e) x y = adds-with kept part [] a.seat.now b.seat.now c.seat.now x y

-- ---- several handles

module _ (test target : List HoldView) (a b c : SeatView) (two : ExchangesAny [] (test ++ target) a b) where
  -- a third one came
  pub three : (fallback : List HoldView) → ExchangesAny [] fallback b c → ExchangesAny [] (test ++ target ++ fallback) a c
  three fallback x = adds-both (test ++ target) fallback a b c two x

  -- none came, and the two are handed back
  pub first-held : ExchangesAny [] [] b c → AreHeld c test
  first-held x = held-first c test target (adds-held (test ++ target) a c (adds-still (test ++ target) a b c two x))

  pub second-held : (d : SeatView) → ExchangesAny [] [] b c → Exchanges [] test [] c d → AreHeld d target
  second-held d x y = held-still [] test [] target c d y (adds-held (test ++ target) a c (adds-still (test ++ target) a b c two x))

  pub both-back : (d e : SeatView) → ExchangesAny [] [] b c → Exchanges [] test [] c d → Exchanges [] target [] d e → ExchangesAny [] [] a e
  both-back d e x y z =
      adds-next [] (test ++ target) [] a c e (adds-still (test ++ target) a b c two x) ([], exchanges-back test target c d e y z)

-- ---- a copy

pub copy-seated : (h part : HandleView) (a b : Work) → IsShaped h → part.held ≡ h.held → Exchanges [] [] part.held a.seat.now b.seat.now → Seated 1 a b
copy-seated h part a b shaped same x =
    seated-came [] [] part.held a b
    (let n : length part.held ≡ length h.held = ap length same in omega (arith, n, shaped.few, shaped.light)) x
