-- Handles that are made one after the other and listed: what they leave of the seat of types, and what they stand for.
use Rattle.std.proofs.Common.{◌≡◌, sym, subst, ℕ, List, [], ◌∷◌, ◌++◌, Result, Ok, Err}
use Rattle.std.specs.Result.{IsErrAnd}
use Rattle.mh_intern.specs.Exchanges.{Exchanges}
use Rattle.mh_intern.proofs.Exchanging.{exchanges-still}
use Rattle.mh_leaf.specs.LeafTable.{LeafTable}
use Rattle.mh_tree.specs.Tree as tree
use Rattle.mh_handle.specs.declared.error.HandleError.{HandleError}
use Rattle.mh_handle.specs.declared.handle.Handle.{Handle}
use Rattle.mh_handle.specs.declared.work.Work.{Work}
use Rattle.mh_handle.specs.Stands.{HandleView, StandsForSome}
use Rattle.mh_handle.specs.Works.{IsUnchanged, GoesOn}
use Rattle.mh_handle.proofs.obeying.Going.{goes_on-before, seated-back}
use Rattle.mh_more.specs.Several.{holds_of}
use Rattle.mh_steps.specs.AnyTypes.{ExchangesAny, TradesAnyAll}
use Rattle.mh_steps.specs.SomeCases.{StandForSome}
use Rattle.mh_steps.proofs.Adding.{adds-both, adds-none}

-- ---- the seat of types

-- a first handle and others came, and then nothing changed
pub listed : (h : HandleView) (hs all : List HandleView) (old mid late new : Work) → all ≡ h ∷ hs → ExchangesAny [] h.held old.seat.now mid.seat.now →
    ExchangesAny [] (holds_of hs) mid.seat.now late.seat.now → new.seat.now ≡ late.seat.now → ExchangesAny [] (holds_of all) old.seat.now new.seat.now
listed h hs all old mid late new is x y same =
    subst (λ l. ExchangesAny [] (holds_of l) old.seat.now new.seat.now) (sym is)
    (subst (λ s. ExchangesAny [] (h.held ++ holds_of hs) old.seat.now s) (sym same)
    (adds-both h.held (holds_of hs) old.seat.now mid.seat.now late.seat.now x y))

pub none-listed : (hs : List HandleView) (w : Work) → hs ≡ [] → ExchangesAny [] (holds_of hs) w.seat.now w.seat.now
none-listed hs w none = subst (λ l. ExchangesAny [] (holds_of l) w.seat.now w.seat.now) (sym none) (adds-none w.seat.now)

-- memory ran out
pub unlisted : (P : HandleError → Type 0) (old new : Work) (r : Result (List Handle) HandleError) → IsErrAnd r P →
    ExchangesAny [] [] old.seat.now new.seat.now → TradesAnyAll old new r
unlisted P old new (Ok hs) is x = absurd is
unlisted P old new (Err e) is x = x

-- the seat stayed
pub goes_on-listed : (numbers : ℕ) (a b c : Work) → GoesOn numbers a b → IsUnchanged b c → c.seat.now ≡ b.seat.now → GoesOn numbers a c
goes_on-listed numbers a b c x still same =
    goes_on-before numbers a b c x still (seated-back [] [] b c (subst (λ s. Exchanges [] [] [] b.seat.now s) (sym same) (exchanges-still b.seat.now)))

-- ---- what they stand for

pub some-none : (table : LeafTable) (hs : List HandleView) → hs ≡ [] → StandForSome table hs
some-none table hs none = subst (StandForSome table) (sym none) (tree.no_cases, tt)

pub some-more : (table : LeafTable) (h : HandleView) (hs all : List HandleView) → all ≡ h ∷ hs → StandsForSome table h → StandForSome table hs →
    StandForSome table all
some-more table h hs all is first others = subst (StandForSome table) (sym is) (tree.one_case first.0 others.0, (first.1, others.1))

pub stand-over : (old new : LeafTable) (hs : List HandleView) → new ≡ old → StandForSome old hs → StandForSome new hs
stand-over old new hs same stand = subst (λ table. StandForSome table hs) (sym same) stand
