-- Single holds: one that is taken, one that is let go of, and those that stay.
use Rattle.std.proofs.Common.{◌≡◌, sym, ◌∙◌, ap, subst, ◌≤◌, List, [], ◌∷◌, ◌++◌, append-nil, arith, Result, Ok, Err, IfOk, OnErr}
use Rattle.mh_values.specs.declared.types.MethodTy.{MethodTy}
use Rattle.mh_intern.specs.declared.error.InternError.{InternError}
use Rattle.mh_intern.specs.declared.error.InternError.TheVariants as intern
use Rattle.mh_intern.specs.Exchanges.{AreHeld, Exchanges}
use Rattle.mh_intern.specs.Views.{HoldView, SeatView, with_hold, without_hold}
use Rattle.mh_intern.specs.Seats.{Holds, Interns}
use Rattle.mh_intern.proofs.Exchanging.{exchanges-both, exchanges-still, exchanges-then, held-still}
use Rattle.mh_intern.proofs.SingleExchanges.{exchanges-hold, exchanges-interned, exchanges-released, no-slot}
use Rattle.mh_intern.proofs.HeldLists.{has-append, held-second, hold-held, of-both, of-first, of-second}
use Rattle.mh_handle.specs.Works.{TradesCopy, TradesHold}

-- ---- single holds

pub hold-trades : (t : MethodTy) (old new : SeatView) (r : Result HoldView InternError) → 1 ≤ old.room → Interns t old r new → IfOk r (λ h. Holds new h) →
    TradesHold t old r new
hold-trades t old new (Ok h) some interned held = exchanges-interned t old new (Ok h) some interned held
hold-trades t old new (Err intern.NoMemory) some interned held = exchanges-interned t old new (Err intern.NoMemory) some interned held
hold-trades t old new (Err (intern.TypesFull bucket)) some interned held =
    (exchanges-interned t old new (Err (intern.TypesFull bucket)) some interned held, no-slot t bucket old new interned)

pub copy-trades : {E : Type 0} (old new : SeatView) (r : Result HoldView E) → 1 ≤ old.room → IfOk r (λ h. new ≡ with_hold h.entry old) →
    IfOk r (λ h. Holds new h) → OnErr r (new ≡ old) → TradesCopy old r new
copy-trades old new (Ok h) some now held err =
    exchanges-hold h old new (held.table ∙ ap (λ (z : SeatView). z.table.holders) now) some now
copy-trades old new (Err e) some now held err = subst (λ z. Exchanges [] [] [] old z) (sym err) (exchanges-still old)

pub let-go : (h : HoldView) (old new : SeatView) → AreHeld old (h ∷ []) → new ≡ without_hold h.entry old → Exchanges [] (h ∷ []) [] old new
let-go h old new held now = exchanges-released h old new (hold-held old h [] held) now

-- holds that came are handed back, where nothing came meanwhile
pub taken-back : (came : List HoldView) (old mid next new : SeatView) → Exchanges [] [] came old mid → Exchanges [] [] [] mid next →
    Exchanges [] came [] next new → Exchanges [] [] [] old new
taken-back came old mid next new x y z =
    let both : Exchanges [] [] came old next =
    subst (λ l. Exchanges [] [] l old next) (append-nil came) (exchanges-both [] [] [] [] came [] old mid next x y) in
    exchanges-then [] [] [] came [] [] old next new both (subst (λ l. Exchanges [] l [] next new) (sym (append-nil came)) z)

-- what the seat held and was not handed back it holds still
pub held-yet : (asks : List MethodTy) (came kept : List HoldView) (old new : SeatView) → Exchanges asks [] came old new → AreHeld old kept →
    AreHeld new kept
held-yet asks came kept old new x had = held-second new came kept (held-still asks [] came kept old new x had)

-- the type of a handle could not be held
pub unheld-yet : (t : MethodTy) (kept : List HoldView) (old new : SeatView) (e : InternError) → TradesHold t old (Err e) new → AreHeld old kept →
    AreHeld new kept
unheld-yet t kept old new intern.NoMemory held had = held-yet (t ∷ []) [] kept old new held had
unheld-yet t kept old new (intern.TypesFull bucket) held had = held-yet (t ∷ []) [] kept old new held.0 had

pub held-swapped : (seat : SeatView) (a b : List HoldView) → AreHeld seat (a ++ b) → AreHeld seat (b ++ a)
held-swapped seat a b all = record {
  tables = of-both seat.table.holders b a (of-second seat.table.holders a b all.tables) (of-first seat.table.holders a b all.tables);
  held = record { counts = λ k t. let m = has-append k t a b in let n = has-append k t b a in let h = all.held.counts k t in omega (arith, m, n, h) };
}
