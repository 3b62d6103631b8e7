-- What is held after a handle was made, or was not.
use Rattle.std.proofs.Common.{◌≡◌, sym, ap, subst, ◌≤◌, List, [], ◌∷◌, ◌++◌, arith, Result, Ok, Err}
use Rattle.mh_values.specs.declared.types.MethodTy.{MethodTy}
use Rattle.mh_values.specs.Same.{is_same_method_type}
use Rattle.mh_values.proofs.SameTypes.{same_method_type-itself}
use Rattle.mh_intern.proofs.Entries.{bit}
use Rattle.mh_intern.proofs.Measures.{count_cons}
use Rattle.mh_intern.specs.declared.error.InternError.{InternError}
use Rattle.mh_intern.specs.declared.error.InternError.TheVariants as intern
use Rattle.mh_intern.specs.Exchanges.{Exchanges}
use Rattle.mh_intern.specs.Held.{times_type}
use Rattle.mh_intern.specs.Views.{HoldView}
use Rattle.mh_intern.proofs.SingleExchanges.{no-slot-still}
use Rattle.mh_tree.specs.declared.error.CheckError.{CheckError}
use Rattle.mh_tree.specs.declared.error.CheckError.TheVariants as check
use Rattle.mh_tree.specs.Rows.{TypeOrRefusal}
use Rattle.mh_handle.specs.declared.error.HandleError.{HandleError}
use Rattle.mh_handle.specs.declared.error.HandleError.TheVariants.{NoMemory, FormsFull, TypesFull, Refused}
use Rattle.mh_handle.specs.declared.handle.Handle.{Handle}
use Rattle.mh_handle.specs.declared.work.Work.{Work}
use Rattle.mh_handle.specs.Errors.{of_check, of_intern}
use Rattle.mh_handle.specs.Works.{IsAccepted, TradesHold, TradesTypes, types_in}
use Rattle.mh_handle.proofs.holding.HoldOrders.{Same, exchanges-same, exchanges-after, exchanges-few}

-- ---- handles

-- the holds of a handle, if there is one
abbrev pub held_in : {E : Type 0} → Result Handle E → List HoldView
held_in (Ok h) = h.held
held_in (Err e) = []

-- what a call leaves of the seat that is not refused by its rule
pub traded : (asks : List MethodTy) (gone : List HoldView) (a b : Work) (r : Result Handle HandleError) → IsAccepted r → TradesTypes asks gone a b r →
    Exchanges asks gone (held_in r) a.seat.now b.seat.now
traded asks gone a b (Ok h) accepted t = t
traded asks gone a b (Err NoMemory) accepted t = t
traded asks gone a b (Err (FormsFull drawn)) accepted t = t
traded asks gone a b (Err (TypesFull bucket)) accepted t = t.0
traded asks gone a b (Err (Refused e)) accepted t = absurd accepted

-- the same of any call
pub traded-any : (asks : List MethodTy) (gone : List HoldView) (a b : Work) (r : Result Handle HandleError) → TradesTypes asks gone a b r →
    Exchanges asks gone (held_in r) a.seat.now b.seat.now
traded-any asks gone a b (Ok h) t = t
traded-any asks gone a b (Err NoMemory) t = t
traded-any asks gone a b (Err (FormsFull drawn)) t = t
traded-any asks gone a b (Err (TypesFull bucket)) t = t.0
traded-any asks gone a b (Err (Refused e)) t = exchanges-few asks gone [] a.seat.now b.seat.now t

-- holds are handed back after a call that makes a handle
pub trades-after : (asks : List MethodTy) (gone back : List HoldView) (a b c : Work) (r : Result Handle HandleError) → TradesTypes asks gone a b r →
    Exchanges [] back [] b.seat.now c.seat.now → TradesTypes asks (gone ++ back) a c r
trades-after asks gone back a b c (Ok h) t x = exchanges-after asks gone h.held back a.seat.now b.seat.now c.seat.now t x
trades-after asks gone back a b c (Err NoMemory) t x = exchanges-after asks gone [] back a.seat.now b.seat.now c.seat.now t x
trades-after asks gone back a b c (Err (FormsFull drawn)) t x = exchanges-after asks gone [] back a.seat.now b.seat.now c.seat.now t x
trades-after asks gone back a b c (Err (TypesFull bucket)) t x = (
  exchanges-after asks gone [] back a.seat.now b.seat.now c.seat.now t.0 x,
  (t.1.0, t.1.1, no-slot-still bucket t.1.0 [] back [] b.seat.now c.seat.now t.1.2 x),
)
trades-after asks gone back a b c (Err (Refused e)) t x = exchanges-after [] gone [] back a.seat.now b.seat.now c.seat.now t x

-- the same holds in another order
pub trades-same : (asks : List MethodTy) (gone gone' : List HoldView) (a b : Work) (r : Result Handle HandleError) → Same gone gone' →
    TradesTypes asks gone a b r → TradesTypes asks gone' a b r
trades-same asks gone gone' a b (Ok h) same t = exchanges-same asks gone gone' h.held a.seat.now b.seat.now same t
trades-same asks gone gone' a b (Err NoMemory) same t = exchanges-same asks gone gone' [] a.seat.now b.seat.now same t
trades-same asks gone gone' a b (Err (FormsFull drawn)) same t = exchanges-same asks gone gone' [] a.seat.now b.seat.now same t
trades-same asks gone gone' a b (Err (TypesFull bucket)) same t = (exchanges-same asks gone gone' [] a.seat.now b.seat.now same t.0, t.1)
trades-same asks gone gone' a b (Err (Refused e)) same t = exchanges-same [] gone gone' [] a.seat.now b.seat.now same t

-- a rule gives the type that is asked for
pub trades-row : (row : TypeOrRefusal) (t : MethodTy) (gone : List HoldView) (a b : Work) (r : Result Handle HandleError) → row ≡ Ok t →
    TradesTypes (t ∷ []) gone a b r → TradesTypes (types_in row) gone a b r
trades-row row t gone a b r is x = subst (λ l. TradesTypes l gone a b r) (ap types_in (sym is)) x

-- a check has failed, and handles were given back
pub trades-checked : (asks : List MethodTy) (gone : List HoldView) (a b : Work) (e : CheckError) (r : Result Handle HandleError) → r ≡ Err (of_check e) →
    Exchanges [] gone [] a.seat.now b.seat.now → TradesTypes asks gone a b r
trades-checked asks gone a b check.NoMemory r is x =
    subst (TradesTypes asks gone a b) (sym is) (exchanges-few asks gone [] a.seat.now b.seat.now x)
trades-checked asks gone a b (check.Refused e) r is x = subst (TradesTypes asks gone a b) (sym is) x

pub itself : (t : MethodTy) → 1 ≤ times_type t (t ∷ [])
itself t =
    let one = count_cons (λ (u : MethodTy). is_same_method_type u t) t [] in
    let same : bit (is_same_method_type t t) ≡ 1 = ap bit (same_method_type-itself t) in
    omega (arith, one, same)

-- the type of a handle could not be held, and handles were given back
pub trades-unheld : (t : MethodTy) (gone : List HoldView) (a b c : Work) (e : InternError) → TradesHold t a.seat.now (Err e) b.seat.now →
    Exchanges [] gone [] b.seat.now c.seat.now → TradesTypes (t ∷ []) gone a c (Err (of_intern e))
trades-unheld t gone a b c intern.NoMemory held x = exchanges-after (t ∷ []) [] [] gone a.seat.now b.seat.now c.seat.now held x
trades-unheld t gone a b c (intern.TypesFull bucket) held x = (
  exchanges-after (t ∷ []) [] [] gone a.seat.now b.seat.now c.seat.now held.0 x,
  (t, itself t, no-slot-still bucket t [] gone [] b.seat.now c.seat.now held.1 x),
)
