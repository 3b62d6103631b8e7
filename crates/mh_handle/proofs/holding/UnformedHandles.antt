-- A handle whose type is held, and whose form could not be made.
use Rattle.std.proofs.Common.{◌≡◌, subst, List, [], ◌∷◌, Err}
use Rattle.mh_values.specs.declared.types.MethodTy.{MethodTy}
use Rattle.mh_intern.specs.Exchanges.{AreHeld, Exchanges}
use Rattle.mh_intern.specs.Views.{HoldView}
use Rattle.mh_intern.proofs.Exchanging.{exchanges-then}
use Rattle.mh_intern.proofs.SingleExchanges.{no-slot-still}
use Rattle.mh_edit.specs.declared.key.Key.{Key}
use Rattle.mh_handle.specs.declared.error.EditError.{EditError}
use Rattle.mh_handle.specs.declared.error.EditError.TheVariants as edit
use Rattle.mh_handle.specs.declared.error.HandleError.{HandleError}
use Rattle.mh_handle.specs.declared.error.HandleError.TheVariants.{NoMemory, FormsFull, TypesFull, Refused}
use Rattle.mh_handle.specs.declared.work.Work.{Work}
use Rattle.mh_handle.specs.Errors.{of_edit}
use Rattle.mh_handle.specs.Works.{MakesForm, TradesForm, TradesTypes}
use Rattle.mh_handle.proofs.holding.HoldOrders.{exchanges-after}
use Rattle.mh_handle.proofs.holding.Trading.{itself}
use Rattle.mh_handle.proofs.holding.SingleHolds.{held-yet}

-- ---- the type and the form of a handle

-- they could not be had
pub unformed-yet : (t : MethodTy) (kept : List HoldView) (a b : Work) (e : HandleError) → TradesForm t a b (Err e) → AreHeld a.seat.now kept →
    AreHeld b.seat.now kept
unformed-yet t kept a b NoMemory x had = held-yet (t ∷ []) [] kept a.seat.now b.seat.now x had
unformed-yet t kept a b (FormsFull drawn) x had = held-yet (t ∷ []) [] kept a.seat.now b.seat.now x had
unformed-yet t kept a b (TypesFull bucket) x had = held-yet (t ∷ []) [] kept a.seat.now b.seat.now x.0 had
unformed-yet t kept a b (Refused e) x had = held-yet (t ∷ []) [] kept a.seat.now b.seat.now x had

-- and other holds were handed back
pub trades-unformed : (recipe : List Key) (t : MethodTy) (gone : List HoldView) (a b c : Work) (e : HandleError) → MakesForm recipe a b (Err e) →
    TradesForm t a b (Err e) → Exchanges [] gone [] b.seat.now c.seat.now → TradesTypes (t ∷ []) gone a c (Err e)
trades-unformed recipe t gone a b c NoMemory makes x y = exchanges-after (t ∷ []) [] [] gone a.seat.now b.seat.now c.seat.now x y
trades-unformed recipe t gone a b c (FormsFull drawn) makes x y = exchanges-after (t ∷ []) [] [] gone a.seat.now b.seat.now c.seat.now x y
trades-unformed recipe t gone a b c (TypesFull bucket) makes x y = (
  exchanges-after (t ∷ []) [] [] gone a.seat.now b.seat.now c.seat.now x.0 y,
  (t, itself t, no-slot-still bucket t [] gone [] b.seat.now c.seat.now x.1 y),
)
trades-unformed recipe t gone a b c (Refused e) makes x y = absurd makes

-- the edit was refused after the type was held, which was let go
pub form-unmade : (t : MethodTy) (own : HoldView) (a b c d : Work) (e : EditError) → Exchanges (t ∷ []) [] (own ∷ []) a.seat.now b.seat.now →
    c.seat.now ≡ b.seat.now → Exchanges [] (own ∷ []) [] c.seat.now d.seat.now → TradesForm t a d (Err (of_edit e))
form-unmade t own a b c d e x same y = cases e
  where
    whole : Exchanges (t ∷ []) [] [] a.seat.now d.seat.now
    whole = exchanges-then (t ∷ []) [] [] (own ∷ []) [] [] a.seat.now b.seat.now d.seat.now x (subst (λ s. Exchanges [] (own ∷ []) [] s d.seat.now) same y)

    cases : (e : EditError) → TradesForm t a d (Err (of_edit e))
    cases edit.NoMemory = whole
    cases (edit.FormsFull drawn) = whole

-- the holds of a handle are its own and those of its sides
pub same-own : (a b : HoldView) (xs ys : List HoldView) → a ∷ xs ≡ b ∷ ys → a ≡ b
same-own a b xs ys h = cc

pub same-sides : (a b : HoldView) (xs ys : List HoldView) → a ∷ xs ≡ b ∷ ys → xs ≡ ys
same-sides a b xs ys h = cc
