-- What the calls that make handles of parts, or by two calls, leave of the seat of types.
use Rattle.std.proofs.Common.{◌≡◌, sym, subst, ℕ, ◌≤◌, List, [], ◌∷◌, ◌++◌, append-nil, Result, Ok, Err, arith}
use Rattle.std.specs.Prelude.{IsErrAnd}
use Rattle.mh_values.specs.declared.types.MethodTy.{MethodTy}
use Rattle.mh_intern.specs.Exchanges.{AreHeld, Exchanges}
use Rattle.mh_intern.specs.Held.{times_type}
use Rattle.mh_intern.specs.Views.{HoldView, SeatView}
use Rattle.mh_intern.proofs.Exchanging.{exchanges-more, exchanges-then}
use Rattle.mh_intern.proofs.Measures.{times_type-append}
use Rattle.mh_handle.specs.declared.error.HandleError.{HandleError}
use Rattle.mh_handle.specs.declared.error.HandleError.TheVariants.{NoMemory, FormsFull, TypesFull, Refused}
use Rattle.mh_handle.specs.declared.handle.Handle.{Handle}
use Rattle.mh_handle.specs.declared.work.Work.{Work}
use Rattle.mh_handle.specs.Works.{IsAccepted, IsReady, IsUnchanged, TradesTypes}
use Rattle.mh_handle.proofs.obeying.Going.{seated-still, unchanged-ready}
use Rattle.mh_handle.proofs.holding.HoldOrders.{exchanges-few}

-- ---- parts

-- the holds are there still where nothing has come or gone
pub held-same : (held held' : List HoldView) (a b : SeatView) → b ≡ a → held ≡ held' → AreHeld a held' → AreHeld b held
held-same held held' a b same is had = subst (AreHeld b) (sym is) (subst (λ s. AreHeld s held') (sym same) had)

-- a thread's work is ready still
pub ready-still : (n : ℕ) (a b : Work) → IsUnchanged a b → b.seat.now ≡ a.seat.now → IsReady a n → IsReady b n
ready-still n a b x same ready = unchanged-ready n a b x (seated-still a b same) ready

-- ---- handles

-- nothing has come or gone before
pub trades-from : (asks : List MethodTy) (gone : List HoldView) (a b c : Work) (r : Result Handle HandleError) → b.seat.now ≡ a.seat.now →
    TradesTypes asks gone b c r → TradesTypes asks gone a c r
trades-from asks gone a b c (Ok h) same t = subst (λ s. Exchanges asks gone h.held s c.seat.now) same t
trades-from asks gone a b c (Err NoMemory) same t = subst (λ s. Exchanges asks gone [] s c.seat.now) same t
trades-from asks gone a b c (Err (FormsFull drawn)) same t = subst (λ s. Exchanges asks gone [] s c.seat.now) same t
trades-from asks gone a b c (Err (TypesFull bucket)) same t = (subst (λ s. Exchanges asks gone [] s c.seat.now) same t.0, t.1)
trades-from asks gone a b c (Err (Refused e)) same t = subst (λ s. Exchanges [] gone [] s c.seat.now) same t

-- a handle is made of parts
pub trades-parts : (t : MethodTy) (parts gone : List HoldView) (a b c : Work) (r : Result Handle HandleError) → parts ≡ gone → b.seat.now ≡ a.seat.now →
    TradesTypes (t ∷ []) parts b c r → TradesTypes (t ∷ []) gone a c r
trades-parts t parts gone a b c r all same x = trades-from (t ∷ []) gone a b c r same (subst (λ l. TradesTypes (t ∷ []) l b c r) all x)

-- memory is short, and holds were handed back
pub trades-short : (asks : List MethodTy) (gone : List HoldView) (a b : Work) (r : Result Handle HandleError) → IsErrAnd r (λ x. x ≡ NoMemory) →
    Exchanges [] gone [] a.seat.now b.seat.now → TradesTypes asks gone a b r
trades-short asks gone a b (Ok h) is x = absurd is
trades-short asks gone a b (Err e) is x =
    subst (λ v. TradesTypes asks gone a b (Err v)) (sym is) (exchanges-few asks gone [] a.seat.now b.seat.now x)

-- ---- more types that may be asked for

-- other types may be asked for too
pub trades-more : (asks more : List MethodTy) (gone : List HoldView) (a b : Work) (r : Result Handle HandleError) →
    ((t : MethodTy) → times_type t asks ≤ times_type t more) → TradesTypes asks gone a b r → TradesTypes more gone a b r
trades-more asks more gone a b (Ok h) fewer t = exchanges-more asks more gone h.held a.seat.now b.seat.now fewer t
trades-more asks more gone a b (Err NoMemory) fewer t = exchanges-more asks more gone [] a.seat.now b.seat.now fewer t
trades-more asks more gone a b (Err (FormsFull drawn)) fewer t = exchanges-more asks more gone [] a.seat.now b.seat.now fewer t
trades-more asks more gone a b (Err (TypesFull bucket)) fewer t = (
  exchanges-more asks more gone [] a.seat.now b.seat.now fewer t.0,
  (t.1.0, (let few = fewer t.1.0 in omega (arith, few, t.1.1)), t.1.2),
)
trades-more asks more gone a b (Err (Refused e)) fewer t = t

-- the first call has failed, and the second would have asked for more
pub trades-first : (asks more : List MethodTy) (gone : List HoldView) (a b : Work) (e : HandleError) (r : Result Handle HandleError) →
    TradesTypes asks gone a b (Err e) → IsErrAnd r (λ x. x ≡ e) → TradesTypes (asks ++ more) gone a b r
trades-first asks more gone a b e (Ok h) t is = absurd is
trades-first asks more gone a b e (Err x) t is =
    subst (λ v. TradesTypes (asks ++ more) gone a b (Err v)) (sym is)
    (trades-more asks (asks ++ more) gone a b (Err e) (λ u. let both = times_type-append u asks more in omega (arith, both)) t)

-- the second call is handed the handle that the first one has made
pub trades-then : (asks more : List MethodTy) (gone through : List HoldView) (a b c : Work) (r : Result Handle HandleError) → IsAccepted r →
    Exchanges asks gone through a.seat.now b.seat.now → TradesTypes more through b c r → TradesTypes (asks ++ more) gone a c r
trades-then asks more gone through a b c r accepted x y = cases r accepted y
  where
    whole : (came : List HoldView) → Exchanges more through came b.seat.now c.seat.now → Exchanges (asks ++ more) gone came a.seat.now c.seat.now
    whole came z =
        subst (λ l. Exchanges (asks ++ more) l came a.seat.now c.seat.now) (append-nil gone)
        (exchanges-then asks more gone through [] came a.seat.now b.seat.now c.seat.now x
        (subst (λ l. Exchanges more l came b.seat.now c.seat.now) (sym (append-nil through)) z))

    cases : (r : Result Handle HandleError) → IsAccepted r → TradesTypes more through b c r → TradesTypes (asks ++ more) gone a c r
    cases (Ok h) accepted t = whole h.held t
    cases (Err NoMemory) accepted t = whole [] t
    cases (Err (FormsFull drawn)) accepted t = whole [] t
    cases (Err (TypesFull bucket)) accepted t = (
      whole [] t.0,
      (t.1.0, (let both = times_type-append t.1.0 asks more in omega (arith, both, t.1.1)), t.1.2),
    )
    cases (Err (Refused e)) accepted t = absurd accepted
