-- Which types calls and attempts ask a seat for, by what they answer.
use Rattle.std.proofs.Common.{◌≡◌, sym, ap, subst, ℕ, List, [], ◌∷◌, ◌++◌, Result, Ok, Err}
use Rattle.std.specs.Prelude.{IsErrAnd}
use Rattle.mh_values.specs.declared.types.MethodTy.{MethodTy}
use Rattle.mh_intern.specs.Views.{SeatView}
use Rattle.mh_handle.specs.declared.work.Work.{Work}
use Rattle.mh_jobs.specs.Given.{Given}
use Rattle.mh_link.specs.Sites.{types_at}
use Rattle.mh_attempt.specs.declared.error.WorkError.{WorkError}
use Rattle.mh_attempt.specs.declared.error.WorkError.TheVariants.{NoMemory, FormsFull, TypesFull}
use Rattle.mh_attempt.specs.AskedTypes.{AsksNoOther, AsksTypes}
use Rattle.mh_report.specs.declared.attempt.Attempt.{Attempt}
use Rattle.mh_report.specs.Types.{attempt_types}
use Rattle.mh_runtime.specs.Asking.{HasAskedOn, RunsOnTypes}
use Rattle.mh_runtime.proofs.asking.SeatAsked.{on-call, on-attempt, on-early, on-both}

module _ (given : Given) where
  -- a call that attempts nothing
  pub call-asks : {A : Type 0} (attempts : List Attempt) (more : List MethodTy) (old new : Work) (r : Result A WorkError) → AsksTypes more old new r →
      RunsOnTypes given attempts attempts more old.seat.now new.seat.now r
  call-asks attempts more old new (Ok a) asks = on-call given attempts more old.seat.now new.seat.now asks
  call-asks attempts more old new (Err NoMemory) asks = on-call given attempts more old.seat.now new.seat.now asks
  call-asks attempts more old new (Err (FormsFull drawn)) asks = on-call given attempts more old.seat.now new.seat.now asks
  call-asks attempts more old new (Err (TypesFull bucket)) asks = (on-call given attempts more old.seat.now new.seat.now asks.0, asks.1)

  -- an attempt
  module _ (attempts : List Attempt) (a : Attempt) (site : ℕ) (own : site ≡ a.site) (old new : Work) where
    -- the types of the attempt are those of its site
    same-types : types_at given site a.serial ≡ attempt_types given a
    same-types = ap (λ s. types_at given s a.serial) own

    -- that was made
    pub attempt-asks : AsksNoOther (types_at given site a.serial) old.seat.now new.seat.now →
        HasAskedOn given attempts (attempts ++ a ∷ []) [] old.seat.now new.seat.now
    attempt-asks asks =
        on-attempt given attempts a old.seat.now new.seat.now (subst (λ ts. AsksNoOther ts old.seat.now new.seat.now) same-types asks)

    -- that stopped
    stops-at : (A B : Type 0) (e : WorkError) → AsksTypes {A = A} (types_at given site a.serial) old new (Err e) →
        RunsOnTypes {A = B} given attempts (attempts ++ a ∷ []) [] old.seat.now new.seat.now (Err e)
    stops-at A B NoMemory asks = attempt-asks asks
    stops-at A B (FormsFull drawn) asks = attempt-asks asks
    stops-at A B (TypesFull bucket) asks = (attempt-asks asks.0, asks.1)

    -- and its error is handed on
    pub attempt-stops : {B : Type 0} (A : Type 0) (after : List Attempt) (e : WorkError) (r : Result B WorkError) → after ≡ attempts ++ a ∷ [] →
        IsErrAnd r (λ x. x ≡ e) → AsksTypes {A = A} (types_at given site a.serial) old new (Err e) →
        RunsOnTypes given attempts after [] old.seat.now new.seat.now r
    attempt-stops A after e (Ok x) more is asks = absurd is
    attempt-stops {B = B} A after e (Err x) more is asks =
        subst (λ error. RunsOnTypes {A = B} given attempts after [] old.seat.now new.seat.now (Err error)) (sym is)
        (subst (λ all. RunsOnTypes {A = B} given attempts all [] old.seat.now new.seat.now (Err e)) (sym more) (stops-at A B e asks))

  -- the second step stopped, after which there could have been more calls
  module _ (first second rest : List MethodTy) (a b c : List Attempt) (old mid new : SeatView) where
    second-at : (A B : Type 0) (e : WorkError) → HasAskedOn given a b first old mid → RunsOnTypes {A = A} given b c second mid new (Err e) →
        RunsOnTypes {A = B} given a c ((first ++ second) ++ rest) old new (Err e)
    second-at A B NoMemory x y = on-early given (first ++ second) rest a c old new (on-both given first second a b c old mid new x y)
    second-at A B (FormsFull drawn) x y = on-early given (first ++ second) rest a c old new (on-both given first second a b c old mid new x y)
    second-at A B (TypesFull bucket) x y = (on-early given (first ++ second) rest a c old new (on-both given first second a b c old mid new x y.0), y.1)

    -- and its error is handed on
    pub second-stops : {B : Type 0} (A : Type 0) (e : WorkError) (r : Result B WorkError) → IsErrAnd r (λ x. x ≡ e) → HasAskedOn given a b first old mid →
        RunsOnTypes {A = A} given b c second mid new (Err e) → RunsOnTypes given a c ((first ++ second) ++ rest) old new r
    second-stops A e (Ok z) is x y = absurd is
    second-stops {B = B} A e (Err z) is x y =
        subst (λ error. RunsOnTypes {A = B} given a c ((first ++ second) ++ rest) old new (Err error)) (sym is) (second-at A B e x y)

  -- whatever it answers, no other types were asked for
  pub asked-on : {A : Type 0} (a b : List Attempt) (more : List MethodTy) (old new : SeatView) (r : Result A WorkError) →
      RunsOnTypes given a b more old new r → HasAskedOn given a b more old new
  asked-on a b more old new (Ok x) runs = runs
  asked-on a b more old new (Err NoMemory) runs = runs
  asked-on a b more old new (Err (FormsFull drawn)) runs = runs
  asked-on a b more old new (Err (TypesFull bucket)) runs = runs.0

  -- want of memory after steps that were made to their end
  pub memory-on : {B : Type 0} (a b : List Attempt) (more : List MethodTy) (old new : SeatView) (r : Result B WorkError) → IsErrAnd r (λ x. x ≡ NoMemory) →
      HasAskedOn given a b more old new → RunsOnTypes given a b more old new r
  memory-on a b more old new (Ok x) is on = absurd is
  memory-on {B = B} a b more old new (Err x) is on = subst (λ error. RunsOnTypes {A = B} given a b more old new (Err error)) (sym is) on

  -- the second step stopped, of steps that have more types in all, and its error is handed on
  pub second-within : {B : Type 0} (A : Type 0) (all first second rest : List MethodTy) (a b c : List Attempt) (old mid new : SeatView) (e : WorkError)
      (r : Result B WorkError) → (first ++ second) ++ rest ≡ all → IsErrAnd r (λ x. x ≡ e) → HasAskedOn given a b first old mid →
      RunsOnTypes {A = A} given b c second mid new (Err e) → RunsOnTypes given a c all old new r
  second-within A all first second rest a b c old mid new e r is err x y =
      subst (λ ts. RunsOnTypes given a c ts old new r) is (second-stops first second rest a b c old mid new A e r err x y)

  -- want of memory after two steps, of steps that have more types in all
  pub memory-within : {B : Type 0} (all first second rest : List MethodTy) (a b c : List Attempt) (old mid new : SeatView) (r : Result B WorkError) →
      (first ++ second) ++ rest ≡ all → IsErrAnd r (λ x. x ≡ NoMemory) → HasAskedOn given a b first old mid → HasAskedOn given b c second mid new →
      RunsOnTypes given a c all old new r
  memory-within all first second rest a b c old mid new r is err x y =
      memory-on a c all old new r err (subst (λ ts. HasAskedOn given a c ts old new) is
      (on-early given (first ++ second) rest a c old new (on-both given first second a b c old mid new x y)))
