-- What is known where calls have stopped for want of a number or of a slot, whatever values constants have.
use Rattle.std.proofs.Common.{◌≡◌, sym, subst, List, Result, Ok, Err}
use Rattle.std.specs.Prelude.{IsErrAnd}
use Rattle.mh_values.specs.declared.types.MethodTy.{MethodTy}
use Rattle.mh_edit.specs.declared.key.Key.{Key}
use Rattle.mh_intern.specs.Views.{SeatView}
use Rattle.mh_handle.specs.declared.work.Work.{Work}
use Rattle.mh_handle.specs.Passes.{PassView}
use Rattle.mh_attempt.specs.declared.error.WorkError.{WorkError}
use Rattle.mh_attempt.specs.declared.error.WorkError.TheVariants.{NoMemory, FormsFull, TypesFull}
use Rattle.mh_attempt.specs.Asked.{Asks}
use Rattle.mh_attempt.specs.AskedTypes.{AsksTypes}
use Rattle.mh_runtime.specs.Asking.{LacksRoom}

-- whichever the answer would have been
pub lacks-any : (A B : Type 0) (forms : PassView) (types : SeatView) (e : WorkError) → LacksRoom {A = A} forms types (Err e) → LacksRoom {A = B} forms types
    (Err e)
lacks-any A B forms types NoMemory lacks = tt
lacks-any A B forms types (FormsFull drawn) lacks = lacks
lacks-any A B forms types (TypesFull bucket) lacks = lacks

-- and where its error is handed on
pub lacks-handed : {B : Type 0} (A : Type 0) (forms : PassView) (types : SeatView) (e : WorkError) (r : Result B WorkError) → IsErrAnd r (λ x. x ≡ e) →
    LacksRoom {A = A} forms types (Err e) → LacksRoom forms types r
lacks-handed A forms types e (Ok x) is lacks = absurd is
lacks-handed {B = B} A forms types e (Err x) is lacks =
    subst (λ error. LacksRoom {A = B} forms types (Err error)) (sym is) (lacks-any A B forms types e lacks)

-- for want of memory nothing is
pub lacks-memory : {B : Type 0} (forms : PassView) (types : SeatView) (r : Result B WorkError) → IsErrAnd r (λ x. x ≡ NoMemory) → LacksRoom forms types r
lacks-memory {B = B} forms types r is = lacks-handed B forms types NoMemory r is tt

-- what a call says that asks for forms and types
pub lacks-asks : {A : Type 0} (recipes : List (List Key)) (types : List MethodTy) (old new : Work) (r : Result A WorkError) → Asks recipes old new r →
    AsksTypes types old new r → LacksRoom new.pass.now new.seat.now r
lacks-asks recipes types old new (Ok a) asks asked = tt
lacks-asks recipes types old new (Err NoMemory) asks asked = tt
lacks-asks recipes types old new (Err (FormsFull drawn)) asks asked = asks.1
lacks-asks recipes types old new (Err (TypesFull bucket)) asks asked = asked.1

-- and where its error is handed on
pub lacks-stopped : {B : Type 0} (A : Type 0) (recipes : List (List Key)) (types : List MethodTy) (old new : Work) (e : WorkError) (r : Result B WorkError) →
    IsErrAnd r (λ x. x ≡ e) → Asks {A = A} recipes old new (Err e) → AsksTypes {A = A} types old new (Err e) → LacksRoom new.pass.now new.seat.now r
lacks-stopped A recipes types old new e r is asks asked =
    lacks-handed A new.pass.now new.seat.now e r is (lacks-asks {A = A} recipes types old new (Err e) asks asked)
