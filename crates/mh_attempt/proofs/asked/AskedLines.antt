-- The forms that the lines of a script ask for, one after the other.
use Rattle.std.proofs.Common.{◌≡◌, sym, subst, List, ◌++◌, Result, Ok, Err}
use Rattle.std.specs.Prelude.{IsErrAnd}
use Rattle.mh_edit.specs.declared.key.Key.{Key}
use Rattle.mh_handle.specs.declared.error.HandleError.{HandleError}
use Rattle.mh_handle.specs.declared.error.HandleError.TheVariants.{NoMemory, FormsFull, TypesFull, Refused}
use Rattle.mh_handle.specs.declared.work.Work.{Work}
use Rattle.mh_attempt.specs.Asked.{AsksIfMade, AsksOrThrows, HasAskedMore, HasStopped, HasStoppedAt, HasNoNumber}
use Rattle.mh_attempt.proofs.asked.AskedAfter.{asked_more-both, full-after, stopped-after}

-- what is asked for is the same
pub same-asks : {A : Type 0} (recipes other : List (List Key)) (old new : Work) (r : Result A HandleError) → recipes ≡ other →
    AsksOrThrows other old new r → AsksOrThrows recipes old new r
same-asks recipes other old new r is asks = subst (λ rs. AsksOrThrows rs old new r) (sym is) asks

-- forms were asked for, and then others by what follows
pub asks-after : {A : Type 0} (recipes more : List (List Key)) (old mid new : Work) (r : Result A HandleError) →
    HasAskedMore recipes old.pass.now mid.pass.now → AsksOrThrows more mid new r → AsksOrThrows (recipes ++ more) old new r
asks-after recipes more old mid new (Ok a) first asks = asked_more-both recipes more old.pass.now mid.pass.now new.pass.now first asks
asks-after recipes more old mid new (Err (Refused e)) first asks = asked_more-both recipes more old.pass.now mid.pass.now new.pass.now first asks
asks-after recipes more old mid new (Err (FormsFull drawn)) first full = full-after recipes more drawn old.pass.now mid.pass.now new.pass.now first full
asks-after recipes more old mid new (Err (TypesFull bucket)) first stopped =
    stopped-after recipes more old.pass.now mid.pass.now new.pass.now first stopped
asks-after recipes more old mid new (Err NoMemory) first asks = tt

-- the pass stays as it is when a handle is given back
pub asks-given_back : {A : Type 0} (recipes : List (List Key)) (old new back : Work) (r : Result A HandleError) → back.pass.now ≡ new.pass.now →
    AsksOrThrows recipes old new r → AsksOrThrows recipes old back r
asks-given_back recipes old new back (Ok a) same asks = subst (HasAskedMore recipes old.pass.now) (sym same) asks
asks-given_back recipes old new back (Err (Refused e)) same asks = subst (HasAskedMore recipes old.pass.now) (sym same) asks
asks-given_back recipes old new back (Err (FormsFull drawn)) same full = subst (HasNoNumber recipes drawn old.pass.now) (sym same) full
asks-given_back recipes old new back (Err (TypesFull bucket)) same stopped = subst (HasStoppedAt recipes old.pass.now) (sym same) stopped
asks-given_back recipes old new back (Err NoMemory) same asks = tt

-- an error is handed on
pub asks-error : (A : Type 0) {B : Type 0} (recipes : List (List Key)) (old new : Work) (error : HandleError) (r : Result B HandleError) →
    IsErrAnd r (λ x. x ≡ error) → AsksOrThrows {A = A} recipes old new (Err error) → AsksOrThrows recipes old new r
asks-error A recipes old new error (Ok b) is asks = absurd is
asks-error A {B} recipes old new error (Err x) is asks = subst (λ y. AsksOrThrows {A = B} recipes old new (Err y)) (sym is) (cases error asks)
  where
    cases : (y : HandleError) → AsksOrThrows {A = A} recipes old new (Err y) → AsksOrThrows {A = B} recipes old new (Err y)
    cases (Refused e) given = given
    cases (FormsFull drawn) given = given
    cases (TypesFull bucket) given = given
    cases NoMemory given = given

-- the same, where none is asked for if a rule refuses
pub asks-handed : {B : Type 0} (recipes : List (List Key)) (old new : Work) (error : HandleError) (r : Result B HandleError) →
    IsErrAnd r (λ x. x ≡ error) → HasStopped recipes old.pass.now new.pass.now error → AsksIfMade recipes old new r
asks-handed recipes old new error (Ok b) is stopped = absurd is
asks-handed recipes old new error (Err x) is stopped = subst (HasStopped recipes old.pass.now new.pass.now) (sym is) stopped
