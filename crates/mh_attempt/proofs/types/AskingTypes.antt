-- Which types are asked for, by what is answered.
use Rattle.std.proofs.Common.{◌≡◌, sym, subst, ℕ, arith, List, [], ◌++◌, Result, Ok, Err}
use Rattle.std.specs.Prelude.{IsErrAnd}
use Rattle.mh_values.specs.declared.types.MethodTy.{MethodTy}
use Rattle.mh_intern.specs.Exchanges.{Exchanges}
use Rattle.mh_intern.specs.Views.{HoldView, SeatView}
use Rattle.mh_intern.proofs.SingleExchanges.{no-slot-still}
use Rattle.mh_tree.specs.declared.error.CheckError.{CheckError}
use Rattle.mh_tree.specs.declared.error.CheckError.TheVariants as check
use Rattle.mh_intern.proofs.Measures.{times_type-append}
use Rattle.mh_handle.specs.declared.error.HandleError.{HandleError}
use Rattle.mh_handle.specs.declared.error.HandleError.TheVariants.{NoMemory, FormsFull, TypesFull, Refused}
use Rattle.mh_handle.specs.declared.handle.Handle.{Handle}
use Rattle.mh_handle.specs.declared.work.Work.{Work}
use Rattle.mh_handle.specs.Errors.{of_check}
use Rattle.mh_handle.specs.Works.{TradesTypes}
use Rattle.mh_attempt.specs.AskedTypes.{AsksNoOther, AsksTypesOrThrows, HasNoSlot}
use Rattle.mh_attempt.proofs.types.TypeLists.{IsWithin, within-none}

-- ---- seats

-- a seat that is as it was
pub no_other-still : (types : List MethodTy) (seat : SeatView) → AsksNoOther types seat seat
no_other-still types seat t none = omega (arith, none)

-- no type was asked for that is not in a longer list
pub no_other-more : (asks types : List MethodTy) (old new : SeatView) → IsWithin asks types → AsksNoOther asks old new → AsksNoOther types old new
no_other-more asks types old new within asked t none = let few = within t in asked t (omega (arith, none, few))

-- these are asked for, and then those
pub no_other-then : (first second : List MethodTy) (a b c : SeatView) → AsksNoOther first a b → AsksNoOther second b c → AsksNoOther (first ++ second) a c
no_other-then first second a b c x y t none =
    let n = times_type-append t first second in
    let early = x t (omega (arith, n, none)) in
    y t (omega (arith, n, none, early))

-- what had no slot has none after a call
no_slot-yet : (bucket : ℕ) (asks : List MethodTy) (gone came : List HoldView) (old new : SeatView) → Exchanges asks gone came old new →
    HasNoSlot bucket old → HasNoSlot bucket new
no_slot-yet bucket asks gone came old new x none = (none.0, no-slot-still bucket none.0 asks gone came old new none.1 x)

-- ---- answers

-- no type was asked for that is not in a longer list
pub types-more : {A : Type 0} (asks types : List MethodTy) (old new : Work) (r : Result A HandleError) → IsWithin asks types →
    AsksTypesOrThrows asks old new r → AsksTypesOrThrows types old new r
types-more asks types old new (Ok a) within asked = no_other-more asks types old.seat.now new.seat.now within asked
types-more asks types old new (Err NoMemory) within asked = no_other-more asks types old.seat.now new.seat.now within asked
types-more asks types old new (Err (FormsFull drawn)) within asked = no_other-more asks types old.seat.now new.seat.now within asked
types-more asks types old new (Err (TypesFull bucket)) within asked = (no_other-more asks types old.seat.now new.seat.now within asked.0, asked.1)
types-more asks types old new (Err (Refused e)) within asked = no_other-more asks types old.seat.now new.seat.now within asked

-- these are asked for, and then those by a call
pub types-then : {A : Type 0} (first second : List MethodTy) (old mid new : Work) (r : Result A HandleError) → AsksNoOther first old.seat.now mid.seat.now →
    AsksTypesOrThrows second mid new r → AsksTypesOrThrows (first ++ second) old new r
types-then first second old mid new (Ok a) x y = no_other-then first second old.seat.now mid.seat.now new.seat.now x y
types-then first second old mid new (Err NoMemory) x y = no_other-then first second old.seat.now mid.seat.now new.seat.now x y
types-then first second old mid new (Err (FormsFull drawn)) x y = no_other-then first second old.seat.now mid.seat.now new.seat.now x y
types-then first second old mid new (Err (TypesFull bucket)) x y = (no_other-then first second old.seat.now mid.seat.now new.seat.now x y.0, y.1)
types-then first second old mid new (Err (Refused e)) x y = no_other-then first second old.seat.now mid.seat.now new.seat.now x y

-- what was held is handed back after a call
pub types-back : {A : Type 0} (types : List MethodTy) (gone : List HoldView) (old new back : Work) (r : Result A HandleError) →
    Exchanges [] gone [] new.seat.now back.seat.now → AsksTypesOrThrows types old new r → AsksTypesOrThrows types old back r
types-back {A} types gone old new back r x asked = later r asked
  where
    still : AsksNoOther types old.seat.now new.seat.now → AsksNoOther types old.seat.now back.seat.now
    still before t none = let early = before t none in x.asked t (omega (arith, early))

    later : (r : Result A HandleError) → AsksTypesOrThrows types old new r → AsksTypesOrThrows types old back r
    later (Ok a) asked = still asked
    later (Err NoMemory) asked = still asked
    later (Err (FormsFull drawn)) asked = still asked
    later (Err (TypesFull bucket)) asked = (still asked.0, no_slot-yet bucket [] gone [] new.seat.now back.seat.now x asked.1)
    later (Err (Refused e)) asked = still asked

-- an error that is handed on
pub types-handed : (A : Type 0) {B : Type 0} (types : List MethodTy) (old new : Work) (error : HandleError) (r : Result B HandleError) →
    IsErrAnd r (λ x. x ≡ error) → AsksTypesOrThrows {A = A} types old new (Err error) → AsksTypesOrThrows types old new r
types-handed A types old new error (Ok b) is asked = absurd is
types-handed A {B} types old new error (Err x) is asked = subst (λ e. AsksTypesOrThrows {A = B} types old new (Err e)) (sym is) (other error asked)
  where
    other : (e : HandleError) → AsksTypesOrThrows {A = A} types old new (Err e) → AsksTypesOrThrows {A = B} types old new (Err e)
    other NoMemory asked = asked
    other (FormsFull drawn) asked = asked
    other (TypesFull bucket) asked = asked
    other (Refused e) asked = asked

-- a check that refuses
pub types-refused : {A : Type 0} (types : List MethodTy) (w : Work) (error : CheckError) (r : Result A HandleError) → IsErrAnd r (λ x. x ≡ of_check error) →
    AsksTypesOrThrows types w w r
types-refused types w error (Ok a) is = absurd is
types-refused {A} types w error (Err x) is = subst (λ e. AsksTypesOrThrows {A = A} types w w (Err e)) (sym is) (early error)
  where
    early : (e : CheckError) → AsksTypesOrThrows {A = A} types w w (Err (of_check e))
    early check.NoMemory = no_other-still types w.seat.now
    early (check.Refused e) = no_other-still types w.seat.now

-- a handle that a call makes by its rule
pub types-traded : (asks : List MethodTy) (gone : List HoldView) (old new : Work) (r : Result Handle HandleError) → TradesTypes asks gone old new r →
    AsksTypesOrThrows asks old new r
types-traded asks gone old new (Ok h) x = x.asked
types-traded asks gone old new (Err NoMemory) x = x.asked
types-traded asks gone old new (Err (FormsFull drawn)) x = x.asked
types-traded asks gone old new (Err (TypesFull bucket)) x = (x.0.asked, (x.1.0, x.1.2))
types-traded asks gone old new (Err (Refused e)) x = no_other-more [] asks old.seat.now new.seat.now (within-none asks) x.asked

-- a copy of a handle
pub types-copied : (types : List MethodTy) (came : List HoldView) (old new : Work) → Exchanges [] [] came old.seat.now new.seat.now →
    AsksNoOther types old.seat.now new.seat.now
types-copied types came old new x = no_other-more [] types old.seat.now new.seat.now (within-none types) x.asked

-- want of memory for one
pub types-uncopied : {A : Type 0} (types : List MethodTy) (old new : Work) (r : Result A HandleError) → IsErrAnd r (λ x. x ≡ NoMemory) →
    Exchanges [] [] [] old.seat.now new.seat.now → AsksTypesOrThrows types old new r
types-uncopied types old new (Ok a) is x = absurd is
types-uncopied {A} types old new (Err e) is x =
    subst (λ y. AsksTypesOrThrows {A = A} types old new (Err y)) (sym is) (types-copied types [] old new x)
