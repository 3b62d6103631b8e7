-- Handles of several operands: of the first, and then of the others.
use Rattle.std.proofs.Common.{◌≡◌, refl, sym, subst, ℕ, List, [], ◌∷◌, ◌++◌, length, Result, Ok, Err, arith}
use Rattle.std.specs.Prelude.{IsErrAnd}
use Rattle.mh_edit.specs.declared.key.Key.{Key}
use Rattle.mh_values.specs.declared.types.MethodTy.{MethodTy}
use Rattle.mh_intern.specs.Exchanges.{Exchanges}
use Rattle.mh_intern.specs.Views.{HoldView}
use Rattle.mh_intern.proofs.Exchanging.{exchanges-still}
use Rattle.mh_leaf.specs.LeafTable.{LeafTable}
use Rattle.mh_tree.specs.Tree.{Cases, Tree}
use Rattle.mh_tree.specs.Tree as tree
use Rattle.mh_handle.specs.declared.error.HandleError.{HandleError}
use Rattle.mh_handle.specs.declared.error.HandleError.TheVariants.{NoMemory}
use Rattle.mh_handle.specs.declared.handle.Handle.{Handle}
use Rattle.mh_handle.specs.declared.work.Work.{Work}
use Rattle.mh_handle.specs.Stands.{HandleView, Stands}
use Rattle.mh_handle.specs.Works.{IsUnchanged}
use Rattle.mh_more.specs.Several.{StandForCases, holds_of}
use Rattle.mh_attempt.specs.declared.handle.HandleOperand.{HandleOperand}
use Rattle.mh_attempt.specs.Asked.{AsksIfMade, HasStopped}
use Rattle.mh_attempt.specs.AskedTypes.{AsksNoOther, AsksTypesOrThrows}
use Rattle.mh_attempt.specs.Cases.{StandForEach}
use Rattle.mh_attempt.specs.Nodes.{AreAllOperands}
use Rattle.mh_attempt.specs.Registers.{StandsFor, StandsForSome}
use Rattle.mh_attempt.specs.Several.{Adds, AddsAll, GoesOnOnce}
use Rattle.mh_attempt.proofs.types.Adding.{adds-both, operand-yet}
use Rattle.mh_attempt.proofs.asked.Once.{once-back}

-- ---- operands

-- handles can be made of them still, once one was made
pub operands-yet : (os : List HandleOperand) (came : List HoldView) (old new : Work) → new.leaves ≡ old.leaves → Adds came old new →
    AreAllOperands old.leaves.now old.seat.now os → AreAllOperands new.leaves.now new.seat.now os
operands-yet [] came old new same adds all = tt
operands-yet (o ∷ os) came old new same adds all = (
  record {
    stands = subst (λ l. StandsForSome l.now o) (sym same) all.0.stands;
    held = operand-yet o came old new adds all.0.held;
  },
  operands-yet os came old new same adds all.1,
)

-- a list without items
pub no-items : {A : Type 0} (xs : List A) → length xs ≡ 0 → xs ≡ []
no-items [] none = refl
no-items (x ∷ xs) none = absurd (omega (arith, none))

-- no handle stands for no case
pub none-stand : (leaves : LeafTable) (hs : List HandleView) (ts : Cases) → hs ≡ [] → StandForEach leaves [] ts → StandForCases leaves hs ts
none-stand leaves hs tree.no_cases none stand = subst (λ l. StandForCases leaves l tree.no_cases) (sym none) tt
none-stand leaves hs (tree.one_case t ts) none stand = absurd stand

-- the first handle and the others stand for the cases
pub more-stand : (leaves : LeafTable) (o : HandleOperand) (os : List HandleOperand) (h : HandleView) (hs all : List HandleView) (ts : Cases) → all ≡ h ∷ hs →
    ((t : Tree) → StandsFor leaves o t → Stands leaves h t) → ((cs : Cases) → StandForEach leaves os cs → StandForCases leaves hs cs) →
    StandForEach leaves (o ∷ os) ts → StandForCases leaves all ts
more-stand leaves o os h hs all (tree.one_case t ts) is first others stand =
    subst (λ l. StandForCases leaves l (tree.one_case t ts)) (sym is) (first t stand.0, others ts stand.1)
more-stand leaves o os h hs all tree.no_cases is first others stand = absurd stand

-- ---- a list of the handles

-- it was made
pub once-still : (key : List Key) (k : ℕ) (a b c : Work) → GoesOnOnce key k a b → IsUnchanged b c → c.seat.now ≡ b.seat.now → GoesOnOnce key k a c
once-still key k a b c x back same =
    once-back key k [] a b c x back (subst (λ s. Exchanges [] [] [] b.seat.now s) (sym same) (exchanges-still b.seat.now))

pub adds-still : (came : List HoldView) (old mid new : Work) → Adds came old mid → new.seat.now ≡ mid.seat.now → Adds came old new
adds-still came old mid new x same = (x.0, subst (λ s. Exchanges x.0 [] came old.seat.now s) (sym same) x.1)

pub adds-listed : (h : HandleView) (hs all : List HandleView) (old mid late new : Work) → all ≡ h ∷ hs → Adds h.held old mid → Adds (holds_of hs) mid late →
    new.seat.now ≡ late.seat.now → Adds (holds_of all) old new
adds-listed h hs all old mid late new is x y same =
    subst (λ l. Adds (holds_of l) old new) (sym is)
    (adds-still (h.held ++ holds_of hs) old late new (adds-both h.held (holds_of hs) old mid late x y) same)

-- none was made
pub adds-no_handles : (hs : List HandleView) (w : Work) → hs ≡ [] → Adds (holds_of hs) w w
adds-no_handles hs w none = subst (λ l. Adds (holds_of l) w w) (sym none) ([], exchanges-still w.seat.now)

-- memory ran out
pub all-unmade : (old new : Work) (r : Result (List Handle) HandleError) (P : HandleError → Type 0) → IsErrAnd r P → Adds [] old new → AddsAll old new r
all-unmade old new (Ok hs) P is adds = absurd is
all-unmade old new (Err e) P is adds = adds

pub asks-short : {A : Type 0} (recipes : List (List Key)) (old new : Work) (r : Result A HandleError) → IsErrAnd r (λ x. x ≡ NoMemory) →
    AsksIfMade recipes old new r
asks-short recipes old new (Ok a) is = absurd is
asks-short recipes old new (Err e) is = subst (HasStopped recipes old.pass.now new.pass.now) (sym is) tt

pub types-short : {A : Type 0} (types : List MethodTy) (old new : Work) (r : Result A HandleError) → IsErrAnd r (λ x. x ≡ NoMemory) →
    AsksNoOther types old.seat.now new.seat.now → AsksTypesOrThrows types old new r
types-short types old new (Ok a) is asked = absurd is
types-short {A} types old new (Err e) is asked = subst (λ y. AsksTypesOrThrows {A = A} types old new (Err y)) (sym is) asked
