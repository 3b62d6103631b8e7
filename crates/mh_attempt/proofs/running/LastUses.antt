-- What the last use of a register leaves, and tells.
use Rattle.std.proofs.Common.{◌≡◌, sym, subst, List, [], ◌++◌, append-nil, Result, Ok, Err, IfOk}
use Rattle.std.specs.Prelude.{IsErrAnd}
use Rattle.mh_values.specs.declared.types.MethodTy.{MethodTy}
use Rattle.mh_intern.specs.Exchanges.{Exchanges}
use Rattle.mh_intern.specs.Views.{HoldView}
use Rattle.mh_tree.specs.Tree.{Tree}
use Rattle.mh_handle.specs.declared.error.HandleError.{HandleError}
use Rattle.mh_handle.specs.declared.error.HandleError.TheVariants.{NoMemory, FormsFull, TypesFull, Refused}
use Rattle.mh_handle.specs.declared.handle.Handle.{Handle}
use Rattle.mh_handle.specs.declared.work.Work.{Work}
use Rattle.mh_handle.specs.Stands.{Stands}
use Rattle.mh_handle.specs.Works.{IsAccepted, TradesTypes}
use Rattle.mh_jobs.specs.Thrown.{OrThrown}
use Rattle.mh_attempt.specs.declared.registers.Registers.{Registers}
use Rattle.mh_attempt.specs.Lines.{MakesNode}
use Rattle.mh_attempt.specs.Registers.{AreHeldBy, holds_in}
use Rattle.mh_attempt.specs.Runs.{Replaces, ReplacesTypes}
use Rattle.mh_attempt.specs.Several.{Adds, AddsTypes}
use Rattle.mh_attempt.proofs.types.PairTypes.{pair-given, pair-gone}
use Rattle.mh_attempt.proofs.types.Replacing.{replaces-more, replaces-none, replaces-still, replaces-then}

-- ---- types

-- a handle is made, and registers hold what they held
pub made-replaces : (registers : Registers) (old new : Work) (r : Result Handle HandleError) → AreHeldBy old.seat.now registers → AddsTypes old new r →
    ReplacesTypes registers registers old new r
made-replaces registers old new (Ok h) kept adds =
    let holds = holds_in registers.assigned.items in
    replaces-more holds holds h.held old old new (replaces-none holds old kept) adds
made-replaces registers old new (Err error) kept adds =
    let holds = holds_in registers.assigned.items in
    replaces-still holds holds old old new (replaces-none holds old kept) adds

-- no handle is made
pub unmade-replaces : {E : Type 0} (before after : Registers) (old new : Work) (r : Result Handle E) (P : E → Type 0) → IsErrAnd r P →
    Replaces (holds_in before.assigned.items) (holds_in after.assigned.items) old new → ReplacesTypes before after old new r
unmade-replaces before after old new (Ok h) P is x = absurd is
unmade-replaces before after old new (Err e) P is x = x

-- nor does anything change
pub same-replaces : {E : Type 0} (registers : Registers) (w : Work) (r : Result Handle E) (P : E → Type 0) → IsErrAnd r P → AreHeldBy w.seat.now registers →
    ReplacesTypes registers registers w w r
same-replaces registers w r P is kept = unmade-replaces registers registers w w r P is (replaces-none (holds_in registers.assigned.items) w kept)

-- registers that have changed before
pub then-replaces : (before mid after : Registers) (old now new : Work) (r : Result Handle HandleError) →
    Replaces (holds_in before.assigned.items) (holds_in mid.assigned.items) old now → ReplacesTypes mid after now new r →
    ReplacesTypes before after old new r
then-replaces before mid after old now new (Ok h) x y =
    replaces-then (holds_in before.assigned.items) (holds_in mid.assigned.items) (holds_in after.assigned.items ++ h.held) old now new x y
then-replaces before mid after old now new (Err error) x y =
    replaces-then (holds_in before.assigned.items) (holds_in mid.assigned.items) (holds_in after.assigned.items) old now new x y

-- ---- what is told

-- a handle that is made stands for the tree that is used
pub used-node : (old new : Work) (node : OrThrown Tree) (t : Tree) (made : Result Handle HandleError) → node ≡ Ok t → IsAccepted made →
    IfOk made (λ h. Stands old.leaves.now h t) → MakesNode node old new made
used-node old new node t (Ok h) is accepted stands = (t, is, stands)
used-node old new node t (Err (FormsFull drawn)) is accepted stands = (t, is)
used-node old new node t (Err (TypesFull bucket)) is accepted stands = (t, is)
used-node old new node t (Err NoMemory) is accepted stands = tt
used-node old new node t (Err (Refused e)) is accepted stands = absurd accepted

-- ---- a handle that was taken out, and another that is joined to it

-- what is joined is given for the new handle
pub joined-replaces : (before after : Registers) (taken part : List HoldView) (asks : List MethodTy) (old mid new : Work) (r : Result Handle HandleError) →
    AreHeldBy old.seat.now before → Adds part old mid → Replaces (holds_in before.assigned.items) (holds_in after.assigned.items ++ taken) mid mid →
    TradesTypes asks (taken ++ part) mid new r → ReplacesTypes before after old new r
joined-replaces before after taken part asks old mid new r held adds took x = cases r x
  where
    gone : (asks : List MethodTy) → Exchanges asks (taken ++ part) [] mid.seat.now new.seat.now →
        Replaces (holds_in before.assigned.items) (holds_in after.assigned.items) old new
    gone asks y = pair-gone (holds_in before.assigned.items) (holds_in after.assigned.items) taken part old mid held adds took asks new y

    cases : (r : Result Handle HandleError) → TradesTypes asks (taken ++ part) mid new r → ReplacesTypes before after old new r
    cases (Ok h) y = pair-given (holds_in before.assigned.items) (holds_in after.assigned.items) taken part old mid held adds took asks h.held new y
    cases (Err NoMemory) y = gone asks y
    cases (Err (FormsFull drawn)) y = gone asks y
    cases (Err (TypesFull bucket)) y = gone asks y.0
    cases (Err (Refused e)) y = gone [] y

-- nothing was taken out, and the other is given back
pub untaken-replaces : (before after : Registers) (part : List HoldView) (old mid new : Work) → AreHeldBy old.seat.now before → Adds part old mid →
    Replaces (holds_in before.assigned.items) (holds_in after.assigned.items) mid mid → Exchanges [] part [] mid.seat.now new.seat.now →
    Replaces (holds_in before.assigned.items) (holds_in after.assigned.items) old new
untaken-replaces before after part old mid new held adds took x =
    pair-gone (holds_in before.assigned.items) (holds_in after.assigned.items) [] part old mid held adds
    (subst (λ l. Replaces (holds_in before.assigned.items) l mid mid) (sym (append-nil (holds_in after.assigned.items))) took) [] new x
