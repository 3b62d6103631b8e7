-- Runs of scripts: what is left once what the registers hold is given back.
use Rattle.std.proofs.Common.{◌≡◌, ap, subst, List, [], ◌++◌, Result, Ok, Err, arith}
use Rattle.mh_intern.specs.Exchanges.{Exchanges}
use Rattle.mh_intern.specs.Views.{HoldView}
use Rattle.mh_intern.proofs.HeldLists.{held-first}
use Rattle.mh_handle.specs.declared.error.HandleError.{HandleError}
use Rattle.mh_handle.specs.declared.handle.Handle.{Handle}
use Rattle.mh_handle.specs.declared.work.Work.{Work}
use Rattle.mh_handle.specs.Works.{GoesOn, IsUnchanged}
use Rattle.mh_handle.proofs.obeying.Going.{goes_on-before, goes_on-more, seated-back}
use Rattle.mh_script.specs.declared.script.Script.{Script}
use Rattle.mh_script.specs.declared.script.Step.{Step}
use Rattle.mh_script.specs.Limits.{CanRun}
use Rattle.mh_attempt.specs.declared.registers.Registers.{Registers}
use Rattle.mh_attempt.specs.Registers.{AreHeldBy, holds_in}
use Rattle.mh_attempt.specs.Runs.{ReplacesTypes, Replaces, draws}
use Rattle.mh_attempt.specs.Several.{AddsTypes}
use Rattle.mh_attempt.proofs.types.Replacing.{replaces-back, replaces-held, replaces-then}
use Rattle.mh_attempt.specs.Asked.{attempt_draws}

-- registers that held nothing before
from-none : (before : Registers) (came : List HoldView) (old new : Work) → before.assigned.items ≡ [] → Replaces (holds_in before.assigned.items) came old new →
    Replaces [] came old new
from-none before came old new none x = subst (λ l. Replaces (holds_in l) came old new) none x

-- what they hold then, the seat holds for them
pub called-kept : (before after : Registers) (old new : Work) (r : Result Handle HandleError) → AreHeldBy old.seat.now before →
    ReplacesTypes before after old new r → AreHeldBy new.seat.now after
called-kept before after old new (Ok h) kept x =
    held-first new.seat.now (holds_in after.assigned.items) h.held
    (replaces-held (holds_in before.assigned.items) (holds_in after.assigned.items ++ h.held) old new kept x)
called-kept before after old new (Err error) kept x = replaces-held (holds_in before.assigned.items) (holds_in after.assigned.items) old new kept x

-- once that is given back, only the target's types are held more
pub called-adds : (before after : Registers) (old mid new : Work) (r : Result Handle HandleError) → before.assigned.items ≡ [] → AreHeldBy old.seat.now before →
    ReplacesTypes before after old mid r → Exchanges [] (holds_in after.assigned.items) [] mid.seat.now new.seat.now → AddsTypes old new r
called-adds before after old mid new (Ok h) none kept x back =
    from-none before h.held old new none
    (replaces-back (holds_in before.assigned.items) (holds_in after.assigned.items) h.held old mid new kept x back)
called-adds before after old mid new (Err error) none kept x back =
    from-none before [] old new none
    (replaces-then (holds_in before.assigned.items) (holds_in after.assigned.items) [] old mid new x ([], back))

pub called-goes_on : (script : Script) (steps : List Step) (registers : Registers) (old mid new : Work) → steps ≡ script.steps → CanRun script →
    GoesOn (draws steps) old mid → IsUnchanged mid new → Exchanges [] (holds_in registers.assigned.items) [] mid.seat.now new.seat.now →
    GoesOn attempt_draws old new
called-goes_on script steps registers old mid new is runs goes unchanged back =
    let few = runs.few in
    let same : draws steps ≡ draws script.steps = ap draws is in
    goes_on-more (draws steps) attempt_draws old new (omega (arith, few, same))
    (goes_on-before (draws steps) old mid new goes unchanged (seated-back [] (holds_in registers.assigned.items) mid new back))
