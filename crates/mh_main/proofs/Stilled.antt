-- Where neither an input of the command nor the sink failed, a stop is a refusal or want of memory.
use Rattle.std.proofs.Common.{◌≡◌, ◌≢◌, ◌<◌, refl, sym, subst, inl, inr, ℕ, suc, ◌-◌, List, [], ◌∷◌, length, Option, Some, arith}
use Rattle.std.specs.List.{Contains}
use Rattle.mh_outside.specs.Contents.{Contents}
use Rattle.mh_outside.specs.Causes.{IsStill, Rose}
use Rattle.mh_main.specs.declared.stop.Stop.{Stop}
use Rattle.mh_main.specs.declared.stop.Stop.TheVariants.{NoMemory, ReadFault, TooLong, Fault, Place}
use Rattle.mh_words.specs.Words.{Command, run, sites, generate}
use Rattle.mh_runtime.specs.Passes.{most_sites}
use Rattle.mh_main.specs.Input.{AreAccepted, IfRefused, Input, IsMissing, accepted, command_input, input_of, missing, refused, unseen, usage}
use Rattle.mh_main.specs.Status.{IsDoneOrWant, IsRefusedOrWant, IsUnreadOrWant, write_failed}
use Rattle.mh_main.specs.Stops.{InputsStill, IsInput, IsReachedInput, ReachesClass, Refuses, IsStopAmong, stop_status}

-- a count that did not rise
pub never-both : (before now : ℕ) → IsStill before now → Rose before now → ⊥
never-both before now still rose = absurd (omega arith)

-- a class file that was reached is one of those named
named-class : (room : ℕ) (names : List (List ℕ)) (files : List ℕ → Contents) (name : List ℕ) → ReachesClass room names files name → Contains names name
named-class room [] files name h = absurd h
named-class room (first ∷ names) files name (inl is) = let some : 0 < length (first ∷ names) = omega arith in (0, some, sym is)
named-class room (first ∷ names) files name (inr more) =
    let q = named-class (room - length more.0.sites) names files name more.2 in
    let low : q.0 < length names = q.1 in
    let later : suc q.0 < length (first ∷ names) = omega arith in
    (suc q.0, later, q.2)

-- an input that was reached is one of the command's
named-input : (command : Command) (files : List ℕ → Contents) (name : List ℕ) → IsReachedInput command files name → IsInput command name
named-input (sites names) files name h = named-class most_sites names files name h
named-input (generate number) files name h = absurd h
named-input (run names) files name (inl is) = inl is
named-input (run names) files name (inr (inl at)) = inr (inl at.1)
named-input (run names) files name (inr (inr (inl at))) = inr (inr (inl (named-class most_sites names.classes files name at.3)))
named-input (run names) files name (inr (inr (inr at))) = inr (inr (inr at.3))

-- no read of an input failed
unfailed : (command : Command) (files : List ℕ → Contents) (before now : List ℕ → ℕ) (at : List ℕ) →
    InputsStill (Some command) before now → IsReachedInput command files at → Rose (before at) (now at) → ⊥
unfailed command files before now at still reached rose = never-both (before at) (now at) (still at (named-input command files at reached)) rose

refused-status : (command : Command) (files : List ℕ → Contents) (before now : List ℕ → ℕ) (stop : Stop) →
    InputsStill (Some command) before now → IsStopAmong (IsReachedInput command files) before now stop → IsRefusedOrWant (stop_status stop)
refused-status command files before now NoMemory still stops = inr refl
refused-status command files before now (ReadFault at) still stops = absurd (unfailed command files before now at.now still stops.0 stops.1)
refused-status command files before now (TooLong at) still stops = inl refl
refused-status command files before now (Fault at line kind) still stops = inl refl
refused-status command files before now (Place at place kind) still stops = inl refl

never-refused : (i : Input) (P : List ℕ → Type 0) → AreAccepted i → IfRefused i P → ⊥
never-refused usage P so is = so
never-refused (refused line) P so is = so
never-refused (accepted a) P so is = is
never-refused missing P so is = is
never-refused unseen P so is = so

done-status : (command : Command) (files : List ℕ → Contents) (before now : List ℕ → ℕ) (i : Input) (stop : Stop) →
    InputsStill (Some command) before now → IsStopAmong (IsReachedInput command files) before now stop → Refuses i stop → AreAccepted i →
    IsDoneOrWant (stop_status stop)
done-status command files before now i NoMemory still stops refuses taken = inr refl
done-status command files before now i (ReadFault at) still stops refuses taken = absurd (unfailed command files before now at.now still stops.0 stops.1)
done-status command files before now i (TooLong at) still stops refuses taken = absurd (never-refused i _ taken refuses)
done-status command files before now i (Fault at line kind) still stops refuses taken = absurd (never-refused i _ taken refuses)
done-status command files before now i (Place at place kind) still stops refuses taken = absurd (never-refused i _ taken refuses)

-- the status of a stop, where the sink did not fail
spoken : (before now status due : ℕ) → IsStill before now → (status ≡ write_failed → Rose before now) → (status ≢ write_failed → status ≡ due) → status ≡ due
spoken before now status due still failed is = is (λ seven. never-both before now still (failed seven))

pub stop-refused :
    (o : Option Command) (command : Command) (files : List ℕ → Contents) (before now : List ℕ → ℕ) (stop : Stop) (old new status : ℕ) →
    Some command ≡ o →
    IsStopAmong (IsReachedInput command files) before now stop →
    (status ≡ write_failed → Rose old new) →
    (status ≢ write_failed → status ≡ stop_status stop) →
    InputsStill o before now →
    IsStill old new →
    IsRefusedOrWant status
stop-refused o command files before now stop old new status asked stops failed is still quiet =
    subst IsRefusedOrWant (sym (spoken old new status (stop_status stop) quiet failed is))
    (refused-status command files before now stop (subst (λ c. InputsStill c before now) (sym asked) still) stops)

pub stop-done :
    (o : Option Command) (command : Command) (files : List ℕ → Contents) (before now : List ℕ → ℕ) (stop : Stop) (old new status : ℕ) →
    Some command ≡ o →
    IsStopAmong (IsReachedInput command files) before now stop →
    Refuses (command_input command files) stop →
    (status ≡ write_failed → Rose old new) →
    (status ≢ write_failed → status ≡ stop_status stop) →
    AreAccepted (input_of o files) →
    InputsStill o before now →
    IsStill old new →
    IsDoneOrWant status
stop-done o command files before now stop old new status asked stops refuses failed is taken still quiet =
    subst IsDoneOrWant (sym (spoken old new status (stop_status stop) quiet failed is))
    (done-status command files before now (input_of o files) stop (subst (λ c. InputsStill c before now) (sym asked) still) stops
    (subst (λ c. Refuses (input_of c files) stop) asked refuses) taken)

-- ---- inputs that are absent

refused-there : (i : Input) (P : List ℕ → Type 0) → IfRefused i P → IsMissing i → ⊥
refused-there usage P is missing_is = is
refused-there (refused line) P is missing_is = missing_is
refused-there (accepted a) P is missing_is = is
refused-there missing P is missing_is = is
refused-there unseen P is missing_is = missing_is

missing-status : (i : Input) (stop : Stop) → Refuses i stop → IsMissing i → IsUnreadOrWant (stop_status stop)
missing-status i NoMemory refuses is = inr refl
missing-status i (ReadFault at) refuses is = inl refl
missing-status i (TooLong at) refuses is = absurd (refused-there i _ refuses is)
missing-status i (Fault at line kind) refuses is = absurd (refused-there i _ refuses is)
missing-status i (Place at place kind) refuses is = absurd (refused-there i _ refuses is)

pub stop-missing :
    (o : Option Command) (command : Command) (files : List ℕ → Contents) (stop : Stop) (old new status : ℕ) →
    Some command ≡ o →
    Refuses (command_input command files) stop →
    (status ≡ write_failed → Rose old new) →
    (status ≢ write_failed → status ≡ stop_status stop) →
    IsMissing (input_of o files) →
    IsStill old new →
    IsUnreadOrWant status
stop-missing o command files stop old new status asked refuses failed is missing_is quiet =
    subst IsUnreadOrWant (sym (spoken old new status (stop_status stop) quiet failed is))
    (missing-status (input_of o files) stop (subst (λ c. Refuses (input_of c files) stop) asked refuses) missing_is)
