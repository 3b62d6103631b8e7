-- What is due where the reading stopped.
use Rattle.std.proofs.Common.{◌≡◌, ◌≢◌, refl, sym, subst, inl, inr, ℕ, List, Option, Some, arith}
use Rattle.mh_outside.specs.Causes.{AreSame}
use Rattle.mh_outside.specs.Contents.{Contents}
use Rattle.mh_classfile.specs.Class.{Class}
use Rattle.mh_listing.specs.Listing.{listing}
use Rattle.mh_main.specs.declared.answer.TopAnswer.{TopAnswer}
use Rattle.mh_main.specs.declared.stop.Stop.{Stop}
use Rattle.mh_main.specs.declared.stop.Stop.TheVariants.{NoMemory, ReadFault, TooLong, Fault, Place}
use Rattle.mh_main.specs.declared.program.Program.{Program}
use Rattle.mh_words.specs.Words.{Command, sites, command_of}
use Rattle.mh_runtime.specs.Passes.{most_sites}
use Rattle.mh_main.specs.Input.{Accepted, AreListed, IfAccepted, IfRefused, Input, accepted, command_input, fault_line, input_of, listed, listing_input, missing, place_line, program, refused, too_long_line, unseen, usage}
use Rattle.mh_main.specs.Status.{no_memory, refused as refusal, unread}
use Rattle.mh_main.specs.Stops.{Refuses, IsStopAmong, IsReachedInput, stop_line, stop_status, unread_line}
use Rattle.mh_main.specs.Due.{FailsToRead, IsDue, IsDueOf, IsEmptyAnswer, IsOutputOf, NeedsManyForms, NeedsManyTypes, RefusesInput}

-- a stop that comes with a refusal has the line of the input that is refused
pub refused-at-stop :
    (words : List (List ℕ)) (files : List ℕ → Contents) (before now : List ℕ → ℕ) (command : Command) (stop : Stop) →
    Some command ≡ command_of words →
    stop_status stop ≡ refusal →
    IsStopAmong (IsReachedInput command files) before now stop →
    Refuses (command_input command files) stop →
    RefusesInput words files before now (stop_line stop)
refused-at-stop words files before now command NoMemory asked is stops refuses = absurd (omega (arith, is))
refused-at-stop words files before now command (ReadFault at) asked is stops refuses = absurd (omega (arith, is))
refused-at-stop words files before now command (TooLong at) asked is stops refuses =
    let P : Option Command → Type 0 = λ o. IfRefused (input_of o files) (λ line. line ≡ too_long_line at.now) in
    (subst P asked refuses, stops)
refused-at-stop words files before now command (Fault at number kind) asked is stops refuses =
    let P : Option Command → Type 0 = λ o. IfRefused (input_of o files) (λ line. line ≡ fault_line at.now number kind.now) in
    (subst P asked refuses, stops)
refused-at-stop words files before now command (Place at place kind) asked is stops refuses =
    let P : Option Command → Type 0 = λ o. IfRefused (input_of o files) (λ line. line ≡ place_line at.now place kind.now) in
    (subst P asked refuses, stops)

-- a stop that comes with a read fault has the line of the input that could not be read
pub unread-at-stop :
    (words : List (List ℕ)) (files : List ℕ → Contents) (before now : List ℕ → ℕ) (command : Command) (stop : Stop) →
    Some command ≡ command_of words →
    stop_status stop ≡ unread →
    IsStopAmong (IsReachedInput command files) before now stop →
    FailsToRead (command_of words) files before now (stop_line stop)
unread-at-stop words files before now command NoMemory asked is stops = absurd (omega (arith, is))
unread-at-stop words files before now command (ReadFault at) asked is stops =
    let P : Option Command → Type 0 = λ o. FailsToRead o files before now (unread_line at.now) in
    subst P asked (at.now, stops.0, stops.1, refl)
unread-at-stop words files before now command (TooLong at) asked is stops = absurd (omega (arith, is))
unread-at-stop words files before now command (Fault at number kind) asked is stops = absurd (omega (arith, is))
unread-at-stop words files before now command (Place at place kind) asked is stops = absurd (omega (arith, is))

-- a stop that is no want of memory has a line that is due
pub due-at-stop :
    (words : List (List ℕ)) (files : List ℕ → Contents) (before now : List ℕ → ℕ) (answer : TopAnswer) (command : Command) (stop : Stop) →
    Some command ≡ command_of words →
    IsEmptyAnswer answer →
    stop_status stop ≢ no_memory →
    IsStopAmong (IsReachedInput command files) before now stop →
    Refuses (command_input command files) stop →
    IsDue words files before now answer (stop_line stop)
due-at-stop words files before now answer command NoMemory asked idle spoken stops refuses = absurd (spoken refl)
due-at-stop words files before now answer command (ReadFault at) asked idle spoken stops refuses =
    inr (idle, inr (inr (inl (unread-at-stop words files before now command (ReadFault at) asked refl stops))))
due-at-stop words files before now answer command (TooLong at) asked idle spoken stops refuses =
    inr (idle, inr (inl (refused-at-stop words files before now command (TooLong at) asked refl stops refuses)))
due-at-stop words files before now answer command (Fault at number kind) asked idle spoken stops refuses =
    inr (idle, inr (inl (refused-at-stop words files before now command (Fault at number kind) asked refl stops refuses)))
due-at-stop words files before now answer command (Place at place kind) asked idle spoken stops refuses =
    inr (idle, inr (inl (refused-at-stop words files before now command (Place at place kind) asked refl stops refuses)))

-- what holds of what is accepted holds where it is
taken : (i : Input) (a : Accepted) (P : Accepted → Type 0) → IfAccepted i (λ b. b ≡ a) → P a → IfAccepted i P
taken usage a P is holds = is
taken (refused line) a P is holds = is
taken (accepted b) a P is holds = subst P (sym is) holds
taken missing a P is holds = is
taken unseen a P is holds = tt

-- what is due of a program is due of the words and files that give it
pub due-of-program :
    (words : List (List ℕ)) (files : List ℕ → Contents) (before now : List ℕ → ℕ) (answer : TopAnswer) (command : Command) (p : Program) (bytes : List ℕ) →
    Some command ≡ command_of words →
    IfAccepted (command_input command files) (λ a. a ≡ program p) →
    AreSame before now →
    IsDueOf p answer bytes →
    IsDue words files before now answer bytes
due-of-program words files before now answer command p bytes asked is same (inl report) =
    inl (
      same,
      subst (λ o. IfAccepted (input_of o files) (λ a. IsOutputOf a answer bytes)) asked
          (taken (command_input command files) (program p) (λ a. IsOutputOf a answer bytes) is report),
    )
due-of-program words files before now answer command p bytes asked is same (inr (idle, inl full)) =
    let fills : IfAccepted (input_of (command_of words) files) NeedsManyForms =
    subst (λ o. IfAccepted (input_of o files) NeedsManyForms) asked
    (taken (command_input command files) (program p) NeedsManyForms is full.0) in
    inr (idle, inr (inr (inr (inl (same, (fills, full.1))))))
due-of-program words files before now answer command p bytes asked is same (inr (idle, inr types)) =
    let fills : IfAccepted (input_of (command_of words) files) NeedsManyTypes =
    subst (λ o. IfAccepted (input_of o files) NeedsManyTypes) asked (taken (command_input command files) (program p) NeedsManyTypes is types.0) in
    inr (idle, inr (inr (inr (inr (same, (fills, types.1))))))

-- what holds of a program holds of what is accepted of the words and files that give it
pub accepted-of :
    (words : List (List ℕ)) (files : List ℕ → Contents) (command : Command) (p : Program) (P : Accepted → Type 0) →
    Some command ≡ command_of words →
    IfAccepted (command_input command files) (λ a. a ≡ program p) →
    P (program p) →
    IfAccepted (input_of (command_of words) files) P
accepted-of words files command p P asked is holds =
    subst (λ o. IfAccepted (input_of o files) P) asked (taken (command_input command files) (program p) P is holds)

-- what holds of the classes of a listing holds of what is accepted
listed-as : (i : Input) (Q : List Class → Type 0) (P : Accepted → Type 0) → ((classes : List Class) → Q classes → P (listed classes)) →
    IfAccepted i (AreListed Q) → IfAccepted i P
listed-as usage Q P each is = is
listed-as (refused line) Q P each is = is
listed-as (accepted (program p)) Q P each is = absurd is
listed-as (accepted (listed classes)) Q P each is = each classes is
listed-as missing Q P each is = is
listed-as unseen Q P each is = tt

-- and of the words and files that give the classes
pub listed-of :
    (words : List (List ℕ)) (files : List ℕ → Contents) (names : List (List ℕ)) (Q : List Class → Type 0) (P : Accepted → Type 0) →
    ((classes : List Class) → Q classes → P (listed classes)) →
    Some (sites names) ≡ command_of words →
    IfAccepted (listing_input most_sites names files) (AreListed Q) →
    IfAccepted (input_of (command_of words) files) P
listed-of words files names Q P each asked is =
    subst (λ o. IfAccepted (input_of o files) P) asked (listed-as (listing_input most_sites names files) Q P each is)

-- a listing is due of the words and files that give its classes
pub due-of-listing :
    (words : List (List ℕ)) (files : List ℕ → Contents) (before now : List ℕ → ℕ) (answer : TopAnswer) (names : List (List ℕ)) (bytes : List ℕ) →
    Some (sites names) ≡ command_of words →
    IfAccepted (listing_input most_sites names files) (AreListed (λ classes. bytes ≡ listing classes)) →
    AreSame before now →
    IsEmptyAnswer answer →
    IsDue words files before now answer bytes
due-of-listing words files before now answer names bytes asked is same idle =
    inl (
      same,
      subst (λ o. IfAccepted (input_of o files) (λ a. IsOutputOf a answer bytes)) asked
          (listed-as (listing_input most_sites names files) (λ classes. bytes ≡ listing classes) (λ a. IsOutputOf a answer bytes)
          (λ classes same. (idle, same)) is),
    )
