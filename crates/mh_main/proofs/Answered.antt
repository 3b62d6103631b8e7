-- What the program's clauses say where a program was run, and where the reading stopped.
use Rattle.std.proofs.Common.{◌≡◌, ◌≢◌, ◌∙◌, sym, ℕ, List, Option, Some, arith}
use Rattle.std.specs.Io.KnownBytes.{Appends}
use Rattle.mh_outside.specs.Causes.{AppendsPart, AreSame, IsStill, Rose}
use Rattle.mh_outside.specs.Contents.{Contents}
use Rattle.mh_words.specs.Words.{Command, command_of}
use Rattle.mh_main.specs.declared.answer.TopAnswer.{TopAnswer}
use Rattle.mh_main.specs.declared.program.Program.{Program}
use Rattle.mh_main.specs.declared.stop.Stop.{Stop}
use Rattle.mh_main.specs.Due.{AnswersCalls, AreAnswers, AreAnswersOf, FailsToRead, FillsForms, FillsTypes, IsDue, IsDueOf, IsFullOf, IsEmptyAnswer, IsOutputOf, IsOverfullOf, IsReportOf, NeedsManyForms, NeedsManyTypes, RefusesInput, Reports, Writes, WritesPart}
use Rattle.mh_main.specs.Input.{AreAccepted, FitsTables, IfAccepted, IsMissing, IsRefused, command_input, input, program}
use Rattle.mh_main.specs.Status.{IsDoneFullOrWant, IsDoneOrWant, IsRefusedOrWant, IsUnreadOrWant, done, forms_full, types_full, no_memory, refused, unread, write_failed}
use Rattle.mh_main.specs.Stops.{InputsStill, IsReachedInput, IsStopAmong, Refuses, stop_line, stop_status}
use Rattle.mh_main.proofs.Endings.{accepted-of, due-at-stop, due-of-program, refused-at-stop, unread-at-stop}
use Rattle.mh_main.proofs.Stilled.{never-both, stop-done, stop-missing, stop-refused}
use Rattle.mh_main.proofs.Taken.{run-done, taken-there, taken-unrefused}

-- where a program was run
pub record RunEnds (words : List (List ℕ)) (files : List ℕ → Contents) (before now : List ℕ → ℕ) (old new : Option (List ℕ)) (faults faults' : ℕ)
    (answer : TopAnswer) : Type 0 where
  pub headline : answer.status ≡ done → Writes (Reports words files answer) old new
  pub answers : answer.status ≡ done → AnswersCalls words files answer
  pub full : answer.status ≡ forms_full → Writes (FillsForms words files) old new
  pub types : answer.status ≡ types_full → Writes (FillsTypes words files) old new
  pub broken : answer.status ≡ write_failed → WritesPart (IsDue words files before now answer) old new
  pub refusal_wanted : IsRefused (input words files) → InputsStill (command_of words) before now → IsStill faults faults' → IsRefusedOrWant answer.status
  pub complete : AreAccepted (input words files) → FitsTables (input words files) → InputsStill (command_of words) before now → IsStill faults faults' →
      IsDoneOrWant answer.status
  pub unread_wanted : IsMissing (input words files) → IsStill faults faults' → IsUnreadOrWant answer.status

pub run-ends :
    (words : List (List ℕ)) (files : List ℕ → Contents) (before now : List ℕ → ℕ) (old new : Option (List ℕ)) (faults faults' : ℕ) (answer : TopAnswer)
    (command : Command) (p : Program) →
    Some command ≡ command_of words →
    IfAccepted (command_input command files) (λ a. a ≡ program p) →
    AreSame before now →
    (answer.status ≡ done → Writes (IsReportOf p answer) old new) →
    (answer.status ≡ done → AreAnswersOf p answer.table answer.constants answer.threads) →
    (answer.status ≡ forms_full → Writes (IsFullOf p) old new) →
    (answer.status ≡ types_full → Writes (IsOverfullOf p) old new) →
    (answer.status ≡ write_failed → WritesPart (IsDueOf p answer) old new) →
    (answer.status ≢ write_failed → IsDoneFullOrWant answer.status) →
    (answer.status ≡ write_failed → Rose faults faults') →
    RunEnds words files before now old new faults faults' answer
run-ends words files before now old new faults faults' answer command p asked is same report answers full types broken status failed = record {
  headline = λ d. let due = report d in (due.0, accepted-of words files command p (λ a. IsOutputOf a answer due.0) asked is due.1, due.2);
  answers = λ d. accepted-of words files command p (λ a. AreAnswers a answer) asked is (answers d);
  full = λ f. let due = full f in (due.0, (accepted-of words files command p NeedsManyForms asked is due.1.0, due.1.1), due.2);
  types = λ f. let due = types f in (due.0, (accepted-of words files command p NeedsManyTypes asked is due.1.0, due.1.1), due.2);
  broken = λ b. let due = broken b in (due.0, due-of-program words files before now answer command p due.0 asked is same due.1, due.2);
  refusal_wanted = λ wanted still quiet. absurd (taken-unrefused (command_of words) command files (λ a. a ≡ program p) asked is wanted);
  complete = λ taken fits still quiet.
      let spoken : answer.status ≢ write_failed = λ bad. never-both _ _ quiet (failed bad) in
      run-done (command_of words) command files p answer.status asked is taken fits (status spoken) (λ f. (full f).1.0) (λ f. (types f).1.0);
  unread_wanted = λ missing quiet. absurd (taken-there (command_of words) command files (λ a. a ≡ program p) asked is missing);
}

-- where the reading stopped
pub record StopEnds (words : List (List ℕ)) (files : List ℕ → Contents) (before now : List ℕ → ℕ) (old new : Option (List ℕ)) (faults faults' : ℕ)
    (answer : TopAnswer) : Type 0 where
  pub refusal : answer.status ≡ refused → Writes (RefusesInput words files before now) old new
  pub unreadable : answer.status ≡ unread → Writes (FailsToRead (command_of words) files before now) old new
  pub broken : answer.status ≡ write_failed → WritesPart (IsDue words files before now answer) old new
  pub refusal_wanted : IsRefused (input words files) → InputsStill (command_of words) before now → IsStill faults faults' → IsRefusedOrWant answer.status
  pub complete : AreAccepted (input words files) → FitsTables (input words files) → InputsStill (command_of words) before now → IsStill faults faults' →
      IsDoneOrWant answer.status
  pub unread_wanted : IsMissing (input words files) → IsStill faults faults' → IsUnreadOrWant answer.status

pub stop-ends :
    (words : List (List ℕ)) (files : List ℕ → Contents) (before now : List ℕ → ℕ) (old new : Option (List ℕ)) (faults faults' : ℕ) (answer : TopAnswer)
    (command : Command) (stop : Stop) →
    Some command ≡ command_of words →
    IsStopAmong (IsReachedInput command files) before now stop →
    Refuses (command_input command files) stop →
    IsEmptyAnswer answer →
    (answer.status ≢ write_failed → answer.status ≡ stop_status stop) →
    (answer.status ≢ write_failed → stop_status stop ≢ no_memory → Appends old new (stop_line stop)) →
    (answer.status ≡ write_failed → AppendsPart old new (stop_line stop)) →
    (answer.status ≡ write_failed → stop_status stop ≢ no_memory) →
    (answer.status ≡ write_failed → Rose faults faults') →
    StopEnds words files before now old new faults faults' answer
stop-ends words files before now old new faults faults' answer command stop asked stops refuses idle status written broken spoken failed = record {
  refusal = λ is.
      let ok : answer.status ≢ write_failed = λ bad. omega (arith, is, bad) in
      let due : stop_status stop ≡ refused = sym (status ok) ∙ is in
      let some : stop_status stop ≢ no_memory = λ bad. omega (arith, due, bad) in
      (stop_line stop, refused-at-stop words files before now command stop asked due stops refuses, written ok some);
  unreadable = λ is.
      let ok : answer.status ≢ write_failed = λ bad. omega (arith, is, bad) in
      let due : stop_status stop ≡ unread = sym (status ok) ∙ is in
      let some : stop_status stop ≢ no_memory = λ bad. omega (arith, due, bad) in
      (stop_line stop, unread-at-stop words files before now command stop asked due stops, written ok some);
  broken = λ f. (stop_line stop, due-at-stop words files before now answer command stop asked idle (spoken f) stops refuses, broken f);
  refusal_wanted = λ wanted still quiet.
      stop-refused (command_of words) command files before now stop faults faults' answer.status asked stops failed status still quiet;
  complete = λ taken fits still quiet.
      stop-done (command_of words) command files before now stop faults faults' answer.status asked stops refuses failed status taken still quiet;
  unread_wanted = λ missing quiet.
      stop-missing (command_of words) command files stop faults faults' answer.status asked refuses failed status missing quiet;
}
