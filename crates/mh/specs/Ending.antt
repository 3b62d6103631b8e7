-- What the program does on words, by the exit status that it ends with.
use Rattle.std.specs.Prelude.{◌≡◌, ◌≢◌, ◌⊎◌, ℕ, List, drop, map, string_bytes, None, Option}
use Rattle.std.specs.declared.string.String.{String}
use Rattle.std.specs.declared.alloc.Global.{Global}
use Rattle.std.specs.Io.KnownBytes.{Keeps}
use Rattle.mh_outside.specs.Causes.{AreSame, IsStill}
use Rattle.mh_outside.specs.Kept.{KeepsInputs}
use Rattle.mh_outside.specs.Contents.{Contents}
use Rattle.mh_words.specs.Words.{command_of}
use Rattle.mh_main.specs.declared.answer.TopAnswer.{TopAnswer}
use Rattle.mh_main.specs.Due.{FailsToRead, FillsForms, FillsTypes, IsDue, IsGenerated, RefusesInput, RefusesWords, Reports, Writes, WritesPart}
use Rattle.mh_main.specs.Input.{AreAccepted, FitsTables, IsMissing, IsRefused, input}
use Rattle.mh_main.specs.Reading.{ReadsInputs}
use Rattle.mh_main.specs.Status.{FailsWhere, IsDoneFullOrWant, IsDoneOrWant, IsRefusedOrWant, IsStatus, IsUnreadOrWant, IsUsageOrWant, done, forms_full, no_memory, refused, types_full, unread, usage_wanted, write_failed}
use Rattle.mh_main.specs.Stops.{InputsStill}

-- What is known of inputs and of a sink at one time. Of inputs: what contracts see of each file, how often its reads failed, how far it was read, and how many
-- files were begun. Of the sink: what it took, and how often a write failed.
pub record Outside : Type 0 where
  pub contents : List ℕ → Contents
  pub faults : List ℕ → ℕ
  pub reached : List ℕ → ℕ
  pub starts : ℕ
  pub taken : Option (List ℕ)
  pub write_faults : ℕ

-- these six together
abbrev pub outside : (List ℕ → Contents) → (List ℕ → ℕ) → (List ℕ → ℕ) → ℕ → Option (List ℕ) → ℕ → Outside
outside contents faults reached starts taken write_faults =
    record { contents = contents; faults = faults; reached = reached; starts = starts; taken = taken; write_faults = write_faults }

-- the report on what the words and the files give, with some table, attempts and answers of its calls
abbrev pub IsReport : List (List ℕ) → (List ℕ → Contents) → List ℕ → Type 0
IsReport words files bytes = (answer : TopAnswer) × Reports words files answer bytes

-- what is due at one of the statuses that write
abbrev pub IsDueText : List (List ℕ) → Outside → Outside → List ℕ → Type 0
IsDueText words old new bytes = (answer : TopAnswer) × IsDue words old.contents old.faults new.faults answer bytes

-- what was written, by the status: if a write failed, a front part of what was due
pub record WritesBy (status : ℕ) (words : List (List ℕ)) (old new : Outside) : Type 0 where
  pub report : status ≡ done → Writes (IsReport words old.contents) old.taken new.taken
  pub refusal : status ≡ refused → Writes (RefusesInput words old.contents old.faults new.faults) old.taken new.taken
  pub usage : status ≡ usage_wanted → Writes (RefusesWords words) old.taken new.taken
  pub nothing : status ≡ no_memory → Keeps old.taken new.taken
  pub full : status ≡ forms_full → Writes (FillsForms words old.contents) old.taken new.taken
  pub types : status ≡ types_full → Writes (FillsTypes words old.contents) old.taken new.taken
  pub unreadable : status ≡ unread → Writes (FailsToRead (command_of words) old.contents old.faults new.faults) old.taken new.taken
  pub broken : status ≡ write_failed → WritesPart (IsDueText words old new) old.taken new.taken

-- which status it is: if nothing failed, the words and the files decide it, except that memory may run out
pub record IsStatusOf (words : List (List ℕ)) (old new : Outside) (status : ℕ) : Type 0 where
  pub known : IsStatus status
  pub fails : FailsWhere status old.write_faults new.write_faults
  pub no_fault : status ≢ unread → status ≢ write_failed → AreSame old.faults new.faults
  pub usage_due : command_of words ≡ None → IsStill old.write_faults new.write_faults → IsUsageOrWant status
  pub refusal_wanted : IsRefused (input words old.contents) → InputsStill (command_of words) old.faults new.faults →
      IsStill old.write_faults new.write_faults → IsRefusedOrWant status
  pub complete : AreAccepted (input words old.contents) → FitsTables (input words old.contents) → InputsStill (command_of words) old.faults new.faults →
      IsStill old.write_faults new.write_faults → IsDoneOrWant status
  pub generated : IsGenerated (command_of words) → IsStill old.write_faults new.write_faults → IsDoneFullOrWant status
  pub unread_wanted : IsMissing (input words old.contents) → IsStill old.write_faults new.write_faults → IsUnreadOrWant status

-- what the program does on words if it ends with this status: what it writes, and what it leaves of the inputs
pub record EndsWith (status : ℕ) (words : List (List ℕ)) (old new : Outside) : Type 0 where
  pub writes : WritesBy status words old new
  pub is : IsStatusOf words old new status
  pub keeps : KeepsInputs old.contents new.contents old.faults new.faults
  pub reads : ReadsInputs (command_of words) old.reached new.reached old.starts new.starts

-- the words after the program's name, which is the first of those given
abbrev pub after_name : List (String Global) → List (List ℕ)
after_name words = map string_bytes (drop 1 words)

-- the program ends so on the words after its name, if this holds of the words that were given; or memory for the words ran out, and nothing was done
abbrev pub EndsOnGiven : ℕ → (List (String Global) → Type 0) → Outside → Outside → Type 0
EndsOnGiven status AreGiven old new =
    ((words : List (String Global)) × AreGiven words × EndsWith status (after_name words) old new) ⊎ ((status ≡ no_memory) × (new ≡ old))
