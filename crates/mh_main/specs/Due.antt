-- What a run has to write, and why.
use Rattle.std.specs.Prelude.{◌≡◌, ◌⊎◌, ℕ, ◌<◌, List, [], codes, length, Option, None, Some}
use Rattle.std.specs.Io.KnownBytes.{Appends}
use Rattle.mh_outside.specs.Causes.{Rose, AreSame, AppendsPart}
use Rattle.mh_outside.specs.Contents.{Contents}
use Rattle.mh_classfile.specs.Class.{Class}
use Rattle.mh_listing.specs.Listing.{listing}
use Rattle.mh_handle.specs.declared.answer.Answer.{Answer}
use Rattle.mh_handle.specs.Form.{most_forms}
use Rattle.mh_report.specs.Prelinked.{draws_by, types_by}
use Rattle.mh_report.specs.Results.{Serials, results_of, results_said, keys_said}
use Rattle.mh_report.specs.Types.{OverfillBucket}
use Rattle.mh_runtime.specs.Keys.{plan_keys}
use Rattle.mh_runtime.specs.Report.{ConstLedgerBy, LedgerBy}
use Rattle.mh_main.specs.declared.answer.TopAnswer.{TopAnswer}
use Rattle.mh_main.specs.declared.program.Program.{Program}
use Rattle.mh_words.specs.Words.{Command, command_of, sites, generate}
use Rattle.mh_main.specs.Program.{given_by, given_of, text}
use Rattle.mh_main.specs.Input.{Accepted, program, listed, input, IfAccepted, IfRefused}
use Rattle.mh_main.specs.Stops.{IsReachedInput, unread_line}

-- the line for refused words
abbrev pub usage_line : List ℕ
usage_line = codes "usage: mh --mode run --leaves F --scripts F --plan F [--prelink N] [CLASS]... or --mode sites [CLASS]... or --mode gen --number N\n"

-- the line for a program whose threads can draw more numbers of forms than there are
abbrev pub forms_line : List ℕ
forms_line = codes "forms full\n"

-- the line for a program with more types of a bucket than it has slots
abbrev pub types_line : List ℕ
types_line = codes "types full\n"

-- the command lists class files
abbrev pub IsListing : Option Command → Type 0
IsListing (Some (sites names)) = Unit {0}
IsListing _ = ⊥

-- the command runs the input that is made from a number
abbrev pub IsGenerated : Option Command → Type 0
IsGenerated (Some (generate number)) = Unit {0}
IsGenerated _ = ⊥

-- no tables, no attempts and no answers
abbrev pub IsEmptyAnswer : TopAnswer → Type 0
IsEmptyAnswer answer =
    (answer.table ≡ []) × (answer.attempts ≡ []) × (answer.threads ≡ []) × (answer.constants ≡ []) × (answer.constant_attempts ≡ [])

-- the answers of a program's calls under a table of its sites and one of its constants: the result of each, and how many keys the form has that it ran
abbrev pub AreAnswersOf : Program → Serials → Serials → List (List Answer) → Type 0
AreAnswersOf p table constants threads =
    (results_said threads ≡ results_of (given_by p constants) table p.plan) × (keys_said threads ≡ plan_keys (given_by p constants) table p.plan)

-- The report on a program. The answer's tables and attempts are ledgers of the program, and its answers are those of the calls under the tables. The bytes are
-- the text of all this.
abbrev pub IsReportOf : Program → TopAnswer → List ℕ → Type 0
IsReportOf p answer bytes =
    LedgerBy p.workers p.plan (length p.jobs) answer.table answer.attempts
    × ConstLedgerBy (given_of p) p.workers p.plan answer.attempts answer.constants answer.constant_attempts
    × AreAnswersOf p answer.table answer.constants answer.threads
    × (bytes ≡ text p answer.table answer.constants answer.attempts)

-- the listing of classes, with no table, no attempts and no answers
abbrev pub IsListingOf : List Class → TopAnswer → List ℕ → Type 0
IsListingOf classes answer bytes = IsEmptyAnswer answer × (bytes ≡ listing classes)

-- the report on a program, or the listing of classes
abbrev pub IsOutputOf : Accepted → TopAnswer → List ℕ → Type 0
IsOutputOf (program p) answer bytes = IsReportOf p answer bytes
IsOutputOf (listed classes) answer bytes = IsListingOf classes answer bytes

-- the report on the program, or the listing of the classes, that the words and the files give
abbrev pub Reports : List (List ℕ) → (List ℕ → Contents) → TopAnswer → List ℕ → Type 0
Reports words files answer bytes = IfAccepted (input words files) (λ a. IsOutputOf a answer bytes)

-- the line of a program whose threads can draw more numbers of forms than there are
abbrev pub IsFullOf : Program → List ℕ → Type 0
IsFullOf p bytes = (most_forms < draws_by (given_of p) p.workers p.plan) × (bytes ≡ forms_line)

-- the line of a program that can need more types of a bucket than it has slots
abbrev pub IsOverfullOf : Program → List ℕ → Type 0
IsOverfullOf p bytes = OverfillBucket (types_by (given_of p) p.workers p.plan) × (bytes ≡ types_line)

-- What is due of a program: its report. Or its threads can draw too many form numbers, or it can need too many types of a bucket; then there are no answers.
abbrev pub IsDueOf : Program → TopAnswer → List ℕ → Type 0
IsDueOf p answer bytes = IsReportOf p answer bytes ⊎ (IsEmptyAnswer answer × (IsFullOf p bytes ⊎ IsOverfullOf p bytes))

-- the answers of a program's calls; classes are not run
abbrev pub AreAnswers : Accepted → TopAnswer → Type 0
AreAnswers (program p) answer = AreAnswersOf p answer.table answer.constants answer.threads
AreAnswers (listed classes) answer = answer.threads ≡ []

-- the answers of the calls of the program that the words and the files give
abbrev pub AnswersCalls : List (List ℕ) → (List ℕ → Contents) → TopAnswer → Type 0
AnswersCalls words files answer = IfAccepted (input words files) (λ a. AreAnswers a answer)

-- the threads of the program can draw more numbers of forms than there are; a listing draws none
abbrev pub NeedsManyForms : Accepted → Type 0
NeedsManyForms (program p) = most_forms < draws_by (given_of p) p.workers p.plan
NeedsManyForms (listed classes) = ⊥

-- the line of a program that the words and the files give and whose threads can draw more numbers of forms than there are
abbrev pub FillsForms : List (List ℕ) → (List ℕ → Contents) → List ℕ → Type 0
FillsForms words files bytes = IfAccepted (input words files) NeedsManyForms × (bytes ≡ forms_line)

-- the program can need more types of a bucket than it has slots; a listing needs none
abbrev pub NeedsManyTypes : Accepted → Type 0
NeedsManyTypes (program p) = OverfillBucket (types_by (given_of p) p.workers p.plan)
NeedsManyTypes (listed classes) = ⊥

-- the line of a program that the words and the files give and that can need more types of a bucket than it has slots
abbrev pub FillsTypes : List (List ℕ) → (List ℕ → Contents) → List ℕ → Type 0
FillsTypes words files bytes = IfAccepted (input words files) NeedsManyTypes × (bytes ≡ types_line)

-- the line of the first input that is refused, if no read failed
abbrev pub RefusesInput : List (List ℕ) → (List ℕ → Contents) → (List ℕ → ℕ) → (List ℕ → ℕ) → List ℕ → Type 0
RefusesInput words files before now bytes = IfRefused (input words files) (λ line. line ≡ bytes) × AreSame before now

-- the usage line, if the words are refused
abbrev pub RefusesWords : List (List ℕ) → List ℕ → Type 0
RefusesWords words bytes = (command_of words ≡ None) × (bytes ≡ usage_line)

-- the line for an input of the command that was reached and whose count of faults rose
abbrev pub FailsToRead : Option Command → (List ℕ → Contents) → (List ℕ → ℕ) → (List ℕ → ℕ) → List ℕ → Type 0
FailsToRead None files before now bytes = ⊥
FailsToRead (Some command) files before now bytes =
    (name : List ℕ) × IsReachedInput command files name × Rose (before name) (now name) × (bytes ≡ unread_line name)

-- bytes that are due for this reason were added
abbrev pub Writes : (List ℕ → Type 0) → Option (List ℕ) → Option (List ℕ) → Type 0
Writes IsDue old new = (bytes : List ℕ) × IsDue bytes × Appends old new bytes

-- a front part of bytes that are due for this reason was added
abbrev pub WritesPart : (List ℕ → Type 0) → Option (List ℕ) → Option (List ℕ) → Type 0
WritesPart IsDue old new = (bytes : List ℕ) × IsDue bytes × AppendsPart old new bytes

-- what is due at one of the statuses that write: no read failed, except if the text reports a failed read
abbrev pub IsDue : List (List ℕ) → (List ℕ → Contents) → (List ℕ → ℕ) → (List ℕ → ℕ) → TopAnswer → List ℕ → Type 0
IsDue words files before now answer bytes =
    (AreSame before now × Reports words files answer bytes)
    ⊎ (IsEmptyAnswer answer × ((AreSame before now × RefusesWords words bytes)
    ⊎ RefusesInput words files before now bytes
    ⊎ FailsToRead (command_of words) files before now bytes
    ⊎ (AreSame before now × FillsForms words files bytes)
    ⊎ (AreSame before now × FillsTypes words files bytes)))
