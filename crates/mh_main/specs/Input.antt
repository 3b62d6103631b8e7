-- The meaning of the command line and the files.
use Rattle.std.specs.Prelude.{◌≡◌, ℕ, ◌-◌, List, [], ◌∷◌, ◌++◌, codes, if◌then◌else◌, nat_lt, ◌≤◌, length, Option, None, Some, Result, Ok, Err}
use Rattle.std.specs.Fmt.{decimal}
use Rattle.mh_base.specs.declared.lines.LineFault.{LineFault}
use Rattle.mh_outside.specs.Contents.{Contents, unknown, absent, file}
use Rattle.mh_class_bytes.specs.Format.{Checked}
use Rattle.mh_class_pool.specs.declared.fault.ClassKind.{ClassKind}
use Rattle.mh_classfile.specs.Class.{Class}
use Rattle.mh_classfile.specs.File.{class_or_fault}
use Rattle.mh_leaf.specs.LeafTable.{LeafTable}
use Rattle.mh_leaves.specs.Manifest.{manifest, kind_word as manifest_word}
use Rattle.mh_handle.specs.Form.{most_forms}
use Rattle.mh_script.specs.declared.script.Script.{Script}
use Rattle.mh_script.specs.Kinds.{kind_word as script_word}
use Rattle.mh_script.specs.Scripts.{scripts}
use Rattle.mh_jobs.specs.declared.run_jobs.RunJobs.{RunJobs}
use Rattle.mh_jobs.specs.Given.{Given, nothing_known}
use Rattle.mh_jobs.specs.RunJobs.{jobs_of}
use Rattle.mh_plan.specs.Plan.{plan, kind_word as plan_word}
use Rattle.mh_report.specs.Prelinked.{draws_by, types_by}
use Rattle.mh_report.specs.Types.{FitBuckets}
use Rattle.mh_generated.specs.Files.{files_of}
use Rattle.mh_runtime.specs.Passes.{most_sites}
use Rattle.mh_main.specs.declared.program.Output.{Output}
use Rattle.mh_main.specs.declared.program.Output.TheVariants.{Report, Line}
use Rattle.mh_main.specs.declared.program.Program.{Program}
use Rattle.mh_main.specs.Kinds.{class_word}
use Rattle.mh_main.specs.Program.{given_of}
use Rattle.mh_words.specs.Words.{Named, Command, run, sites, generate, command_of}

-- what a command line and files are accepted as: a program to run, or classes whose call sites are listed
pub data Accepted : Type 0 where
  program : Program → Accepted
  listed : List Class → Accepted

-- The meaning of words and files. The words are refused, a file is refused with a line, or all files are accepted.
-- `missing`: the first file that stops the reading does not exist. `unseen`: contracts cannot see that file.
-- `unseen` is needed because contracts see files in memory, and no clause can say what a real file has in it. There the clauses claim nothing.
pub data Input : Type 0 where
  usage : Input
  refused : List ℕ → Input
  accepted : Accepted → Input
  missing : Input
  unseen : Input

-- the line for an input over its limit
abbrev pub too_long_line : List ℕ → List ℕ
too_long_line name = codes "refused " ++ name ++ codes " too long\n"

-- the line for an input with a faulty line, of a kind that has this word
abbrev pub fault_line : List ℕ → ℕ → List ℕ → List ℕ
fault_line name number word = codes "refused " ++ name ++ codes " line " ++ decimal number ++ codes " " ++ word ++ codes "\n"

-- the line for a class file that has a fault at a place, of a kind that has this word
abbrev pub place_line : List ℕ → ℕ → List ℕ → List ℕ
place_line name at word = codes "refused " ++ name ++ codes " at " ++ decimal at ++ codes " " ++ word ++ codes "\n"

-- continues with a file's bytes, if there are at most `limit`
abbrev pub within : List ℕ → ℕ → Contents → (List ℕ → Input) → Input
within name limit (file bytes) next = if nat_lt limit (length bytes) then refused (too_long_line name) else next bytes
within name limit unknown next = unseen
within name limit absent next = missing

-- continues with the meaning of a file, if it has no faulty line
abbrev pub meant : {T K : Type 0} → List ℕ → (K → List ℕ) → Result T (LineFault K) → (T → Input) → Input
meant name word (Ok value) next = next value
meant name word (Err fault) next = refused (fault_line name fault.line (word fault.kind))

-- the most bytes of a manifest, and of a file of scripts
abbrev pub leaves_limit : ℕ
leaves_limit = 262144

-- the most bytes of a plan
abbrev pub plan_limit : ℕ
plan_limit = 1048576

-- the most bytes of a class file
abbrev pub class_limit : ℕ
class_limit = 1048576

-- continues with a class, if the file has no fault
abbrev pub class_meant : List ℕ → Checked ClassKind Class → (Class → Input) → Input
class_meant name (Ok c) next = next c
class_meant name (Err fault) next = refused (place_line name fault.at (class_word fault.kind))

-- continues with the classes of files in order, if they have at most `room` call sites together
abbrev pub classes_input : ℕ → List (List ℕ) → (List ℕ → Contents) → (List Class → Input) → Input
classes_input room [] files next = next []
classes_input room (name ∷ names) files next =
    within name class_limit (files name) (λ bytes. class_meant name (class_or_fault room bytes) (λ c.
    classes_input (room - length c.sites) names files (λ classes. next (c ∷ classes))))

-- the program that a plan completes, given the rest of it, how many workers link its sites beforehand, and what is written at the end
abbrev pub plan_input : Output → ℕ → Given → List ℕ → (List ℕ → Contents) → Input
plan_input output workers given name files =
    within name plan_limit (files name) (λ bytes. meant name plan_word (plan bytes given.leaves given.jobs) (λ threads.
    accepted (program (record {
      leaves = given.leaves;
      scripts = given.scripts;
      jobs = given.jobs;
      constants = given.constants;
      plan = threads;
      workers = workers;
      output = output;
    }))))

-- what a run is given with these jobs
abbrev pub given_with : LeafTable → List Script → RunJobs → Given
given_with leaves scripts jobs =
    record { leaves = leaves; scripts = scripts; jobs = jobs.sites; constants = jobs.constants; values = nothing_known }

-- the program of the files with these names, taken in the order manifest, scripts, class files, plan
abbrev pub named_input : Output → Named → (List ℕ → Contents) → Input
named_input output names files =
    within names.leaves leaves_limit (files names.leaves) (λ leaves_bytes. meant names.leaves manifest_word (manifest leaves_bytes) (λ leaves.
    within names.scripts leaves_limit (files names.scripts) (λ scripts_bytes. meant names.scripts script_word (scripts scripts_bytes) (λ scripts.
    classes_input most_sites names.classes files (λ classes.
    plan_input output names.workers (given_with leaves scripts (jobs_of leaves scripts classes)) names.plan files)))))

-- these classes are accepted as ones to list
abbrev pub to_list : List Class → Input
to_list classes = accepted (listed classes)

-- the classes to list of these files, with at most `room` call sites together
abbrev pub listing_input : ℕ → List (List ℕ) → (List ℕ → Contents) → Input
listing_input room names files = classes_input room names files to_list

-- the names of the files that are made from a number
abbrev pub generated_names : Named
generated_names = record { leaves = codes "leaves"; scripts = codes "scripts"; plan = codes "plan"; classes = codes "class" ∷ []; workers = 0 }

-- the program of the files that are made from a number; one line is written at its end
unfoldable pub generated_input : ℕ → Input
generated_input number = named_input (Line number) generated_names (files_of number)

-- the meaning of a command over files
abbrev pub command_input : Command → (List ℕ → Contents) → Input
command_input (run names) files = named_input Report names files
command_input (sites names) files = listing_input most_sites names files
command_input (generate number) files = generated_input number

-- the same for words that may be refused
abbrev pub input_of : Option Command → (List ℕ → Contents) → Input
input_of None files = usage
input_of (Some command) files = command_input command files

-- the meaning of words over files
abbrev pub input : List (List ℕ) → (List ℕ → Contents) → Input
input words files = input_of (command_of words) files

-- If contracts can see the files up to the first that stops the reading, no file stops it, and P holds for what is accepted.
abbrev pub IfAccepted : Input → (Accepted → Type 0) → Type 0
IfAccepted usage P = ⊥
IfAccepted (refused line) P = ⊥
IfAccepted (accepted a) P = P a
IfAccepted missing P = ⊥
IfAccepted unseen P = Unit {0}

-- If contracts can see the files up to the first that stops the reading, that file is refused, and P holds for its line.
abbrev pub IfRefused : Input → (List ℕ → Type 0) → Type 0
IfRefused usage P = ⊥
IfRefused (refused line) P = P line
IfRefused (accepted a) P = ⊥
IfRefused missing P = ⊥
IfRefused unseen P = Unit {0}

-- a file is refused
abbrev pub IsRefused : Input → Type 0
IsRefused usage = ⊥
IsRefused (refused line) = Unit {0}
IsRefused (accepted a) = ⊥
IsRefused missing = ⊥
IsRefused unseen = ⊥

-- all files are accepted
abbrev pub AreAccepted : Input → Type 0
AreAccepted usage = ⊥
AreAccepted (refused line) = ⊥
AreAccepted (accepted a) = Unit {0}
AreAccepted missing = ⊥
AreAccepted unseen = ⊥

-- contracts can see that the first file that stops the reading does not exist
abbrev pub IsMissing : Input → Type 0
IsMissing usage = ⊥
IsMissing (refused line) = ⊥
IsMissing (accepted a) = ⊥
IsMissing missing = Unit {0}
IsMissing unseen = ⊥

-- these are classes to list, and P holds for them
abbrev pub AreListed : (List Class → Type 0) → Accepted → Type 0
AreListed P (program p) = ⊥
AreListed P (listed classes) = P classes

-- there are numbers for all forms that the threads of a program can draw, and slots for all types that it can need
abbrev pub ProgramFits : Program → Type 0
ProgramFits p = (draws_by (given_of p) p.workers p.plan ≤ most_forms) × FitBuckets (types_by (given_of p) p.workers p.plan)

-- the same of what is accepted; a listing needs none
abbrev pub NeedsFew : Accepted → Type 0
NeedsFew (program p) = ProgramFits p
NeedsFew (listed classes) = Unit {0}

-- if contracts see the inputs, these are accepted, and what they give fits into the tables of forms and of types
abbrev pub FitsTables : Input → Type 0
FitsTables i = IfAccepted i NeedsFew

-- if contracts see the file, and it is within its limit, it has this meaning
abbrev pub HasMeaning : {T K : Type 0} → ℕ → (List ℕ → Result T K) → Contents → T → Type 0
HasMeaning limit meaning (file bytes) value = (meaning bytes ≡ Ok value) × (length bytes ≤ limit)
HasMeaning limit meaning unknown value = Unit {0}
HasMeaning limit meaning absent value = ⊥
