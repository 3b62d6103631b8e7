-- The inputs of a run, read one after the other.
use Rattle.std.proofs.Common.{◌≡◌, refl, sym, subst, inl, inr, ℕ, List, Result}
use Rattle.mh_base.specs.declared.lines.LineFault.{LineFault}
use Rattle.mh_outside.specs.Causes.{AreSame}
use Rattle.mh_outside.specs.Contents.{Contents}
use Rattle.mh_leaf.specs.LeafTable.{LeafTable}
use Rattle.mh_leaves.specs.Manifest.{manifest, kind_word as manifest_word}
use Rattle.mh_script.specs.declared.script.Script.{Script}
use Rattle.mh_script.specs.Kinds.{kind_word as script_word}
use Rattle.mh_script.specs.Scripts.{scripts}
use Rattle.mh_jobs.specs.declared.run_jobs.RunJobs.{RunJobs}
use Rattle.mh_jobs.specs.Given.{AreJobs}
use Rattle.mh_jobs.specs.RunJobs.{jobs_of}
use Rattle.mh_jobs.proofs.OfClasses.{are_jobs}
use Rattle.mh_plan.specs.declared.call.Call.{Call}
use Rattle.mh_plan.specs.declared.kinds.PlanKind.{PlanKind}
use Rattle.mh_plan.specs.Plan.{plan, kind_word as plan_word}
use Rattle.mh_main.specs.declared.program.Output.{Output}
use Rattle.mh_main.specs.declared.program.Program.{Program}
use Rattle.mh_main.specs.declared.stop.Stop.{Stop}
use Rattle.mh_words.specs.Words.{Named}
use Rattle.mh_runtime.specs.Input.{AreConstantsOf}
use Rattle.mh_runtime.specs.Passes.{most_sites}
use Rattle.mh_runtime.proofs.constants.ClassConstants.{are-constants}
use Rattle.mh_main.specs.Input.{HasMeaning, IfAccepted, Input, leaves_limit, classes_input, given_with, named_input, plan_input, plan_limit, program, unseen}
use Rattle.mh_main.specs.Classes.{HasJobs}
use Rattle.mh_main.specs.Stops.{IsStopAmong, IsStopOf, ReachesClass, ReachesInput, Refuses, StopsClasses, StopsText, TextsMean}
use Rattle.mh_main.proofs.ReadOn.{classes-read, refuses-unseen, text-read, text-stopped}
use Rattle.mh_main.proofs.Reaching.{stops-at, stops-later}

-- what holds if the inputs are not seen, and if they go on after the manifest and the scripts, holds of all
texts-read : (Q : Input → Type 0) (output : Output) (names : Named) (files : List ℕ → Contents) (leaves : LeafTable) (all : List Script) → Q unseen →
    TextsMean names files leaves all →
    Q (classes_input most_sites names.classes files (λ classes.
    plan_input output names.workers (given_with leaves all (jobs_of leaves all classes)) names.plan files)) →
    Q (named_input output names files)
texts-read Q output names files leaves all free mean h =
    text-read Q leaves_limit names.leaves manifest_word manifest (files names.leaves) leaves _ free mean.0
    (text-read Q leaves_limit names.scripts script_word scripts (files names.scripts) all _ free mean.1 h)

-- likewise after the class files
given-read : (Q : Input → Type 0) (output : Output) (names : Named) (files : List ℕ → Contents) (leaves : LeafTable) (all : List Script) (jobs : RunJobs) →
    Q unseen →
    TextsMean names files leaves all → HasJobs leaves all names.classes files jobs →
    Q (plan_input output names.workers (given_with leaves all jobs) names.plan files) → Q (named_input output names files)
given-read Q output names files leaves all jobs free mean has h =
    texts-read Q output names files leaves all free mean
    (classes-read Q most_sites names.classes files has.0
    (λ classes. plan_input output names.workers (given_with leaves all (jobs_of leaves all classes)) names.plan files) free has.1
    (subst (λ (js : RunJobs). Q (plan_input output names.workers (given_with leaves all js) names.plan files)) has.2 h))

-- the scripts that were read after the manifest
pub texts-mean : (names : Named) (files files' : List ℕ → Contents) (leaves : LeafTable) (all : List Script) → ((n : List ℕ) → files' n ≡ files n) →
    HasMeaning leaves_limit manifest (files names.leaves) leaves → HasMeaning leaves_limit scripts (files' names.scripts) all →
    TextsMean names files leaves all
texts-mean names files files' leaves all contents one other = (one, subst (λ t. HasMeaning leaves_limit scripts t all) (contents names.scripts) other)

-- the jobs that were made after that
pub has-jobs : (names : List (List ℕ)) (files files' : List ℕ → Contents) (leaves : LeafTable) (all : List Script) (jobs : RunJobs) →
    ((n : List ℕ) → files' n ≡ files n) → HasJobs leaves all names files' jobs → HasJobs leaves all names files jobs
has-jobs names files files' leaves all jobs contents has =
    let e : files' ≡ files = λ i n. contents n i in subst (λ (f : List ℕ → Contents). HasJobs leaves all names f jobs) e has

-- ---- where all were read

-- the program of what was read
abbrev pub program_of : Output → ℕ → LeafTable → List Script → RunJobs → List (List Call) → Program
program_of output workers leaves all jobs threads = record {
  leaves = leaves;
  scripts = all;
  jobs = jobs.sites;
  constants = jobs.constants;
  plan = threads;
  workers = workers;
  output = output;
}

-- a program that was read is what the inputs say
pub program-read : (output : Output) (names : Named) (files files' : List ℕ → Contents) (leaves : LeafTable) (all : List Script) (jobs : RunJobs)
    (threads : List (List Call)) → ((n : List ℕ) → files' n ≡ files n) → TextsMean names files leaves all → HasJobs leaves all names.classes files jobs →
    HasMeaning plan_limit (λ bytes. plan bytes leaves jobs.sites) (files' names.plan) threads →
    IfAccepted (named_input output names files) (λ a. a ≡ program (program_of output names.workers leaves all jobs threads))
program-read output names files files' leaves all jobs threads contents mean has is =
    let P : Input → Type 0 = λ i. IfAccepted i (λ a. a ≡ program (program_of output names.workers leaves all jobs threads)) in
    given-read P output names files leaves all jobs tt mean has
    (text-read P plan_limit names.plan plan_word (λ bytes. plan bytes leaves jobs.sites) (files names.plan) threads _ tt
    (subst (λ t. HasMeaning plan_limit (λ bytes. plan bytes leaves jobs.sites) t threads) (contents names.plan) is) refl)

-- its jobs are those of call sites of classes
pub jobs-are : (leaves : LeafTable) (all : List Script) (names : List (List ℕ)) (files : List ℕ → Contents) (jobs : RunJobs) →
    HasJobs leaves all names files jobs → AreJobs (given_with leaves all jobs)
jobs-are leaves all names files jobs has =
    subst (λ (js : RunJobs). AreJobs (given_with leaves all js)) (sym has.2) (are_jobs leaves all has.0)

-- its dynamic constants can be resolved
pub constants-are : (leaves : LeafTable) (all : List Script) (names : List (List ℕ)) (files : List ℕ → Contents) (jobs : RunJobs) →
    HasJobs leaves all names files jobs → AreConstantsOf (given_with leaves all jobs)
constants-are leaves all names files jobs has = are-constants leaves all has.0 has.3 jobs has.2

-- ---- where a class file stops the reading

pub classes-among : (names : Named) (files files' : List ℕ → Contents) (before before' now : List ℕ → ℕ) (leaves : LeafTable) (all : List Script)
    (stop : Stop) → ((n : List ℕ) → files' n ≡ files n) → AreSame before before' → TextsMean names files leaves all →
    IsStopAmong (ReachesClass most_sites names.classes files') before' now stop → IsStopAmong (ReachesInput names files) before now stop
classes-among names files files' before before' now leaves all stop contents same mean stops =
    let e : files' ≡ files = λ i n. contents n i in
    stops-later (ReachesInput names files) (ReachesClass most_sites names.classes files) before before' now stop
    (λ name there. inr (inr (inl (leaves, all, mean, there)))) same
    (subst (λ (f : List ℕ → Contents). IsStopAmong (ReachesClass most_sites names.classes f) before' now stop) e stops)

pub classes-stop : (output : Output) (names : Named) (files files' : List ℕ → Contents) (leaves : LeafTable) (all : List Script) (stop : Stop) →
    ((n : List ℕ) → files' n ≡ files n) → TextsMean names files leaves all → StopsClasses most_sites names.classes files' stop →
    Refuses (named_input output names files) stop
classes-stop output names files files' leaves all stop contents mean stops =
    let e : files' ≡ files = λ i n. contents n i in
    texts-read (λ i. Refuses i stop) output names files leaves all (refuses-unseen stop) mean
    (subst (λ (f : List ℕ → Contents). StopsClasses most_sites names.classes f stop) e stops _)

-- ---- where the plan stops the reading

pub plan-among : (names : Named) (files : List ℕ → Contents) (before before' now : List ℕ → ℕ) (leaves : LeafTable) (all : List Script) (jobs : RunJobs)
    (stop : Stop) → AreSame before before' → TextsMean names files leaves all → HasJobs leaves all names.classes files jobs →
    IsStopOf names.plan before' now stop → IsStopAmong (ReachesInput names files) before now stop
plan-among names files before before' now leaves all jobs stop same mean has stops =
    stops-later (ReachesInput names files) (ReachesInput names files) before before' now stop (λ name there. there) same
    (stops-at (ReachesInput names files) names.plan before' now stop (inr (inr (inr (leaves, all, has.0, refl, mean, has.1)))) stops)

pub plan-stop : (output : Output) (names : Named) (files files' : List ℕ → Contents) (before now : List ℕ → ℕ) (leaves : LeafTable) (all : List Script)
    (jobs : RunJobs) (stop : Stop) → ((n : List ℕ) → files' n ≡ files n) → TextsMean names files leaves all → HasJobs leaves all names.classes files jobs →
    IsStopOf names.plan before now stop → StopsText plan_limit plan_word (λ bytes. plan bytes leaves jobs.sites) (files' names.plan) stop →
    Refuses (named_input output names files) stop
plan-stop output names files files' before now leaves all jobs stop contents mean has of stops =
    let Meaning : List ℕ → Result (List (List Call)) (LineFault PlanKind) = λ bytes. plan bytes leaves jobs.sites in
    given-read (λ i. Refuses i stop) output names files leaves all jobs (refuses-unseen stop) mean has
    (text-stopped plan_limit names.plan plan_word Meaning (files names.plan) _ before now stop of
    (subst (λ t. StopsText plan_limit plan_word Meaning t stop) (contents names.plan) stops))
