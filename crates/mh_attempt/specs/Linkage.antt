-- What an attempt records at a call site, and what calls of the site answer.
use Rattle.std.specs.Prelude.{◌≡◌, ℕ, List, [], map, length, Some, slice_get, Result, Ok, Err}
use Rattle.mh_values.specs.declared.types.MethodTy.{MethodTy}
use Rattle.mh_intern.specs.Exchanges.{entries_of}
use Rattle.mh_intern.specs.Held.{on_type, times_type}
use Rattle.mh_intern.specs.Views.{HoldView}
use Rattle.mh_leaf.specs.LeafTable.{LeafTable}
use Rattle.mh_edit.specs.declared.key.Key.{Key}
use Rattle.mh_handle.specs.declared.work.Work.{Work}
use Rattle.mh_handle.specs.Recipe.{recipe}
use Rattle.mh_handle.specs.Stands.{Stands}
use Rattle.mh_jobs.specs.declared.job.BootstrapCall.{BootstrapCall}
use Rattle.mh_jobs.specs.declared.job.Job.{Job}
use Rattle.mh_script.specs.declared.script.Script.{Script}
use Rattle.mh_jobs.specs.Given.{Given, IsJob, under}
use Rattle.mh_link.specs.Asking.{asked_at}
use Rattle.mh_link.specs.Resolved.{call_under}
use Rattle.mh_condy.specs.Recorded.{FindingView, constants_of, found_of}
use Rattle.mh_link.specs.Linked as meant
use Rattle.mh_link.specs.Linked.{Target, Error, held_by, linked}
use Rattle.mh_link.specs.Sites.{linked_at}
use Rattle.mh_attempt.specs.Recipes.{call_asked}
use Rattle.mh_attempt.specs.Several.{Adds}
use Rattle.mh_attempt.specs.declared.linkage.Linked.{Linked}
use Rattle.mh_attempt.specs.declared.linkage.Linked.TheVariants as held

-- ---- attempts

-- the recipes of the forms that a call of a bootstrap method asks for, in the attempt with a serial number
abbrev pub target_recipes : LeafTable → List Script → ℕ → BootstrapCall → List (List Key)
target_recipes leaves scripts serial call = map (recipe leaves) (call_asked leaves scripts serial call)

-- ---- linkages

-- a linkage: the job of its call site, the serial of the attempt, the holds of its target, if it has one, and what the attempt has found of the constants that
-- it looked at itself, in order
pub record LinkageView : Type 0 where
  pub job : Job
  pub serial : ℕ
  pub held : List HoldView
  pub under : List FindingView

-- what a run is given, where of the constants is recorded what the attempt of a linkage has found of them
abbrev pub own_given : LinkageView → Given → Given
own_given l given = under (found_of l.under) given

-- the attempt of a linkage has found something of each constant that its job looks at under what it has found
abbrev pub HasFound : LinkageView → Type 0
HasFound l = constants_of l.under ≡ asked_at (found_of l.under) l.job

-- the holds of a linked target; an error has none
abbrev pub held_in : Linked → List HoldView
held_in (held.Target h) = h.held
held_in (held.Error e) = []

-- the value stands for the linkage of the definition: a handle that stands for the target, or the same error
abbrev pub IsLinkedBy : LeafTable → Linked → meant.Linked → Type 0
IsLinkedBy leaves (held.Target h) (Target t) = Stands leaves h t
IsLinkedBy leaves (held.Error e) (Error f) = e ≡ f
IsLinkedBy leaves _ _ = ⊥

-- the holds are of these types, each as often as in the list
abbrev pub HasTypes : List HoldView → List MethodTy → Type 0
HasTypes holds types = (t : MethodTy) → on_type t (entries_of holds) ≡ times_type t types

-- the job is one of the run's, and the value is what the attempt with this serial links at its site, where constants are what it has found of them
pub record IsLinkage (given : Given) (job : Job) (serial : ℕ) (findings : List FindingView) (recorded : Linked) : Type 0 where
  pub named : slice_get given.jobs job.site ≡ Some job
  pub is_job : IsJob given.leaves given.scripts job
  -- these are the constants that the call looks at
  pub asked : constants_of findings ≡ asked_at (found_of findings) job
  pub right : IsLinkedBy given.leaves recorded (linked given.leaves given.scripts (call_under (found_of findings) job.call) serial)
  -- it holds the types that such a target holds
  pub holds : HasTypes (held_in recorded) (held_by given.leaves (linked given.leaves given.scripts (call_under (found_of findings) job.call) serial))

-- how an attempt changes the seat: it adds the holds of what it has linked, or none if it fails
abbrev pub AddsLinked : {E : Type 0} → Work → Work → Result Linked E → Type 0
AddsLinked old new (Ok linked) = Adds (held_in linked) old new
AddsLinked old new (Err e) = Adds [] old new

-- the same, given the linkage that is the answer
abbrev pub AddsLinkage : {E : Type 0} → Work → Work → Result LinkageView E → Type 0
AddsLinkage old new (Ok linkage) = Adds linkage.held old new
AddsLinkage old new (Err e) = Adds [] old new

-- how many keys the form has that a call runs: 0 if an error is recorded, because no form runs
abbrev pub keys_of : LeafTable → meant.Linked → ℕ
keys_of leaves (Target t) = length (recipe leaves t)
keys_of leaves (Error e) = 0

-- how many keys the form has that a call of a run's site runs
abbrev pub site_keys : Given → ℕ → ℕ → ℕ
site_keys given site serial = keys_of given.leaves (linked_at given site serial)
