-- What the attempt to link a call site asks for, by its edits.
use Rattle.std.proofs.Common.{◌≡◌, sym, ap, subst, ℕ, List, [], Some, Result, Ok, Err}
use Rattle.std.specs.Prelude.{IsErrAnd, slice_get}
use Rattle.std.specs.Option.{option_map_or}
use Rattle.mh_leaf.specs.LeafTable.{LeafTable}
use Rattle.mh_edit.specs.declared.key.Key.{Key}
use Rattle.mh_attempt.specs.declared.error.WorkError.{WorkError}
use Rattle.mh_handle.specs.declared.work.Work.{Work}
use Rattle.mh_handle.specs.Recipe.{recipe}
use Rattle.mh_script.specs.declared.script.Script.{Script}
use Rattle.mh_jobs.specs.declared.job.Job.{Job}
use Rattle.mh_jobs.specs.Given.{Given, IsJob}
use Rattle.mh_link.specs.Made.{edits}
use Rattle.mh_link.specs.Resolved.{call_at}
use Rattle.mh_link.specs.Sites.{edits_at}
use Rattle.mh_attempt.specs.Asked.{Asks}
use Rattle.mh_attempt.specs.Recipes.{attempt_recipes}
use Rattle.mh_attempt.proofs.beginnings.Beginnings.{edits-same}
use Rattle.mh_attempt.proofs.asked.SameAsked.{same-asked}

-- the edits at a site are those for its job
site-edits : (given : Given) (job : Job) (serial : ℕ) → slice_get given.jobs job.site ≡ Some job →
    edits_at (recipe given.leaves) given job.site serial ≡ edits (recipe given.leaves) given.leaves given.scripts (call_at given job) serial
site-edits given job serial named =
    ap (λ o. option_map_or (λ j. edits (recipe given.leaves) given.leaves given.scripts (call_at given j) serial) o []) named

-- the forms of an attempt are those of its edits
pub asks-edits : {A : Type 0} (given : Given) (scripts : List Script) (leaves : LeafTable) (job : Job) (serial : ℕ) (old new : Work) (r : Result A WorkError) →
    scripts ≡ given.scripts → leaves ≡ given.leaves → slice_get given.jobs job.site ≡ Some job → IsJob given.leaves given.scripts job →
    Asks (attempt_recipes leaves scripts (call_at given job) serial) old new r → Asks (edits_at (recipe given.leaves) given job.site serial) old new r
asks-edits given scripts leaves job serial old new r same same' named is asks =
    let call = call_at given job in
    let recipes : List (List Key) = attempt_recipes given.leaves given.scripts call serial in
    let asked : Asks recipes old new r =
    subst (λ (x : LeafTable). Asks (attempt_recipes x given.scripts call serial) old new r) same'
    (subst (λ (x : List Script). Asks (attempt_recipes leaves x call serial) old new r) same asks) in
    subst (λ rs. Asks rs old new r) (sym (site-edits given job serial named))
    (same-asked recipes (edits (recipe given.leaves) given.leaves given.scripts call serial) old new r
    (λ q. sym (edits-same given.leaves given.scripts job given.values serial is q)) asked)

-- and where an error is handed on
pub edits-stopped : {A : Type 0} (given : Given) (scripts : List Script) (leaves : LeafTable) (job : Job) (serial : ℕ) (old new : Work) (error : WorkError)
    (r : Result A WorkError) → IsErrAnd r (λ x. x ≡ error) → scripts ≡ given.scripts → leaves ≡ given.leaves → slice_get given.jobs job.site ≡ Some job →
    IsJob given.leaves given.scripts job → Asks {A = A} (attempt_recipes leaves scripts (call_at given job) serial) old new (Err error) →
    Asks (edits_at (recipe given.leaves) given job.site serial) old new r
edits-stopped given scripts leaves job serial old new error (Ok a) handed same same' named is asks = absurd handed
edits-stopped {A} given scripts leaves job serial old new error (Err x) handed same same' named is asks =
    subst (λ e. Asks {A = A} (edits_at (recipe given.leaves) given job.site serial) old new (Err e)) (sym handed)
    (asks-edits {A = A} given scripts leaves job serial old new (Err error) same same' named is asks)
