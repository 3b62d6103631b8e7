use Rattle.std.proofs.Common.{◌≡◌, subst, [], ◌∷◌, Result, Ok, Err, IfOk}
use Rattle.std.specs.Result.{result_or}
use Rattle.std.proofs.lemmas.List.Elements.{All-cons, All-nil}
use Rattle.mh_classfile.specs.Class.{HasDynamics}
use Rattle.mh_runtime.proofs.constants.ClassConstants.{are-constants}
use Rattle.mh_embed.proofs.lines.Goals as goal

-- no job is one of these leaves and scripts, and the class adds jobs of them
pub link_and_call-requires-clause-jobs : goal.link_and_call-requires-clause-jobs
link_and_call-requires-clause-jobs g c κs within =
    c.in_ok-push_class.ensures.are_jobs (c.new-jobs.ensures.are_jobs c.in_ok-leaves.leaves c.in_ok-scripts.scripts)

-- a fact of a result holds of the value that it has, whatever stands in for its error
kept-or : {A E D : Type 0} (P : A → Type 0) (r : Result A E) (d : D) (x : A) → Ok x ≡ result_or r (Err d) → IfOk r P → P x
kept-or P (Ok y) d x is holds = let same : y ≡ x = cc in subst P same holds
kept-or P (Err e) d x is holds = absurd (cc is)

-- its constants are those of the one class
pub link_and_call-requires-clause-constants : goal.link_and_call-requires-clause-constants
link_and_call-requires-clause-constants g c κs within =
    let class = c.in_ok-class.class in
    let has = kept-or HasDynamics c.read.result _ class c.in_ok-class.ensures c.read.ensures.dynamics in
    are-constants c.in_ok-leaves.leaves c.in_ok-scripts.scripts (class ∷ [])
    (All-cons HasDynamics class [] has (All-nil HasDynamics)) c.push_class.new.jobs
    (c.in_ok-push_class.ensures.run [] c.new-jobs.ensures.none)
