-- The forms that an attempt asks for are those of all beginnings of the recipes of the nodes that it makes.
use Rattle.std.proofs.Common.{◌≡◌, refl, sym, ap, subst, ◌∙◌, ℕ, List, [], ◌∷◌, ◌++◌, append_assoc, Option, Some, None, Ok, Err}
use Rattle.std.specs.Prelude.{All, option_map, slice_get}
use Rattle.std.proofs.lemmas.List.{map-append}
use Rattle.mh_base.proofs.Inversion.{some_is}
use Rattle.mh_values.specs.declared.types.MethodTy.{MethodTy}
use Rattle.mh_leaf.specs.LeafTable.{LeafTable}
use Rattle.mh_pieces.specs.declared.piece.Piece.{Piece}
use Rattle.mh_classfile.specs.Class as class_file
use Rattle.mh_classfile.specs.declared.constant.SiteView.{SiteView}
use Rattle.mh_tree.specs.Tree.{Tree}
use Rattle.mh_tree.specs.Tree as tree
use Rattle.mh_edit.specs.declared.key.Key.{Key}
use Rattle.mh_handle.specs.Recipe.{recipe}
use Rattle.mh_jobs.specs.declared.job.BootstrapCall.{BootstrapCall}
use Rattle.mh_jobs.specs.declared.job.Job.{Job}
use Rattle.mh_jobs.specs.declared.job.Method.{Method}
use Rattle.mh_jobs.specs.declared.job.Method.TheVariants as method
use Rattle.mh_jobs.specs.Given.{IsJob, Found}
use Rattle.mh_jobs.specs.Sites.{site_job}
use Rattle.mh_jobs.specs.Thrown.{OrThrown, ◌>>=◌}
use Rattle.mh_script.specs.declared.script.End.{End}
use Rattle.mh_script.specs.declared.script.Script.{Script}
use Rattle.mh_script.specs.declared.script.Step.{Step}
use Rattle.mh_link.specs.Concatenation.{pieces_given}
use Rattle.mh_link.specs.Linked.{at_start, called_script, ended, stepped}
use Rattle.mh_link.specs.Made.{edits, nodes, nodes_from, nodes_of_call, nodes_of_method, nodes_of_step, returned, unless_thrown}
use Rattle.mh_link.specs.Resolved.{call_under}
use Rattle.mh_link.specs.Operands.{Frame}
use Rattle.mh_link.proofs.typing.Attempts.{made-typed}
use Rattle.mh_link.proofs.typing.Nodes.{IsTyped}
use Rattle.mh_attempt.specs.Recipes.{attempt_recipes, call_asked, method_asked, script_asked, step_asked}
use Rattle.mh_attempt.proofs.beginnings.AskedAmong.{attempt-among}
use Rattle.mh_attempt.proofs.beginnings.KnownHandles.{AreKnown, edits_of, recipes_of}
use Rattle.mh_attempt.proofs.beginnings.KnownSteps.{all-edits, end-known, next-known, step-known}
use Rattle.mh_attempt.proofs.asked.RecipeCounts.{is_one}
use Rattle.mh_attempt.proofs.asked.RecipeSets.{AreAmong, among-among, among-first, among-same, both-among, none-among, same-among}
use Rattle.mh_attempt.proofs.beginnings.TypedRecipes.{recipes-among}

module _ (leaves : LeafTable) where
  rest-known : (known : List (List Key)) (m : OrThrown Frame) (made asked : Frame → List Tree) →
      ((next : Frame) → m ≡ Ok next → AreAmong (edits_of leaves (made next)) (known ++ recipes_of leaves (asked next))) →
      AreAmong (edits_of leaves (unless_thrown m made)) (known ++ recipes_of leaves (unless_thrown m asked))
  rest-known known (Ok next) made asked among = among next refl
  rest-known known (Err e) made asked among = none-among (known ++ [])

  script-known : (steps : List Step) (e : End) (frame : Frame) (known : List (List Key)) → AreKnown leaves known frame.assigned →
      AreAmong (edits_of leaves (nodes_from leaves steps e frame)) (known ++ recipes_of leaves (script_asked leaves steps e frame))
  script-known [] e frame known are = end-known leaves known frame are (ended leaves e frame) (returned e)
  script-known (s ∷ steps) e frame known are =
      let first = nodes_of_step leaves s frame in
      let rest = unless_thrown (stepped leaves s frame) (nodes_from leaves steps e) in
      let now = step_asked leaves s frame in
      let later = unless_thrown (stepped leaves s frame) (script_asked leaves steps e) in
      let all = (known ++ recipes_of leaves now) ++ recipes_of leaves later in
      among-among (edits_of leaves (first ++ rest)) (edits_of leaves first ++ edits_of leaves rest) (known ++ recipes_of leaves (now ++ later))
      (same-among _ _ (all-edits leaves first rest))
      (among-among (edits_of leaves first ++ edits_of leaves rest) all (known ++ recipes_of leaves (now ++ later))
      (both-among (edits_of leaves first) (edits_of leaves rest) all
      (among-among (edits_of leaves first) (known ++ recipes_of leaves now) all (step-known leaves known frame are s)
      (among-first (known ++ recipes_of leaves now) (recipes_of leaves later)))
      (rest-known (known ++ recipes_of leaves now) (stepped leaves s frame) (nodes_from leaves steps e) (script_asked leaves steps e)
      (λ next is. script-known steps e next (known ++ recipes_of leaves now) (next-known leaves known frame are s next is))))
      (same-among all (known ++ recipes_of leaves (now ++ later))
      (append_assoc known (recipes_of leaves now) (recipes_of leaves later) ∙ ap (λ rs. known ++ rs) (sym (map-append (recipe leaves) now later)))))

  attempt-edits : (scripts : List Script) (made : OrThrown BootstrapCall) (serial : ℕ) →
      AreAmong (edits (recipe leaves) leaves scripts made serial) (attempt_recipes leaves scripts made serial)
  attempt-edits scripts made serial = called made
    where
      joined : (ty : MethodTy) (m : OrThrown (List Piece)) →
          AreAmong (edits_of leaves (unless_thrown (m >>= (λ ps. Ok (tree.Concat ty ps))) (λ t. t ∷ [])))
          (recipes_of leaves (unless_thrown (m >>= (λ ps. Ok (tree.Concat ty ps))) (λ t. t ∷ [])))
      joined ty (Ok ps) = let keys = recipe leaves (tree.Concat ty ps) in same-among (keys ∷ []) (keys ∷ []) refl
      joined ty (Err e) = none-among []

      scripted : (call : BootstrapCall) (m : OrThrown Script) →
          AreAmong (edits_of leaves (unless_thrown m (λ script. nodes_from leaves script.steps script.end (at_start call serial))))
          (recipes_of leaves (unless_thrown m (λ script. script_asked leaves script.steps script.end (at_start call serial))))
      scripted call (Ok script) = script-known script.steps script.end (at_start call serial) [] tt
      scripted call (Err e) = none-among []

      by : (call : BootstrapCall) (m : Method) →
          AreAmong (edits_of leaves (nodes_of_method leaves scripts serial call m)) (recipes_of leaves (method_asked leaves scripts serial call m))
      by call (method.Script id) = scripted call (called_script scripts id)
      by call method.Concat = joined call.ty (pieces_given leaves.classes call.ty call.arguments)

      called : (m : OrThrown BootstrapCall) →
          AreAmong (edits_of leaves (unless_thrown m (nodes_of_call leaves scripts serial)))
          (recipes_of leaves (unless_thrown m (call_asked leaves scripts serial)))
      called (Ok call) = by call call.method
      called (Err e) = none-among []

-- the nodes of the attempt for a job of a run have types
job-typed : (leaves : LeafTable) (scripts : List Script) (class : class_file.Class) (first : ℕ) (job : Job) (known : Found) (serial : ℕ)
    (o : Option SiteView) → option_map (site_job leaves scripts class first job.site) o ≡ Some job →
    All (IsTyped leaves) (nodes leaves scripts (call_under known job.call) serial)
job-typed leaves scripts class first job known serial (Some site) h =
    subst (λ (j : Job). All (IsTyped leaves) (nodes leaves scripts (call_under known j.call) serial))
    (some_is (site_job leaves scripts class first job.site site) job h) (made-typed leaves scripts class first site known serial)
job-typed leaves scripts class first job known serial None h = absurd cc

-- a recipe is one of the edits of an attempt where a form of it is asked for
pub edits-same : (leaves : LeafTable) (scripts : List Script) (job : Job) (known : Found) (serial : ℕ) → IsJob leaves scripts job → (r : List Key) →
    is_one (edits (recipe leaves) leaves scripts (call_under known job.call) serial) r
    ≡ is_one (attempt_recipes leaves scripts (call_under known job.call) serial) r
edits-same leaves scripts job known serial is r =
    let call = call_under known job.call in
    let made = nodes leaves scripts call serial in
    among-same (edits (recipe leaves) leaves scripts call serial) (attempt_recipes leaves scripts call serial) (attempt-edits leaves scripts call serial)
    (among-among (attempt_recipes leaves scripts call serial) (recipes_of leaves made) (edits_of leaves made) (attempt-among leaves scripts call serial)
    (recipes-among leaves made (job-typed leaves scripts is.0 is.2 job known serial (slice_get is.0.sites is.1) is.3))) r
