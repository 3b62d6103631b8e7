-- What an attempt links for a job, from what its script gives.
use Rattle.std.proofs.Common.{◌≡◌, sym, ◌∙◌, ap, subst, arith, ℕ, ◌<◌, ◌^◌, List, [], None, Some, Ok, map}
use Rattle.std.specs.Prelude.{ok_or, slice_get}
use Rattle.mh_values.specs.Class.{illegal_argument_class}
use Rattle.mh_values.specs.Exception.{bare}
use Rattle.mh_intern.specs.Exchanges.{AreHeld}
use Rattle.mh_intern.specs.Views.{SeatView}
use Rattle.mh_intern.proofs.HeldLists.{held-none}
use Rattle.mh_leaf.specs.LeafTable.{LeafTable}
use Rattle.mh_handle.specs.declared.work.Work.{Work}
use Rattle.mh_handle.specs.Recipe.{recipe}
use Rattle.mh_handle.specs.Works.{IsReady}
use Rattle.mh_handle.proofs.obeying.Rooms.{ready-less}
use Rattle.mh_script.specs.declared.script.Script.{Script}
use Rattle.mh_script.specs.declared.script.Step.{Step}
use Rattle.mh_script.specs.declared.scripts.ScriptId.{ScriptId}
use Rattle.mh_script.specs.Limits.{CanRun}
use Rattle.mh_jobs.specs.declared.job.BootstrapCall.{BootstrapCall}
use Rattle.mh_jobs.specs.declared.job.Method.TheVariants as method
use Rattle.mh_jobs.specs.Thrown.{OrThrown, ◌>>=◌}
use Rattle.mh_link.specs.Concatenation.{concat_of}
use Rattle.mh_link.specs.Linked.{at_start, called_script, method_target, ran, target_of}
use Rattle.mh_link.specs.Made.{concat_nodes, nodes_from, nodes_of_call, nodes_of_method, types_of, unless_thrown}
use Rattle.mh_attempt.specs.declared.registers.Registers.{Registers}
use Rattle.mh_attempt.specs.AskedTypes.{job_types, script_types, target_types}
use Rattle.mh_attempt.specs.Linkage.{target_recipes}
use Rattle.mh_attempt.specs.Recipes.{attempt_recipes, call_asked, method_asked, script_asked, script_recipes}
use Rattle.mh_attempt.specs.Registers.{AreHeldBy, HasLeaves, Hold, HoldsLast, held_under, holds_in}
use Rattle.mh_attempt.specs.Runs.{MayRun, draws}
use Rattle.mh_attempt.specs.Asked.{attempt_draws}

-- ---- a call of a bootstrap method

-- the registers before the first line
pub start-holds : (leaves : LeafTable) (registers : Registers) (call : BootstrapCall) (serial : ℕ) → registers.call.now ≡ call → registers.serial ≡ serial →
    registers.assigned.items ≡ [] → HasLeaves leaves call → Hold leaves registers (at_start call serial)
start-holds leaves registers call serial is is' none are = record {
  call = sym is;
  serial = sym is';
  arguments = rw is are;
  assigned = record { under = λ name. subst (λ l. HoldsLast leaves (held_under name l) None) (sym none) tt };
}

-- they hold nothing
pub start-kept : (seat : SeatView) (registers : Registers) → registers.assigned.items ≡ [] → AreHeldBy seat registers
start-kept seat registers none = subst (λ l. AreHeld seat (holds_in l)) (sym none) (held-none seat)

-- the lines of a script may be run, where as many numbers are left as its lines may draw
pub start-may : (w : Work) (script : Script) (steps : List Step) (registers : Registers) (call : BootstrapCall) (serial : ℕ) → steps ≡ script.steps →
    CanRun script → IsReady w attempt_draws → registers.call.now ≡ call → registers.serial ≡ serial → registers.assigned.items ≡ [] →
    HasLeaves w.leaves.now call → serial < 2 ^ 63 → MayRun steps registers w
start-may w script steps registers call serial is runs ready same same' none are low =
    let few = runs.few in
    subst (λ xs. MayRun xs registers w) (sym is) (record {
      ready = ready-less w attempt_draws (draws script.steps) (omega (arith, few)) ready;
      holds = (at_start call serial, start-holds w.leaves.now registers call serial same same' none are);
      kept = start-kept w.seat.now registers none;
      divide = runs.divide;
      serial = rw same' low;
    })

called-is : (scripts : List Script) (id : ScriptId) (script : Script) → slice_get scripts id.0 ≡ Some script → called_script scripts id ≡ Ok script
called-is scripts id script found = ap (λ o. ok_or o (bare illegal_argument_class)) found

module _ (leaves : LeafTable) (scripts : List Script) (serial : ℕ) (call : BootstrapCall) (id : ScriptId) (script : Script)
    (named : call.method ≡ method.Script id) (found : slice_get scripts id.0 ≡ Some script) where
  -- the target is what the lines of the script give
  pub called-target : target_of leaves scripts serial call ≡ ran leaves script.steps script.end (at_start call serial)
  called-target =
      ap (method_target leaves scripts serial call) named
      ∙ ap (λ m. m >>= (λ (s : Script). ran leaves s.steps s.end (at_start call serial))) (called-is scripts id script found)

  -- and the recipes are those of its lines
  pub called-recipes : target_recipes leaves scripts serial call ≡ script_recipes leaves script.steps script.end (at_start call serial)
  called-recipes =
      ap (λ m. map (recipe leaves) (method_asked leaves scripts serial call m)) named
      ∙ ap (λ m. map (recipe leaves) (unless_thrown m (λ (s : Script). script_asked leaves s.steps s.end (at_start call serial))))
      (called-is scripts id script found)

  -- and the types those of the nodes of its lines
  pub called-types : target_types leaves scripts serial call ≡ script_types leaves script.steps script.end (at_start call serial)
  called-types =
      ap (λ m. types_of leaves (nodes_of_method leaves scripts serial call m)) named
      ∙ ap (λ m. types_of leaves (unless_thrown m (λ (s : Script). nodes_from leaves s.steps s.end (at_start call serial))))
      (called-is scripts id script found)

module _ (leaves : LeafTable) (scripts : List Script) (serial : ℕ) (call : BootstrapCall) (named : call.method ≡ method.Concat) where
  -- the target is a concatenation
  pub joined-target : target_of leaves scripts serial call ≡ concat_of leaves.classes call
  joined-target = ap (method_target leaves scripts serial call) named

  -- and the recipes are that of the one form that it asks for
  pub joined-recipes : target_recipes leaves scripts serial call ≡ map (recipe leaves) (concat_nodes leaves.classes call)
  joined-recipes = ap (λ m. map (recipe leaves) (method_asked leaves scripts serial call m)) named

  -- and the types that of its node
  pub joined-types : target_types leaves scripts serial call ≡ types_of leaves (concat_nodes leaves.classes call)
  joined-types = ap (λ m. types_of leaves (nodes_of_method leaves scripts serial call m)) named

-- ---- a job

-- a job calls its bootstrap method, and asks for the forms that this asks for
pub job-asked : (leaves : LeafTable) (scripts : List Script) (made : OrThrown BootstrapCall) (serial : ℕ) (call : BootstrapCall) → made ≡ Ok call →
    attempt_recipes leaves scripts made serial ≡ target_recipes leaves scripts serial call
job-asked leaves scripts made serial call called = ap (λ m. map (recipe leaves) (unless_thrown m (call_asked leaves scripts serial))) called

-- and for the types that this asks for
pub job-types : (leaves : LeafTable) (scripts : List Script) (made : OrThrown BootstrapCall) (serial : ℕ) (call : BootstrapCall) → made ≡ Ok call →
    job_types leaves scripts made serial ≡ target_types leaves scripts serial call
job-types leaves scripts made serial call called = ap (λ m. types_of leaves (unless_thrown m (nodes_of_call leaves scripts serial))) called
