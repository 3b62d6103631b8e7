-- A line that is not carried out ends its script.
use Rattle.std.proofs.Common.{◌≡◌, refl, sym, ◌∙◌, ap, subst, ℕ, ◌+◌, ◌*◌, ◌≤◌, List, ◌∷◌, ◌++◌, append-nil, map, Result, Ok, Err}
use Rattle.std.specs.Prelude.{IsErrAnd}
use Rattle.mh_values.specs.declared.types.MethodTy.{MethodTy}
use Rattle.mh_leaf.specs.LeafTable.{LeafTable}
use Rattle.mh_edit.specs.declared.key.Key.{Key}
use Rattle.mh_handle.specs.declared.error.HandleError.{HandleError}
use Rattle.mh_handle.specs.declared.error.HandleError.TheVariants.{NoMemory, FormsFull, TypesFull, Refused}
use Rattle.mh_handle.specs.declared.handle.Handle.{Handle}
use Rattle.mh_handle.specs.declared.work.Work.{Work}
use Rattle.mh_handle.specs.Recipe.{recipe}
use Rattle.mh_handle.proofs.obeying.Rooms.{goes_on-sum}
use Rattle.mh_script.specs.declared.script.End.{End}
use Rattle.mh_script.specs.declared.script.Step.{Step}
use Rattle.mh_attempt.specs.declared.registers.Registers.{Registers}
use Rattle.mh_jobs.specs.Thrown.{◌>>=◌}
use Rattle.mh_link.specs.Linked.{ran, stepped}
use Rattle.mh_link.specs.Made.{nodes_from, types_of, unless_thrown}
use Rattle.mh_link.specs.Operands.{Frame}
use Rattle.mh_attempt.specs.Asked.{AsksOrThrows}
use Rattle.mh_attempt.specs.AskedTypes.{AsksTypesOrThrows, script_types}
use Rattle.mh_attempt.specs.Lines.{TellsTarget}
use Rattle.mh_attempt.specs.Recipes.{script_asked, script_recipes}
use Rattle.mh_attempt.specs.Registers.{Hold, holds_in}
use Rattle.mh_attempt.specs.Runs.{Runs, RunsStep, TellsStep, draws, step_recipes, step_types}
use Rattle.mh_attempt.proofs.asked.AskedAfter.{full-first, stopped-first}
use Rattle.mh_attempt.proofs.asked.AskedLines.{asks-after, same-asks}
use Rattle.mh_attempt.proofs.types.AskingRuns.{same-types}
use Rattle.mh_attempt.proofs.types.AskingTypes.{types-handed, types-more, types-then}
use Rattle.mh_attempt.proofs.types.TypeLists.{within-first}
use Rattle.mh_attempt.proofs.types.Replacing.{replaces-then}
use Rattle.mh_attempt.proofs.running.RunLines.{HasRun, Reaches, Steps, recipes-after, steps-over, types-after}
use Rattle.mh_attempt.proofs.running.Running.{same-target, tells-over}

-- what lines tell and ask from a frame on
pub record Says (leaves : LeafTable) (steps : List Step) (e : End) (frame : Frame) (old new : Work) (r : Result Handle HandleError) : Type 0 where
  pub target : TellsTarget (ran leaves steps e frame) old r
  pub asks : AsksOrThrows (script_recipes leaves steps e frame) old new r
  pub asked : AsksTypesOrThrows (script_types leaves steps e frame) old new r

-- all lines, where the rest says this
pub all-says : (steps rest : List Step) (e : End) (frame : Frame) (registers : Registers) (old mid new : Work) (r : Result Handle HandleError) →
    mid.leaves ≡ old.leaves → (at : Reaches steps rest e frame registers old mid) → Says old.leaves.now rest e at.reached mid new r →
    Says old.leaves.now steps e frame old new r
all-says steps rest e frame registers old mid new r same at says =
    let leaves = old.leaves.now in
    record {
      target =
          same-target (ran leaves steps e frame) (ran leaves rest e at.reached) old r at.target
          (tells-over (ran leaves rest e at.reached) old mid r same says.target);
      asks =
          same-asks (script_recipes leaves steps e frame) (at.recipes ++ script_recipes leaves rest e at.reached) old new r at.same_recipes
          (asks-after at.recipes (script_recipes leaves rest e at.reached) old mid new r at.asks says.asks);
      asked =
          same-types (script_types leaves steps e frame) (at.types ++ script_types leaves rest e at.reached) old new r at.same_types
          (types-then at.types (script_types leaves rest e at.reached) old mid new r at.asked says.asked);
    }

-- ---- a line that is not carried out

module _ (leaves : LeafTable) (s : Step) (rest : List Step) (e : End) (frame : Frame) (after : Registers) (old new : Work) where
  rest_recipes : List (List Key)
  rest_recipes = map (recipe leaves) (unless_thrown (stepped leaves s frame) (script_asked leaves rest e))

  fails-asks : (error : HandleError) → TellsStep leaves (stepped leaves s frame) after (Err error) →
      AsksOrThrows {A = Unit {0}} (step_recipes leaves s frame) old new (Err error) →
      AsksOrThrows {A = Handle} (step_recipes leaves s frame ++ rest_recipes) old new (Err error)
  unfolding rest_recipes
  fails-asks (Refused exc) thrown asks =
      same-asks {A = Handle} _ (step_recipes leaves s frame) old new (Err (Refused exc))
      (ap (λ m. step_recipes leaves s frame ++ map (recipe leaves) (unless_thrown m (script_asked leaves rest e))) thrown
      ∙ append-nil (step_recipes leaves s frame)) asks
  fails-asks (FormsFull drawn) thrown full = full-first (step_recipes leaves s frame) rest_recipes drawn old.pass.now new.pass.now full
  fails-asks (TypesFull bucket) thrown stopped = stopped-first (step_recipes leaves s frame) rest_recipes old.pass.now new.pass.now stopped
  fails-asks NoMemory thrown asks = tt

  fails-tells : (error : HandleError) → TellsStep leaves (stepped leaves s frame) after (Err error) →
      TellsTarget (ran leaves (s ∷ rest) e frame) old (Err error)
  fails-tells (Refused exc) thrown = ap (λ m. m >>= ran leaves rest e) thrown
  fails-tells (FormsFull drawn) thrown = tt
  fails-tells (TypesFull bucket) thrown = tt
  fails-tells NoMemory thrown = tt

  -- the lines from it on
  fails-says : (error : HandleError) → Steps leaves s frame after old new (Err error) → Says leaves (s ∷ rest) e frame old new (Err error)
  unfolding rest_recipes
  fails-says error line = record {
    target = fails-tells error line.told;
    asks =
        same-asks {A = Handle} (script_recipes leaves (s ∷ rest) e frame) _ old new (Err error) (recipes-after leaves s rest e frame)
        (fails-asks error line.told line.asks);
    asked =
        let more : List MethodTy = types_of leaves (unless_thrown (stepped leaves s frame) (nodes_from leaves rest e)) in
        same-types {A = Handle} (script_types leaves (s ∷ rest) e frame) (step_types leaves s frame ++ more) old new (Err error)
        (types-after leaves s rest e frame)
        (types-more {A = Handle} (step_types leaves s frame) (step_types leaves s frame ++ more) old new (Err error)
        (within-first (step_types leaves s frame) more)
        (types-handed (Unit {0}) {B = Handle} (step_types leaves s frame) old new error (Err error) refl line.asked));
  }

-- it stops the script
pub run-fails : (lines : ℕ) (steps rest : List Step) (s : Step) (e : End) (before mid after : Registers) (old now new : Work) (error : HandleError)
    (r : Result Handle HandleError) → IsErrAnd r (λ x. x ≡ error) → 4 * lines + 4 ≤ draws steps → HasRun lines steps (s ∷ rest) e before mid old now →
    RunsStep s mid after now new (Err error) → Runs steps e before after old new r
run-fails lines steps rest s e before mid after old now new error (Ok h) is few so_far line = absurd is
run-fails lines steps rest s e before mid after old now new error (Err x) is few so_far line =
    let says : (frame : Frame) → Hold old.leaves.now before frame → Says old.leaves.now steps e frame old new (Err error) = λ frame hold.
    let at = so_far.reaches frame hold in
    all-says steps (s ∷ rest) e frame mid old now new (Err error) so_far.goes_on.leaves at
    (fails-says old.leaves.now s rest e at.reached after now new error
    (steps-over s mid after old now new (Err error) so_far.goes_on.leaves line at.reached at.holds)) in
    subst (λ y. Runs steps e before after old new (Err y)) (sym is) (record {
      goes_on = goes_on-sum (4 * lines) 4 (draws steps) old now new few so_far.goes_on line.goes_on;
      types = replaces-then (holds_in before.assigned.items) (holds_in mid.assigned.items) (holds_in after.assigned.items) old now new so_far.types line.types;
      target = λ frame hold. (says frame hold).target;
      asks = λ frame hold. (says frame hold).asks;
      asked = λ frame hold. (says frame hold).asked;
    })
