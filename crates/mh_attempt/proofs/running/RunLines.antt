-- Lines one after the other.
use denote.Ref.{Bor}
use Rattle.std.proofs.Common.{◌≡◌, refl, sym, ◌∙◌, ap, subst, ℕ, ◌+◌, ◌*◌, List, [], ◌∷◌, ◌++◌, append_assoc, map, Result, Ok, arith}
use Rattle.std.proofs.lemmas.List.{map-append}
use Rattle.std.proofs.lemmas.Grind.{flat_map-append}
use Rattle.mh_values.specs.declared.types.MethodTy.{MethodTy}
use Rattle.mh_leaf.specs.LeafTable.{LeafTable}
use Rattle.mh_tree.specs.Tree.{Tree}
use Rattle.mh_tree.specs.Typing.{type_of, held_before}
use Rattle.mh_edit.specs.declared.key.Key.{Key}
use Rattle.mh_handle.specs.declared.error.HandleError.{HandleError}
use Rattle.mh_handle.specs.declared.work.Work.{Work}
use Rattle.mh_handle.specs.Recipe.{recipe}
use Rattle.mh_handle.specs.Works.{GoesOn}
use Rattle.mh_handle.proofs.obeying.Going.{goes_on-still}
use Rattle.mh_handle.proofs.obeying.Rooms.{goes_on-sum}
use Rattle.mh_script.specs.declared.script.End.{End}
use Rattle.mh_script.specs.declared.script.Step.{Step}
use Rattle.mh_attempt.specs.declared.registers.Registers.{Registers}
use Rattle.mh_jobs.specs.Thrown.{◌>>=◌}
use Rattle.mh_link.specs.Linked.{ran, stepped}
use Rattle.mh_link.specs.Made.{nodes_from, nodes_of_step, types_of, unless_thrown}
use Rattle.mh_link.specs.Operands.{Frame}
use Rattle.mh_attempt.specs.Asked.{AsksOrThrows, HasAskedMore}
use Rattle.mh_attempt.specs.AskedTypes.{AsksNoOther, AsksTypesOrThrows, script_types}
use Rattle.mh_attempt.specs.Recipes.{script_asked, script_recipes, step_asked}
use Rattle.mh_attempt.specs.Registers.{AreHeldBy, Hold, holds_in}
use Rattle.mh_attempt.specs.Runs.{Replaces, RunsStep, TellsStep, step_recipes, step_types}
use Rattle.mh_attempt.proofs.asked.AskedAfter.{asked_more-both, asked_more-none}
use Rattle.mh_attempt.proofs.types.AskingTypes.{no_other-still, no_other-then}
use Rattle.mh_attempt.proofs.types.Replacing.{replaces-none, replaces-then}

-- registers stand for the frame that a script has reached, from which the rest of the lines gives what all lines give, and has only the rest to ask for
pub record Reaches (steps rest : List Step) (e : End) (frame : Frame) (registers : Registers) (old new : Work) : Type 0 where
  pub reached : Frame
  pub holds : Hold old.leaves.now registers reached
  pub target : ran old.leaves.now steps e frame ≡ ran old.leaves.now rest e reached
  pub recipes : List (List Key)
  pub same_recipes : script_recipes old.leaves.now steps e frame ≡ recipes ++ script_recipes old.leaves.now rest e reached
  pub asks : HasAskedMore recipes old.pass.now new.pass.now
  pub types : List MethodTy
  pub same_types : script_types old.leaves.now steps e frame ≡ types ++ script_types old.leaves.now rest e reached
  pub asked : AsksNoOther types old.seat.now new.seat.now

-- what so many lines have left
pub record HasRun (lines : ℕ) (steps rest : List Step) (e : End) (before after : Registers) (old new : Work) : Type 0 where
  pub goes_on : GoesOn (4 * lines) old new
  pub types : Replaces (holds_in before.assigned.items) (holds_in after.assigned.items) old new
  pub serial : after.serial ≡ before.serial
  pub reaches : (frame : Frame) → Hold old.leaves.now before frame → Reaches steps rest e frame after old new

-- ---- before the first line

pub run-none : (steps : List Step) (e : End) (registers : Registers) (w : Work) → AreHeldBy w.seat.now registers →
    HasRun 0 steps steps e registers registers w w
run-none steps e registers w kept = record {
  goes_on = goes_on-still w;
  types = replaces-none (holds_in registers.assigned.items) w kept;
  serial = refl;
  reaches = λ frame hold. record {
    reached = frame;
    holds = hold;
    target = refl;
    recipes = [];
    same_recipes = refl;
    asks = asked_more-none w.pass.now;
    types = [];
    same_types = refl;
    asked = no_other-still [] w.seat.now;
  };
}

-- ---- one line more

-- the recipes and types of a line, and then those of the lines that follow
pub recipes-after : (leaves : LeafTable) (s : Step) (steps : List Step) (e : End) (frame : Frame) →
    script_recipes leaves (s ∷ steps) e frame
    ≡ step_recipes leaves s frame ++ map (recipe leaves) (unless_thrown (stepped leaves s frame) (script_asked leaves steps e))
recipes-after leaves s steps e frame =
    map-append (recipe leaves) (step_asked leaves s frame) (unless_thrown (stepped leaves s frame) (script_asked leaves steps e))

pub types-after : (leaves : LeafTable) (s : Step) (steps : List Step) (e : End) (frame : Frame) →
    script_types leaves (s ∷ steps) e frame
    ≡ step_types leaves s frame ++ types_of leaves (unless_thrown (stepped leaves s frame) (nodes_from leaves steps e))
types-after leaves s steps e frame =
    flat_map-append (λ (t : Tree). held_before (type_of leaves t) []) (nodes_of_step leaves s frame)
    (unless_thrown (stepped leaves s frame) (nodes_from leaves steps e))

-- what a line tells and asks, from registers that stand for a frame
pub record Steps (leaves : LeafTable) (s : Step) (frame : Frame) (after : Registers) (old new : Work) (r : Result (Unit {0}) HandleError) : Type 0 where
  pub told : TellsStep leaves (stepped leaves s frame) after r
  pub asks : AsksOrThrows (step_recipes leaves s frame) old new r
  pub asked : AsksTypesOrThrows (step_types leaves s frame) old new r

-- over leaves that stayed
pub steps-over : (s : Step) (before after : Registers) (old mid new : Work) (r : Result (Unit {0}) HandleError) → mid.leaves ≡ old.leaves →
    RunsStep s before after mid new r → (frame : Frame) → Hold old.leaves.now before frame → Steps old.leaves.now s frame after mid new r
steps-over s before after old mid new r same run =
    subst (λ (leaves : Bor LeafTable). (frame : Frame) → Hold leaves.now before frame → Steps leaves.now s frame after mid new r) same
    (λ frame hold. record { told = run.told frame hold; asks = run.asks frame hold; asked = run.asked frame hold })

next-reaches : (steps rest : List Step) (s : Step) (e : End) (frame : Frame) (before after : Registers) (old mid new : Work) (u : Unit {0}) →
    (r : Reaches steps (s ∷ rest) e frame before old mid) → Steps old.leaves.now s r.reached after mid new (Ok u) →
    Reaches steps rest e frame after old new
next-reaches steps rest s e frame before after old mid new u r line =
    let leaves = old.leaves.now in
    let next = line.told.0 in
    let is = line.told.1 in
    record {
      reached = next;
      holds = line.told.2;
      target = r.target ∙ ap (λ m. m >>= ran leaves rest e) is;
      recipes = r.recipes ++ step_recipes leaves s r.reached;
      same_recipes =
          r.same_recipes
          ∙ (ap (λ l. r.recipes ++ l) (recipes-after leaves s rest e r.reached
          ∙ ap (λ m. step_recipes leaves s r.reached ++ map (recipe leaves) (unless_thrown m (script_asked leaves rest e))) is)
          ∙ sym (append_assoc r.recipes (step_recipes leaves s r.reached) (script_recipes leaves rest e next)));
      asks = asked_more-both r.recipes (step_recipes leaves s r.reached) old.pass.now mid.pass.now new.pass.now r.asks line.asks;
      types = r.types ++ step_types leaves s r.reached;
      same_types =
          r.same_types
          ∙ (ap (λ l. r.types ++ l) (types-after leaves s rest e r.reached
          ∙ ap (λ m. step_types leaves s r.reached ++ types_of leaves (unless_thrown m (nodes_from leaves rest e))) is)
          ∙ sym (append_assoc r.types (step_types leaves s r.reached) (script_types leaves rest e next)));
      asked = no_other-then r.types (step_types leaves s r.reached) old.seat.now mid.seat.now new.seat.now r.asked line.asked;
    }

pub run-next : (lines more : ℕ) (steps rest : List Step) (s : Step) (e : End) (before mid after : Registers) (old now new : Work) (u : Unit {0}) →
    more ≡ lines + 1 → HasRun lines steps (s ∷ rest) e before mid old now → RunsStep s mid after now new (Ok u) →
    HasRun more steps rest e before after old new
run-next lines more steps rest s e before mid after old now new u count so_far line = record {
  goes_on = goes_on-sum (4 * lines) 4 (4 * more) old now new (omega (arith, count)) so_far.goes_on line.goes_on;
  types = replaces-then (holds_in before.assigned.items) (holds_in mid.assigned.items) (holds_in after.assigned.items) old now new so_far.types line.types;
  serial = line.serial ∙ so_far.serial;
  reaches = λ frame hold.
      let r = so_far.reaches frame hold in
      next-reaches steps rest s e frame mid after old now new u r
      (steps-over s mid after old now new (Ok u) so_far.goes_on.leaves line r.reached r.holds);
}
