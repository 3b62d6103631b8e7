use Rattle.std.proofs.Common.{map, subst}
use Rattle.mh_link.specs.Concatenation.{concat_of}
use Rattle.mh_link.specs.Linked.{IsThere, at_start, ran, target_of}
use Rattle.mh_link.specs.Made.{concat_nodes, types_of}
use Rattle.mh_handle.specs.Recipe.{recipe}
use Rattle.mh_attempt.specs.AskedTypes.{script_types, target_types}
use Rattle.mh_attempt.specs.Linkage.{target_recipes}
use Rattle.mh_attempt.specs.Recipes.{script_recipes}
use Rattle.mh_attempt.proofs.asked.AskedLines.{same-asks}
use Rattle.mh_attempt.proofs.types.AskingRuns.{same-types}
use Rattle.mh_attempt.proofs.linking.Outcomes.{called-recipes, called-target, called-types, joined-recipes, joined-target, joined-types}
use Rattle.mh_attempt.proofs.running.Running.{same-target}
use Rattle.mh_attempt.proofs.attempts.call_bootstrap.Goals as goal

-- ---- a script

pub get-requires : goal.get-requires
get-requires g c = subst (IsThere c.args.scripts.now) c.in-Script.is c.requires.method

pub returns-in-Script-clause-target : goal.returns-in-Script-clause-target
returns-in-Script-clause-target g c =
    let leaves = c.args.w.now.leaves.now in
    let script = c.get.result.now in
    same-target (target_of leaves c.args.scripts.now c.args.serial c.args.call.now)
    (ran leaves script.steps script.end (at_start c.args.call.now c.args.serial)) c.args.w.now c.run_script.result
    (called-target leaves c.args.scripts.now c.args.serial c.args.call.now c.in-Script.id script c.in-Script.is c.get.ensures.script)
    c.run_script.ensures.target

pub returns-in-Script-clause-asks : goal.returns-in-Script-clause-asks
returns-in-Script-clause-asks g c =
    let leaves = c.args.w.now.leaves.now in
    let script = c.get.result.now in
    same-asks (target_recipes leaves c.args.scripts.now c.args.serial c.args.call.now)
    (script_recipes leaves script.steps script.end (at_start c.args.call.now c.args.serial)) c.args.w.now c.run_script.new.w c.run_script.result
    (called-recipes leaves c.args.scripts.now c.args.serial c.args.call.now c.in-Script.id script c.in-Script.is c.get.ensures.script)
    c.run_script.ensures.asks

pub returns-in-Script-clause-asked : goal.returns-in-Script-clause-asked
returns-in-Script-clause-asked g c =
    let leaves = c.args.w.now.leaves.now in
    let script = c.get.result.now in
    same-types (target_types leaves c.args.scripts.now c.args.serial c.args.call.now)
    (script_types leaves script.steps script.end (at_start c.args.call.now c.args.serial)) c.args.w.now c.run_script.new.w c.run_script.result
    (called-types leaves c.args.scripts.now c.args.serial c.args.call.now c.in-Script.id script c.in-Script.is c.get.ensures.script)
    c.run_script.ensures.asked

-- ---- a concatenation

pub returns-in-Concat-clause-target : goal.returns-in-Concat-clause-target
returns-in-Concat-clause-target g c =
    let leaves = c.args.w.now.leaves.now in
    same-target (target_of leaves c.args.scripts.now c.args.serial c.args.call.now) (concat_of leaves.classes c.args.call.now) c.args.w.now
    c.make_concatenation.result (joined-target leaves c.args.scripts.now c.args.serial c.args.call.now c.in-Concat.is) c.make_concatenation.ensures.target

pub returns-in-Concat-clause-asks : goal.returns-in-Concat-clause-asks
returns-in-Concat-clause-asks g c =
    let leaves = c.args.w.now.leaves.now in
    same-asks (target_recipes leaves c.args.scripts.now c.args.serial c.args.call.now)
    (map (recipe leaves) (concat_nodes leaves.classes c.args.call.now)) c.args.w.now c.make_concatenation.new.w c.make_concatenation.result
    (joined-recipes leaves c.args.scripts.now c.args.serial c.args.call.now c.in-Concat.is) c.make_concatenation.ensures.asks

pub returns-in-Concat-clause-asked : goal.returns-in-Concat-clause-asked
returns-in-Concat-clause-asked g c =
    let leaves = c.args.w.now.leaves.now in
    same-types (target_types leaves c.args.scripts.now c.args.serial c.args.call.now) (types_of leaves (concat_nodes leaves.classes c.args.call.now))
    c.args.w.now c.make_concatenation.new.w c.make_concatenation.result
    (joined-types leaves c.args.scripts.now c.args.serial c.args.call.now c.in-Concat.is) c.make_concatenation.ensures.asked
