use Rattle.std.proofs.Common.{ap, sym, ◌∙◌, subst}
use Rattle.mh_link.specs.Linked.{at_start, ran}
use Rattle.mh_attempt.specs.Asked.{AsksOrThrows}
use Rattle.mh_attempt.specs.AskedTypes.{AsksTypesOrThrows, script_types}
use Rattle.mh_attempt.specs.Lines.{TellsTarget}
use Rattle.mh_attempt.specs.Recipes.{script_recipes}
use Rattle.mh_attempt.specs.Registers.{holds_in}
use Rattle.mh_attempt.proofs.asked.AskedLines.{asks-given_back}
use Rattle.mh_attempt.proofs.types.AskingTypes.{types-back}
use Rattle.mh_attempt.proofs.linking.Outcomes.{start-holds, start-kept, start-may}
use Rattle.mh_attempt.proofs.running.RunCalls.{called-adds, called-goes_on, called-kept}
use Rattle.mh_attempt.proofs.attempts.run_script.Goals as goal

pub run_lines-target-requires : goal.run_lines-target-requires
run_lines-target-requires g c =
    start-may c.args.w.now c.args.script.now c.as_slice.result.now c.new-registers.result c.args.call.now c.args.serial c.as_slice.ensures
    c.requires.runs c.requires.ready c.new-registers.ensures.call c.new-registers.ensures.serial c.new-registers.ensures.assigned
    c.requires.leaves c.requires.serial

pub give_back-requires-clause-of_types : goal.give_back-requires-clause-of_types
give_back-requires-clause-of_types g c =
    c.run_lines-target.ensures.goes_on.seat ∙ (c.requires.ready.of_types ∙ ap (λ t. t.now) (sym c.run_lines-target.ensures.goes_on.types))

pub give_back-requires-clause-kept : goal.give_back-requires-clause-kept
give_back-requires-clause-kept g c =
    called-kept c.new-registers.result c.run_lines-target.new.registers c.args.w.now c.run_lines-target.new.w c.run_lines-target.result
    (start-kept c.args.w.now.seat.now c.new-registers.result c.new-registers.ensures.assigned) c.run_lines-target.ensures.types

pub returns-clause-goes_on : goal.returns-clause-goes_on
returns-clause-goes_on g c =
    called-goes_on c.args.script.now c.as_slice.result.now c.run_lines-target.new.registers c.args.w.now c.run_lines-target.new.w c.give_back.new.w
    c.as_slice.ensures c.requires.runs c.run_lines-target.ensures.goes_on c.give_back.ensures.unchanged c.give_back.ensures.types

pub returns-clause-types : goal.returns-clause-types
returns-clause-types g c =
    called-adds c.new-registers.result c.run_lines-target.new.registers c.args.w.now c.run_lines-target.new.w c.give_back.new.w c.run_lines-target.result
    c.new-registers.ensures.assigned (start-kept c.args.w.now.seat.now c.new-registers.result c.new-registers.ensures.assigned)
    c.run_lines-target.ensures.types c.give_back.ensures.types

pub returns-clause-target : goal.returns-clause-target
returns-clause-target g c =
    let leaves = c.args.w.now.leaves.now in
    let start = at_start c.args.call.now c.args.serial in
    subst (λ steps. TellsTarget (ran leaves steps c.args.script.now.end start) c.args.w.now c.run_lines-target.result) c.as_slice.ensures
    (c.run_lines-target.ensures.target start (start-holds leaves c.new-registers.result c.args.call.now c.args.serial c.new-registers.ensures.call
    c.new-registers.ensures.serial c.new-registers.ensures.assigned c.requires.leaves))

pub returns-clause-asks : goal.returns-clause-asks
returns-clause-asks g c =
    let leaves = c.args.w.now.leaves.now in
    let start = at_start c.args.call.now c.args.serial in
    subst (λ steps. AsksOrThrows (script_recipes leaves steps c.args.script.now.end start) c.args.w.now c.give_back.new.w c.run_lines-target.result)
    c.as_slice.ensures
    (asks-given_back (script_recipes leaves c.as_slice.result.now c.args.script.now.end start) c.args.w.now c.run_lines-target.new.w c.give_back.new.w
    c.run_lines-target.result c.give_back.ensures.unchanged.pass
    (c.run_lines-target.ensures.asks start (start-holds leaves c.new-registers.result c.args.call.now c.args.serial c.new-registers.ensures.call
    c.new-registers.ensures.serial c.new-registers.ensures.assigned c.requires.leaves)))

pub returns-clause-asked : goal.returns-clause-asked
returns-clause-asked g c =
    let leaves = c.args.w.now.leaves.now in
    let start = at_start c.args.call.now c.args.serial in
    subst (λ steps. AsksTypesOrThrows (script_types leaves steps c.args.script.now.end start) c.args.w.now c.give_back.new.w c.run_lines-target.result)
    c.as_slice.ensures
    (types-back (script_types leaves c.as_slice.result.now c.args.script.now.end start) (holds_in c.run_lines-target.new.registers.assigned.items) c.args.w.now
    c.run_lines-target.new.w c.give_back.new.w c.run_lines-target.result c.give_back.ensures.types
    (c.run_lines-target.ensures.asked start (start-holds leaves c.new-registers.result c.args.call.now c.args.serial c.new-registers.ensures.call
    c.new-registers.ensures.serial c.new-registers.ensures.assigned c.requires.leaves)))
