use Rattle.std.proofs.Common.{sym, subst}
use Rattle.mh_handle.specs.Works.{leaves_of}
use Rattle.mh_link.specs.Linked.{ended}
use Rattle.mh_attempt.specs.Asked.{AsksOrThrows}
use Rattle.mh_attempt.specs.AskedTypes.{AsksTypesOrThrows, end_types}
use Rattle.mh_attempt.specs.Lines.{MakesNode}
use Rattle.mh_attempt.specs.Recipes.{end_recipes}
use Rattle.mh_attempt.specs.Registers.{holds_in}
use Rattle.mh_attempt.proofs.types.AskingTypes.{no_other-still, types-refused}
use Rattle.mh_attempt.proofs.types.Replacing.{replaces-none}
use Rattle.mh_attempt.proofs.running.LastUses.{same-replaces}
use Rattle.mh_attempt.proofs.script.run_end.Goals as goal

pub returns-in-Return-clause-node : goal.returns-in-Return-clause-node
returns-in-Return-clause-node g c frame hold =
    subst (λ e. MakesNode (ended (leaves_of c.args.w.now) e frame) c.args.w.now c.return_handle.new.w c.return_handle.result) (sym c.in-Return.is)
    (c.return_handle.ensures.node frame hold)

pub returns-in-Return-clause-asks : goal.returns-in-Return-clause-asks
returns-in-Return-clause-asks g c frame hold =
    subst (λ e. AsksOrThrows (end_recipes (leaves_of c.args.w.now) e frame) c.args.w.now c.return_handle.new.w c.return_handle.result) (sym c.in-Return.is)
    (c.return_handle.ensures.asks frame hold)

pub returns-in-Return-clause-asked : goal.returns-in-Return-clause-asked
returns-in-Return-clause-asked g c frame hold =
    subst (λ e. AsksTypesOrThrows (end_types (leaves_of c.args.w.now) e frame) c.args.w.now c.return_handle.new.w c.return_handle.result) (sym c.in-Return.is)
    (c.return_handle.ensures.asked frame hold)

pub returns-in_err-exc-in-Raise-clause-types : goal.returns-in_err-exc-in-Raise-clause-types
returns-in_err-exc-in-Raise-clause-types g c =
    same-replaces c.args.registers.now c.args.w.now c.from_residual.result _ c.from_residual.ensures.1 c.requires.kept

pub returns-in_ok-exc-in-Raise-clause-types : goal.returns-in_ok-exc-in-Raise-clause-types
returns-in_ok-exc-in-Raise-clause-types g c = replaces-none (holds_in c.args.registers.now.assigned.items) c.args.w.now c.requires.kept

pub returns-in_err-exc-in-Raise-clause-asked : goal.returns-in_err-exc-in-Raise-clause-asked
returns-in_err-exc-in-Raise-clause-asked g c frame hold =
    types-refused (end_types (leaves_of c.args.w.now) c.args.end.now frame) c.args.w.now _ c.from_residual.result c.from_residual.ensures.1

pub returns-in_ok-exc-in-Raise-clause-asked : goal.returns-in_ok-exc-in-Raise-clause-asked
returns-in_ok-exc-in-Raise-clause-asked g c frame hold = no_other-still (end_types (leaves_of c.args.w.now) c.args.end.now frame) c.args.w.now.seat.now

pub returns-in_err-exc-in-Value-clause-types : goal.returns-in_err-exc-in-Value-clause-types
returns-in_err-exc-in-Value-clause-types g c =
    same-replaces c.args.registers.now c.args.w.now c.from_residual-in_err-exc-in-Value.result _ c.from_residual-in_err-exc-in-Value.ensures.1
    c.requires.kept

pub returns-in_ok-exc-in-Value-clause-types : goal.returns-in_ok-exc-in-Value-clause-types
returns-in_ok-exc-in-Value-clause-types g c = replaces-none (holds_in c.args.registers.now.assigned.items) c.args.w.now c.requires.kept
