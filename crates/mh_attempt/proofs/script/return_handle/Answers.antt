use Rattle.std.proofs.Common.{◌≡◌, ap, sym, subst, ◌∙◌, [], ◌∷◌, map}
use Rattle.mh_jobs.specs.declared.job.BootstrapCall.{BootstrapCall}
use Rattle.mh_tree.specs.Rows.{mismatch}
use Rattle.mh_script.specs.declared.script.End.TheVariants as end
use Rattle.mh_link.specs.Linked.{ended}
use Rattle.mh_link.specs.Made.{nodes_of_uses, types_of, unless_thrown}
use Rattle.mh_link.specs.Operands.{handle_in}
use Rattle.mh_handle.specs.declared.error.HandleError.TheVariants.{NoMemory}
use Rattle.mh_handle.specs.declared.handle.Handle.{Handle}
use Rattle.mh_handle.specs.Recipe.{recipe}
use Rattle.mh_handle.specs.Works.{leaves_of}
use Rattle.mh_attempt.specs.Asked.{AsksOrThrows}
use Rattle.mh_attempt.specs.AskedTypes.{AsksTypesOrThrows, end_types}
use Rattle.mh_attempt.specs.Registers.{holds_in}
use Rattle.mh_attempt.proofs.nodes.LineNodes.{same-node}
use Rattle.mh_attempt.proofs.types.AskingTypes.{no_other-still, types-handed, types-refused}
use Rattle.mh_attempt.proofs.types.Replacing.{replaces-none}
use Rattle.mh_attempt.proofs.running.Endings.{mismatched-node, returned-given}
use Rattle.mh_attempt.proofs.running.LastUses.{same-replaces}
use Rattle.mh_attempt.proofs.script.return_handle.Goals as goal

pub returns-then-not-is_same_method_type-clause-node : goal.returns-then-not-is_same_method_type-clause-node
returns-then-not-is_same_method_type-clause-node g c frame hold =
    let own = c.ty-own.result.now in
    let asked = c.get-asked.result.now in
    let target = c.in_ok-target.ensures.stands (leaves_of c.args.w.now) frame hold in
    mismatched-node c.args.w.now c.args.register.now frame target.0 own asked c.in_ok-mismatch.field-0 target.1 (c.ty-own.ensures target.0 target.2)
    (ap (λ (call : BootstrapCall). call.ty) hold.call ∙ sym c.get-asked.ensures)
    (sym c.is_same_method_type.ensures ∙ c.if-not-is_same_method_type.true)
    (c.in_ok-mismatch.ensures ∙ ap (λ classes. mismatch classes own asked) c.classes.ensures.classes)

-- ---- a handle of the site's type: what the line answers is what the register holds

pub returns-clause-node : goal.returns-clause-node
returns-clause-node g c frame hold =
    let w = c.args.w.now in
    let r = c.args.register.now in
    let target = c.in_ok-target.ensures.stands w.leaves.now frame hold in
    let same : ended w.leaves.now (end.Return r) frame ≡ handle_in frame r =
    returned-given w.leaves.now r frame target.0 c.ty-own.result.now c.get-asked.result.now target.1 (c.ty-own.ensures target.0 target.2)
    (ap (λ (call : BootstrapCall). call.ty) hold.call ∙ sym c.get-asked.ensures)
    (sym c.is_same_method_type.ensures ∙ c.if-not-is_same_method_type.false) ∙ sym target.1 in
    same-node (ended w.leaves.now (end.Return r) frame) (handle_in frame r) w c.last_handle.new.w c.last_handle.result same
    (c.last_handle.ensures.node frame hold)

pub returns-clause-asks : goal.returns-clause-asks
returns-clause-asks g c frame hold =
    let w = c.args.w.now in
    let r = c.args.register.now in
    let target = c.in_ok-target.ensures.stands w.leaves.now frame hold in
    let same : handle_in frame r ≡ ended w.leaves.now (end.Return r) frame =
    target.1 ∙ sym (returned-given w.leaves.now r frame target.0 c.ty-own.result.now c.get-asked.result.now target.1 (c.ty-own.ensures target.0 target.2)
    (ap (λ (call : BootstrapCall). call.ty) hold.call ∙ sym c.get-asked.ensures)
    (sym c.is_same_method_type.ensures ∙ c.if-not-is_same_method_type.false)) in
    subst (λ m. AsksOrThrows (map (recipe w.leaves.now) (unless_thrown m (λ t. nodes_of_uses frame (r ∷ [])))) w c.last_handle.new.w c.last_handle.result)
    same (c.last_handle.ensures.asks frame hold)

pub returns-clause-asked : goal.returns-clause-asked
returns-clause-asked g c frame hold =
    let w = c.args.w.now in
    let r = c.args.register.now in
    let target = c.in_ok-target.ensures.stands w.leaves.now frame hold in
    let same : handle_in frame r ≡ ended w.leaves.now (end.Return r) frame =
    target.1 ∙ sym (returned-given w.leaves.now r frame target.0 c.ty-own.result.now c.get-asked.result.now target.1 (c.ty-own.ensures target.0 target.2)
    (ap (λ (call : BootstrapCall). call.ty) hold.call ∙ sym c.get-asked.ensures)
    (sym c.is_same_method_type.ensures ∙ c.if-not-is_same_method_type.false)) in
    subst (λ m. AsksTypesOrThrows (types_of w.leaves.now (unless_thrown m (λ t. nodes_of_uses frame (r ∷ [])))) w c.last_handle.new.w c.last_handle.result)
    same (c.last_handle.ensures.asked frame hold)

-- ---- the types that are asked for

pub returns-in_err-target-clause-asked : goal.returns-in_err-target-clause-asked
returns-in_err-target-clause-asked g c frame hold =
    let types = end_types (leaves_of c.args.w.now) (end.Return c.args.register.now) frame in
    types-refused types c.args.w.now _ c.from_residual.result c.from_residual.ensures.1

pub returns-in_err-mismatch-clause-asked : goal.returns-in_err-mismatch-clause-asked
returns-in_err-mismatch-clause-asked g c frame hold =
    let types = end_types (leaves_of c.args.w.now) (end.Return c.args.register.now) frame in
    types-handed Handle types c.args.w.now c.args.w.now NoMemory c.from_residual-in_err-mismatch.result c.from_residual-in_err-mismatch.ensures.1
    (no_other-still types c.args.w.now.seat.now)

pub returns-then-not-is_same_method_type-clause-asked : goal.returns-then-not-is_same_method_type-clause-asked
returns-then-not-is_same_method_type-clause-asked g c frame hold =
    no_other-still (end_types (leaves_of c.args.w.now) (end.Return c.args.register.now) frame) c.args.w.now.seat.now

-- ---- the seat of types

pub returns-in_err-target-clause-types : goal.returns-in_err-target-clause-types
returns-in_err-target-clause-types g c =
    same-replaces c.args.registers.now c.args.w.now c.from_residual.result _ c.from_residual.ensures.1 c.requires.kept

pub returns-in_err-mismatch-clause-types : goal.returns-in_err-mismatch-clause-types
returns-in_err-mismatch-clause-types g c =
    same-replaces c.args.registers.now c.args.w.now c.from_residual-in_err-mismatch.result _ c.from_residual-in_err-mismatch.ensures.1 c.requires.kept

pub returns-then-not-is_same_method_type-clause-types : goal.returns-then-not-is_same_method_type-clause-types
returns-then-not-is_same_method_type-clause-types g c = replaces-none (holds_in c.args.registers.now.assigned.items) c.args.w.now c.requires.kept
