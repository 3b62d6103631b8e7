use Rattle.std.proofs.Common.{◌∙◌, ◌++◌, sym, ap, subst, arith, [], ◌∷◌, Err}
use Rattle.mh_base.proofs.Inversion.{ok_is}
use Rattle.mh_tree.specs.Tree.{Tree}
use Rattle.mh_tree.specs.Typing.{type_of}
use Rattle.mh_handle.specs.declared.handle.Handle.{Handle}
use Rattle.mh_handle.proofs.obeying.Going.{goes_on-before, goes_on-more, seated-back}
use Rattle.mh_handle.proofs.obeying.Rooms.{goes_on-sum, ready-after}
use Rattle.mh_jobs.specs.Thrown.{◌>>=◌}
use Rattle.mh_attempt.specs.Again.{MakesPair, pair_asked}
use Rattle.mh_handle.specs.Stands.{Stands}
use Rattle.mh_link.specs.Made.{nodes_of, nodes_of_uses, types_of, unless_thrown}
use Rattle.mh_attempt.specs.Lines.{typed}
use Rattle.mh_attempt.specs.Nodes.{two_tree}
use Rattle.mh_attempt.specs.Registers.{StandsFor, holds_in}
use Rattle.mh_attempt.proofs.types.PairTypes.{pair-held}
use Rattle.mh_attempt.proofs.types.Adding.{adds-unmade, holds-came, holds-yet, of-types}
use Rattle.mh_attempt.proofs.nodes.LineNodes.{stands-yet}
use Rattle.mh_attempt.proofs.nodes.MadeNodes.{of-refused, of-unmade}
use Rattle.mh_attempt.proofs.nodes.NodeRules.{two-ruled, typed-handle}
use Rattle.mh_attempt.proofs.nodes.Pairs.{pair-is, pair-made, pair-of, pair-thrown, pair-untaken, part-asked, part-throws, target-throws}
use Rattle.mh_attempt.proofs.types.AskingRuns.{no_other-back}
use Rattle.mh_attempt.proofs.running.LastUses.{joined-replaces, made-replaces, same-replaces, untaken-replaces}
use Rattle.mh_attempt.proofs.lines.again.join_again.Goals as goal

-- ---- an operand throws

pub returns-in_err-target-clause-types : goal.returns-in_err-target-clause-types
returns-in_err-target-clause-types g c =
    same-replaces c.args.registers.now c.args.w.now c.from_residual.result _ c.from_residual.ensures.1 c.requires.kept

pub returns-in_err-target-clause-made : goal.returns-in_err-target-clause-made
returns-in_err-target-clause-made g c frame hold =
    let w = c.args.w.now in
    pair-thrown frame c.args.name.now c.args.with.0 c.args.with.1.now w c.in_err-target.field-0.0 c.from_residual.result c.from_residual.ensures.1
    (target-throws frame c.args.name.now c.args.with.0 c.args.with.1.now (StandsFor w.leaves.now) w.leaves.now c.in_err-target.field-0.0
    (c.in_err-target.ensures.stands w.leaves.now frame hold))

pub returns-in_err-part-clause-types : goal.returns-in_err-part-clause-types
returns-in_err-part-clause-types g c =
    same-replaces c.args.registers.now c.args.w.now c.from_residual-in_err-part.result _ c.from_residual-in_err-part.ensures.1 c.requires.kept

pub returns-in_err-part-clause-made : goal.returns-in_err-part-clause-made
returns-in_err-part-clause-made g c frame hold =
    let w = c.args.w.now in
    let first = c.in_ok-target.ensures.stands w.leaves.now frame hold in
    pair-thrown frame c.args.name.now c.args.with.0 c.args.with.1.now w c.in_err-part.field-0.0 c.from_residual-in_err-part.result
    c.from_residual-in_err-part.ensures.1
    (part-throws frame c.args.name.now c.args.with.0 c.args.with.1.now (StandsFor w.leaves.now) w.leaves.now c.in_err-part.field-0.0 first.0 first.1
    (c.in_err-part.ensures.stands w.leaves.now frame hold))

-- ---- the rule refuses

pub returns-in_err-ty-clause-types : goal.returns-in_err-ty-clause-types
returns-in_err-ty-clause-types g c =
    same-replaces c.args.registers.now c.args.w.now c.from_residual-in_err-ty.result _ c.from_residual-in_err-ty.ensures.1 c.requires.kept

pub returns-in_err-ty-clause-made : goal.returns-in_err-ty-clause-made
returns-in_err-ty-clause-made g c frame hold =
    let w = c.args.w.now in
    let name = c.args.name.now in
    let by = c.args.with.0 in
    let part = c.args.with.1.now in
    let first = c.in_ok-target.ensures.stands w.leaves.now frame hold in
    let second = c.in_ok-part.ensures.stands w.leaves.now frame hold in
    let is = pair-is frame name by part first.0 second.0 first.1 second.1 in
    pair-of frame name by part c.in_ok-part.part (c.in_ok-part.ensures.makes w.leaves.now frame hold) w w c.from_residual-in_err-ty.result
    (of-refused (c.in_ok-part.part ∷ []) w (pair_asked name by part frame) (λ (t : Tree). t ∷ []) _ c.in_err-ty.field-0.0
    c.from_residual-in_err-ty.result c.from_residual-in_err-ty.ensures.1
    (ap (λ m. m >>= type_of w.leaves.now) is
    ∙ two-ruled w.leaves.now _ by first.0 second.0 _ _ _ _ c.classes.ensures.classes (c.typed-own.ensures.typed first.0 first.2)
    (c.typed-other.ensures.typed second.0 second.2))
    c.in_err-ty.ensures)

-- ---- no handle of the other operand is made

pub returns-in_err-joined-clause-goes_on : goal.returns-in_err-joined-clause-goes_on
returns-in_err-joined-clause-goes_on g c = goes_on-more 1 4 c.args.w.now c.make.new.w (omega arith) c.make.ensures.goes_on

pub returns-in_err-joined-clause-types : goal.returns-in_err-joined-clause-types
returns-in_err-joined-clause-types g c =
    let r = c.from_residual-in_err-joined.result in
    made-replaces c.args.registers.now c.args.w.now c.make.new.w r c.requires.kept
    (adds-unmade c.args.w.now c.make.new.w r _ c.from_residual-in_err-joined.ensures.1 c.in_err-joined.ensures.types)

pub returns-in_err-joined-clause-made : goal.returns-in_err-joined-clause-made
returns-in_err-joined-clause-made g c frame hold =
    let w = c.args.w.now in
    let mid = c.make.new.w in
    let name = c.args.name.now in
    let by = c.args.with.0 in
    let part = c.args.with.1.now in
    let first = c.in_ok-target.ensures.stands w.leaves.now frame hold in
    let second = c.in_ok-part.ensures.stands w.leaves.now frame hold in
    let r = c.from_residual-in_err-joined.result in
    pair-of frame name by part c.in_ok-part.part (c.in_ok-part.ensures.makes w.leaves.now frame hold) w mid r
    (of-unmade (c.in_ok-part.part ∷ []) w (pair_asked name by part frame) (λ (t : Tree). t ∷ []) Handle mid (two_tree by first.0 second.0) _
    c.in_err-joined.field-0.0 r c.from_residual-in_err-joined.ensures.1 (pair-is frame name by part first.0 second.0 first.1 second.1)
    (two-ruled w.leaves.now _ by first.0 second.0 _ _ _ _ c.classes.ensures.classes (c.typed-own.ensures.typed first.0 first.2)
    (c.typed-other.ensures.typed second.0 second.2) ∙ c.in_ok-ty.ensures)
    (goes_on-more 1 4 w mid (omega arith) c.make.ensures.goes_on) c.in_err-joined.ensures.types c.in_err-joined.ensures.accepted
    c.in_err-joined.ensures.asks c.in_err-joined.ensures.asked)

-- ---- both are joined

pub of_two-requires-clause-ruled : goal.of_two-requires-clause-ruled
of_two-requires-clause-ruled g c =
    let leaves = c.args.w.now.leaves.now in
    let by = c.args.with.0 in
    let frame = c.requires.registers.0 in
    let hold = c.requires.registers.1 in
    let first = c.in_ok-target.ensures.stands leaves frame hold in
    let second = c.in_ok-part.ensures.stands leaves frame hold in
    let taken = c.in-Ok.ensures.stands leaves frame hold in
    sym (two-ruled leaves _ by taken.0 second.0 _ _ _ _ (ap (λ l. l.now.classes) c.make.ensures.goes_on.leaves)
    (typed-handle leaves c.in-Ok.taken taken.0 taken.2)
    (typed-handle leaves c.in_ok-joined.joined second.0 (c.in_ok-joined.ensures.stands second.0 second.2)))
    ∙ (ap (λ t. type_of leaves (two_tree by t second.0)) (ok_is taken.0 first.0 (sym taken.1 ∙ first.1))
    ∙ (two-ruled leaves _ by first.0 second.0 _ _ _ _ c.classes.ensures.classes (c.typed-own.ensures.typed first.0 first.2)
    (c.typed-other.ensures.typed second.0 second.2) ∙ c.in_ok-ty.ensures))

pub of_two-requires-clause-ready : goal.of_two-requires-clause-ready
of_two-requires-clause-ready g c = ready-after 1 1 4 c.args.w.now c.make.new.w (omega arith) c.make.ensures.goes_on c.requires.ready

pub of_two-requires-clause-held : goal.of_two-requires-clause-held
of_two-requires-clause-held g c =
    let w = c.args.w.now in
    let mid = c.make.new.w in
    let before = holds_in c.args.registers.now.assigned.items in
    let part = c.in_ok-joined.joined.held in
    pair-held before (holds_in c.take_handle.new.self.assigned.items) c.in-Ok.taken.held part w mid c.requires.kept c.in_ok-joined.ensures.types
    (c.in-Ok.ensures.types mid (holds-yet part before w mid c.in_ok-joined.ensures.types c.requires.kept))

pub returns-in-Ok-clause-goes_on : goal.returns-in-Ok-clause-goes_on
returns-in-Ok-clause-goes_on g c =
    goes_on-sum 1 1 4 c.args.w.now c.make.new.w c.of_two.new.w (omega arith) c.make.ensures.goes_on c.of_two.ensures.goes_on

pub returns-in-Ok-clause-types : goal.returns-in-Ok-clause-types
returns-in-Ok-clause-types g c =
    let w = c.args.w.now in
    let mid = c.make.new.w in
    let part = c.in_ok-joined.joined.held in
    joined-replaces c.args.registers.now c.take_handle.new.self c.in-Ok.taken.held part _ w mid c.of_two.new.w c.of_two.result c.requires.kept
    c.in_ok-joined.ensures.types
    (c.in-Ok.ensures.types mid
    (holds-yet part (holds_in c.args.registers.now.assigned.items) w mid c.in_ok-joined.ensures.types c.requires.kept)) c.of_two.ensures.types

pub returns-in-Ok-clause-made : goal.returns-in-Ok-clause-made
returns-in-Ok-clause-made g c frame hold =
    let w = c.args.w.now in
    let mid = c.make.new.w in
    let leaves = w.leaves.now in
    let name = c.args.name.now in
    let by = c.args.with.0 in
    let part = c.args.with.1.now in
    let first = c.in_ok-target.ensures.stands leaves frame hold in
    let second = c.in_ok-part.ensures.stands leaves frame hold in
    let taken = c.in-Ok.ensures.stands leaves frame hold in
    let same = c.make.ensures.goes_on.leaves in
    let t = stands-yet w mid c.in-Ok.taken taken.0 same taken.2 in
    let p = stands-yet w mid c.in_ok-joined.joined second.0 same (c.in_ok-joined.ensures.stands second.0 second.2) in
    pair-made frame name by part c.in_ok-part.part (c.in_ok-part.ensures.makes leaves frame hold) w mid c.of_two.new.w c.in_ok-ty.ty
    (c.in-Ok.taken.held ++ c.in_ok-joined.joined.held) c.of_two.result taken.0 second.0 (pair-is frame name by part taken.0 second.0 taken.1 second.1) same
    c.in_ok-joined.ensures.asks c.in_ok-joined.ensures.asked
    (ap (λ u. type_of leaves (two_tree by u second.0)) (ok_is taken.0 first.0 (sym taken.1 ∙ first.1))
    ∙ (two-ruled leaves _ by first.0 second.0 _ _ _ _ c.classes.ensures.classes (c.typed-own.ensures.typed first.0 first.2)
    (c.typed-other.ensures.typed second.0 second.2) ∙ c.in_ok-ty.ensures))
    c.of_two.ensures.accepted (c.of_two.ensures.makes taken.0 second.0 t p) (c.of_two.ensures.stands taken.0 second.0 t p) c.of_two.ensures.types

-- ---- nothing is taken out, for want of memory

pub give_back-requires-clause-of_types : goal.give_back-requires-clause-of_types
give_back-requires-clause-of_types g c = of-types 1 4 c.args.w.now c.make.new.w c.make.ensures.goes_on c.requires.ready

pub give_back-requires-clause-held : goal.give_back-requires-clause-held
give_back-requires-clause-held g c = holds-came c.in_ok-joined.joined.held c.args.w.now c.make.new.w c.in_ok-joined.ensures.types

pub returns-in-Err-clause-goes_on : goal.returns-in-Err-clause-goes_on
returns-in-Err-clause-goes_on g c =
    let w = c.args.w.now in
    let mid = c.make.new.w in
    goes_on-before 4 w mid c.give_back.new.w (goes_on-more 1 4 w mid (omega arith) c.make.ensures.goes_on) c.give_back.ensures.unchanged
    (seated-back [] c.in_ok-joined.joined.held mid c.give_back.new.w c.give_back.ensures.types)

pub returns-in-Err-clause-types : goal.returns-in-Err-clause-types
returns-in-Err-clause-types g c =
    let w = c.args.w.now in
    let mid = c.make.new.w in
    let part = c.in_ok-joined.joined.held in
    untaken-replaces c.args.registers.now c.take_handle.new.self part w mid c.give_back.new.w c.requires.kept c.in_ok-joined.ensures.types
    (c.in-Err.ensures.types mid
    (holds-yet part (holds_in c.args.registers.now.assigned.items) w mid c.in_ok-joined.ensures.types c.requires.kept)) c.give_back.ensures.types

pub returns-in-Err-clause-made : goal.returns-in-Err-clause-made
returns-in-Err-clause-made g c frame hold =
    let w = c.args.w.now in
    let mid = c.make.new.w in
    let leaves = w.leaves.now in
    let by = c.args.with.0 in
    let part = c.args.with.1.now in
    let first = c.in_ok-target.ensures.stands leaves frame hold in
    let second = c.in_ok-part.ensures.stands leaves frame hold in
    let types = types_of leaves (unless_thrown (pair_asked c.args.name.now c.args.with.0 part frame >>= typed leaves)
    (λ n. nodes_of_uses frame (part ∷ []) ++ nodes_of n)) in
    subst (λ e. MakesPair frame c.args.name.now by part w c.give_back.new.w (Err e)) (sym c.from.ensures)
    (pair-untaken frame c.args.name.now c.args.with.0 part (Stands leaves) w c.give_back.new.w c.in-Err.error first.0 first.1
    (c.in-Err.ensures.stands leaves frame hold)
    (no_other-back types c.in_ok-joined.joined.held [] w.seat.now mid.seat.now c.give_back.new.w.seat.now
    (part-asked frame c.args.name.now by part c.in_ok-part.part (c.in_ok-part.ensures.makes leaves frame hold) w mid c.in_ok-ty.ty first.0 second.0
    (pair-is frame c.args.name.now by part first.0 second.0 first.1 second.1)
    (two-ruled leaves _ by first.0 second.0 _ _ _ _ c.classes.ensures.classes (c.typed-own.ensures.typed first.0 first.2)
    (c.typed-other.ensures.typed second.0 second.2) ∙ c.in_ok-ty.ensures) c.in_ok-joined.ensures.asked) c.give_back.ensures.types))
