use Rattle.std.proofs.Common.{subst, [], ◌∷◌, Ok, Err}
use Rattle.mh_handle.specs.declared.handle.Handle.{Handle}
use Rattle.mh_handle.specs.Works.{Makes}
use Rattle.mh_attempt.specs.Cases.{leaf_recipe}
use Rattle.mh_attempt.specs.Registers.{IsHeldIn}
use Rattle.mh_attempt.proofs.types.Adding.{adds-made, adds-unmade}
use Rattle.mh_attempt.proofs.asked.AskedLines.{asks-handed}
use Rattle.mh_attempt.proofs.asked.AskedOperands.{asks-leaf}
use Rattle.mh_attempt.specs.AskedTypes.{types_made}
use Rattle.mh_attempt.proofs.types.AskingTypes.{types-copied, types-handed, types-uncopied}
use Rattle.mh_attempt.proofs.types.OperandTypes.{types-leaf}
use Rattle.mh_attempt.proofs.asked.Once.{copy-draws, copy-learns, made-draws, made-learns}
use Rattle.mh_attempt.proofs.nodes.SwitchNodes.{leaf-recipe}
use Rattle.mh_attempt.proofs.handle.HandleOperand.make.Goals as goal

pub copy-requires-clause-held : goal.copy-requires-clause-held
copy-requires-clause-held g c = subst (IsHeldIn c.args.w.now.seat.now) c.in-Held.is c.requires.held

-- ---- numbers

pub returns-in_ok-copy-in-Held-clause-draws : goal.returns-in_ok-copy-in-Held-clause-draws
returns-in_ok-copy-in-Held-clause-draws g c ty of = copy-draws (leaf_recipe ty) c.args.w.now c.copy.new.w c.copy.ensures.unchanged

pub returns-in_err-copy-in-Held-clause-draws : goal.returns-in_err-copy-in-Held-clause-draws
returns-in_err-copy-in-Held-clause-draws g c ty of = copy-draws (leaf_recipe ty) c.args.w.now c.copy.new.w c.copy.ensures.unchanged

pub returns-in_ok-copy-in-Held-clause-learns : goal.returns-in_ok-copy-in-Held-clause-learns
returns-in_ok-copy-in-Held-clause-learns g c ty of = copy-learns (leaf_recipe ty) c.args.w.now c.copy.new.w c.copy.ensures.unchanged

pub returns-in_ok-made-in-Leaf-clause-draws : goal.returns-in_ok-made-in-Leaf-clause-draws
returns-in_ok-made-in-Leaf-clause-draws g c ty of =
    let w = c.args.w.now in
    let made = Ok c.in_ok-made-in-Leaf.made in
    made-draws (leaf_recipe ty) w c.leaf.new.w made c.leaf.ensures.goes_on.learnt
    (subst (λ key. Makes key w c.leaf.new.w made) (leaf-recipe w.leaves.now ty c.args.self.now c.in-Leaf.id c.in-Leaf.is of)
    c.in_ok-made-in-Leaf.ensures.makes)

pub returns-in_err-made-in-Leaf-clause-draws : goal.returns-in_err-made-in-Leaf-clause-draws
returns-in_err-made-in-Leaf-clause-draws g c ty of =
    let w = c.args.w.now in
    made-draws (leaf_recipe ty) w c.leaf.new.w (Err c.in_err-made-in-Leaf.field-0.0) c.leaf.ensures.goes_on.learnt
    (subst (λ key. Makes key w c.leaf.new.w (Err c.in_err-made-in-Leaf.field-0.0))
    (leaf-recipe w.leaves.now ty c.args.self.now c.in-Leaf.id c.in-Leaf.is of) c.in_err-made-in-Leaf.ensures.makes)

pub returns-in_ok-made-in-Leaf-clause-learns : goal.returns-in_ok-made-in-Leaf-clause-learns
returns-in_ok-made-in-Leaf-clause-learns g c ty of =
    let w = c.args.w.now in
    made-learns (leaf_recipe ty) w c.leaf.new.w c.in_ok-made-in-Leaf.made
    (subst (λ key. Makes key w c.leaf.new.w (Ok c.in_ok-made-in-Leaf.made))
    (leaf-recipe w.leaves.now ty c.args.self.now c.in-Leaf.id c.in-Leaf.is of) c.in_ok-made-in-Leaf.ensures.makes)

-- ---- what is asked for

pub returns-in_ok-made-in-Leaf-clause-asks : goal.returns-in_ok-made-in-Leaf-clause-asks
returns-in_ok-made-in-Leaf-clause-asks g c =
    asks-leaf c.args.self.now c.in-Leaf.id c.args.w.now c.leaf.new.w (Ok c.in_ok-made-in-Leaf.made) c.in-Leaf.is c.in_ok-made-in-Leaf.ensures.makes

pub returns-in_err-made-in-Leaf-clause-asks : goal.returns-in_err-made-in-Leaf-clause-asks
returns-in_err-made-in-Leaf-clause-asks g c =
    let error = c.in_err-made-in-Leaf.field-0.0 in
    asks-handed _ c.args.w.now c.leaf.new.w error c.from_residual-in_err-made-in-Leaf.result c.from_residual-in_err-made-in-Leaf.ensures.1
    (asks-leaf c.args.self.now c.in-Leaf.id c.args.w.now c.leaf.new.w (Err error) c.in-Leaf.is c.in_err-made-in-Leaf.ensures.makes)

pub returns-in_ok-made-in-Leaf-clause-types : goal.returns-in_ok-made-in-Leaf-clause-types
returns-in_ok-made-in-Leaf-clause-types g c =
    adds-made _ c.args.w.now c.leaf.new.w (Ok c.in_ok-made-in-Leaf.made) c.in_ok-made-in-Leaf.ensures.types

pub returns-in_err-made-in-Leaf-clause-types : goal.returns-in_err-made-in-Leaf-clause-types
returns-in_err-made-in-Leaf-clause-types g c =
    adds-unmade c.args.w.now c.leaf.new.w c.from_residual-in_err-made-in-Leaf.result _ c.from_residual-in_err-made-in-Leaf.ensures.1
    (adds-made _ c.args.w.now c.leaf.new.w (Err c.in_err-made-in-Leaf.field-0.0) c.in_err-made-in-Leaf.ensures.types)

-- ---- the types that are asked for

pub returns-in_ok-made-in-Leaf-clause-asked : goal.returns-in_ok-made-in-Leaf-clause-asked
returns-in_ok-made-in-Leaf-clause-asked g c =
    types-leaf c.args.self.now c.in-Leaf.id c.args.w.now c.leaf.new.w (Ok c.in_ok-made-in-Leaf.made) c.in-Leaf.is c.in_ok-made-in-Leaf.ensures.types

pub returns-in_err-made-in-Leaf-clause-asked : goal.returns-in_err-made-in-Leaf-clause-asked
returns-in_err-made-in-Leaf-clause-asked g c =
    let error = c.in_err-made-in-Leaf.field-0.0 in
    types-handed Handle (types_made c.args.w.now.leaves.now (c.args.self.now ∷ []) []) c.args.w.now c.leaf.new.w error
    c.from_residual-in_err-made-in-Leaf.result c.from_residual-in_err-made-in-Leaf.ensures.1
    (types-leaf c.args.self.now c.in-Leaf.id c.args.w.now c.leaf.new.w (Err error) c.in-Leaf.is c.in_err-made-in-Leaf.ensures.types)

pub returns-in_ok-copy-in-Held-clause-asked : goal.returns-in_ok-copy-in-Held-clause-asked
returns-in_ok-copy-in-Held-clause-asked g c =
    let w = c.args.w.now in
    types-copied (types_made w.leaves.now (c.args.self.now ∷ []) []) c.in_ok-copy-in-Held.field-0.held w c.copy.new.w c.in_ok-copy-in-Held.ensures.types

pub returns-in_err-copy-in-Held-clause-asked : goal.returns-in_err-copy-in-Held-clause-asked
returns-in_err-copy-in-Held-clause-asked g c =
    let w = c.args.w.now in
    types-uncopied (types_made w.leaves.now (c.args.self.now ∷ []) []) w c.copy.new.w c.from_residual.result c.from_residual.ensures.1
    c.in_err-copy-in-Held.ensures.types
