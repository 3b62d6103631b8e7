use Rattle.std.proofs.Common.{sym, ap, ◌∙◌, [], ◌∷◌, ◌++◌, arith, Ok}
use Rattle.mh_tree.specs.declared.error.CheckError.TheVariants as check
use Rattle.mh_handle.proofs.holding.Trading.{trades-checked}
use Rattle.mh_tree.specs.Joints.{joint_tree}
use Rattle.mh_adapt.specs.Parts.{joint_key}
use Rattle.mh_adapt.proofs.Joints.{joint-light, joint-makes, joint-stands, joint-suited}
use Rattle.mh_adapt.proofs.PartAnswers.{adds-gains, adds-stands, suited-fits, suited-shaped}
use Rattle.mh_adapt.proofs.joining.join.Goals as goal

pub grow_with-requires-clause-fits : goal.grow_with-requires-clause-fits
grow_with-requires-clause-fits g c =
    suited-fits c.args.pair.target (joint_key c.args.joint c.args.pair.part.ty) c.in-Ok.by c.in-Ok.ensures.adds.key
    (joint-suited c.args.pair.target c.args.pair.part c.in-Ok.by.ty c.in-Ok.ensures.shaped c.args.joint (c.requires.ruled ∙ ap Ok (sym c.in-Ok.ensures.ty)))

pub grow_with-requires-clause-shaped : goal.grow_with-requires-clause-shaped
grow_with-requires-clause-shaped g c =
    suited-shaped c.args.pair.target (joint_key c.args.joint c.args.pair.part.ty) c.in-Ok.by c.in-Ok.ensures.adds.key
    (joint-suited c.args.pair.target c.args.pair.part c.in-Ok.by.ty c.in-Ok.ensures.shaped c.args.joint (c.requires.ruled ∙ ap Ok (sym c.in-Ok.ensures.ty)))

pub grow_with-requires-clause-light : goal.grow_with-requires-clause-light
grow_with-requires-clause-light g c =
    let light = joint-light c.args.pair.target c.args.pair.part c.args.ty c.args.joint c.requires.ruled in
    let same = c.in-Ok.ensures.adds.weight in
    omega (arith, light, same)

pub returns-in-Ok-clause-gains : goal.returns-in-Ok-clause-gains
returns-in-Ok-clause-gains g c =
    adds-gains c.args.pair.target (joint_key c.args.joint c.args.pair.part.ty) c.args.pair.part c.in-Ok.by c.in-Ok.ensures.adds c.grow_with.result
    c.grow_with.ensures.grows

pub returns-in-Ok-clause-makes : goal.returns-in-Ok-clause-makes
returns-in-Ok-clause-makes g c a b st sp =
    joint-makes c.args.w.now.leaves.now c.args.pair.target c.args.pair.part a b st sp c.args.joint c.in-Ok.by.key c.args.w.now c.grow_with.new.w
    c.grow_with.result c.in-Ok.ensures.adds.key c.grow_with.ensures.makes

pub returns-in-Ok-clause-stands : goal.returns-in-Ok-clause-stands
returns-in-Ok-clause-stands g c a b st sp =
    adds-stands c.args.pair.target (joint_key c.args.joint c.args.pair.part.ty) c.args.pair.part c.in-Ok.by c.in-Ok.ensures.adds
    c.args.w.now.leaves.now (joint_tree c.args.joint a b) c.grow_with.result c.grow_with.ensures.grows (λ h field part grows.
    joint-stands c.args.w.now.leaves.now c.args.pair.target c.args.pair.part a b st sp c.args.joint h field c.in-Ok.by.ty
    (c.requires.ruled ∙ ap Ok (sym c.in-Ok.ensures.ty)) part grows)

pub returns-in-Err-clause-types : goal.returns-in-Err-clause-types
returns-in-Err-clause-types g c =
    trades-checked (c.args.ty ∷ []) (c.args.pair.target.held ++ c.args.pair.part.held) c.args.w.now c.refuse_with.new.w check.NoMemory c.refuse_with.result
    c.refuse_with.ensures.error c.refuse_with.ensures.types
