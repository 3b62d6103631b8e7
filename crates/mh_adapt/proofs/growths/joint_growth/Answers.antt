use Rattle.mh_adapt.proofs.Joints.{joint-counted}
use Rattle.mh_adapt.proofs.growths.joint_growth.Goals as goal

pub joint_key-requires : goal.joint_key-requires
joint_key-requires c =
    record { counted = joint-counted c.args.target.now c.args.part.now c.args.ty c.ty-ty.ensures.shaped c.args.joint c.requires.ruled }
