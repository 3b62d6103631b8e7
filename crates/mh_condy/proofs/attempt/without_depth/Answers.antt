use Rattle.mh_condy.proofs.Calling.{deep-unasked}
use Rattle.mh_condy.proofs.attempt.without_depth.Goals as goal

pub unasked-requires : goal.unasked-requires
unasked-requires g c =
    deep-unasked g.J.ConstRun.run c.args.begun.job.now c.args.begun.serial c.too_deep.result c.requires.named c.requires.depth c.too_deep.ensures
