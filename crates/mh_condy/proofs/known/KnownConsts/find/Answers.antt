use Rattle.std.proofs.Common.{◌≡◌, ◌∙◌, ap, length}
use Rattle.mh_condy.proofs.Learning.{known-one}
use Rattle.mh_condy.proofs.known.KnownConsts.find.Goals as goal

pub invariant_of-self : goal.invariant_of-self
invariant_of-self g c =
    let cells : length c.find-found.new.self.cells ≡ length g.J.ConstRun.run.jobs = ap length c.find-found.ensures.learns.cells ∙ c.self.invariant.0 in (
      cells,
      known-one g.J.ConstRun.run c.args.c c.self.inside.known c.find-found.new.self c.find-found.ensures.learns (c.len-count.ensures.values ∙ cells)
          c.self.invariant.1 c.told_at.ensures,
    )
