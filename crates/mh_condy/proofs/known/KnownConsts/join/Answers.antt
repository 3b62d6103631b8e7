use Rattle.std.proofs.Common.{◌≡◌, ◌∙◌, ap, length}
use Rattle.mh_condy.proofs.Learning.{known-join}
use Rattle.mh_condy.proofs.known.KnownConsts.join.Goals as goal

pub invariant_of-self : goal.invariant_of-self
invariant_of-self g c =
    let cells : length c.join.new.self.cells ≡ length g.J.ConstRun.run.jobs = ap length c.join.ensures.cells ∙ c.self.invariant.0 in (
      cells,
      known-join g.J.ConstRun.run c.self.inside.known.values c.other.inside.known.values c.join.new.self.values c.join.ensures.only
          (c.len-count.ensures.values ∙ cells) c.self.invariant.1 c.other.invariant.1,
    )
