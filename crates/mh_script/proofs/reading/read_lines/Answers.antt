use Rattle.std.proofs.Common.{arith}
use Rattle.std.proofs.lemmas.Grind.{common_steps}
use Rattle.mh_script.proofs.Runnable.{line-stands}
use Rattle.mh_script.proofs.reading.read_lines.Goals as goal

pub loop-at-preserved : goal.loop-at-preserved
loop-at-preserved c = (
  grind (arith, common_steps),
  search (line-stands, c.loop-at.invariant.1, c.in-Ok.ensures),
)
