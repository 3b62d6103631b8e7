use Rattle.std.proofs.Common.{arith}
use Rattle.std.proofs.lemmas.Grind.{common_steps}
use Rattle.mh_edit.proofs.Ranges.{pushed-more}
use Rattle.mh_edit.proofs.names.push_range.Goals as goal

pub loop-k-preserved : goal.loop-k-preserved
loop-k-preserved c =
    pushed-more c.args.places.now c.loop-k.places c.push.new.self c.args.from c.loop-k.k c.loop-k.invariant (grind (arith, common_steps))
