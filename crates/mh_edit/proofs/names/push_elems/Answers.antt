use Rattle.std.proofs.Common.{arith}
use Rattle.std.proofs.lemmas.Grind.{common_steps}
use Rattle.mh_edit.proofs.Ranges.{elems-more}
use Rattle.mh_edit.proofs.names.push_elems.Goals as goal

pub loop-item-preserved : goal.loop-item-preserved
loop-item-preserved c =
    elems-more c.args.names.now c.loop-item.names c.push.new.self c.args.array c.loop-item.item c.loop-item.invariant (grind (arith, common_steps))
