use Rattle.std.proofs.Common.{arith}
use Rattle.mh_intern.proofs.Closing.{counted_more}
use Rattle.mh_intern.proofs.holders.slots_in_use.Goals as goal

pub loop-i-preserved : goal.loop-i-preserved
loop-i-preserved c =
    let m = counted_more _ c.loop-i.i c.word.result c.from-count.result c.word.ensures c.from-count.ensures in
    let i = c.loop-i.invariant in
    (omega (arith, m.0, i.0), omega (arith, m.1, i.1))
