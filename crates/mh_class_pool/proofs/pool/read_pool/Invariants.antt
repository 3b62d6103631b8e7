use Rattle.std.proofs.Common.{◌-◌, vec_len}
use Rattle.mh_class_pool.proofs.PoolLoop.{IsReading}
use Rattle.mh_class_pool.proofs.pool.read_pool.Given as goal

abbrev pub invariant-loop-cursor : goal.invariant-loop-cursor
invariant-loop-cursor l = IsReading l.fn.cursor l.cursor l.slots.items l.dynamics.items l.count

abbrev pub decreases-loop-cursor : goal.decreases-loop-cursor
decreases-loop-cursor l = l.count - vec_len l.slots
