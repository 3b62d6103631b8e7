use Rattle.std.proofs.Common.{◌+◌}
use Rattle.mh_handle.specs.Joins.{split_room}
use Rattle.mh_handle.specs.Works.{IsReady}
use Rattle.mh_bench.proofs.forms.splits.Given as goal

-- the pass may be split
abbrev pub invariant-loop : goal.invariant-loop
invariant-loop g l = IsReady l.w (1 + split_room)
