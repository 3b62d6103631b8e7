use Rattle.std.proofs.Common.{◌≡◌, ◌+◌, ◌*◌, ◌<◌}
use Rattle.mh_condy.specs.Passes.{split_room}
use Rattle.mh_bench.proofs.constants.split_off.Given as goal

-- each turn takes as much room
abbrev pub invariant-loop-turn : goal.invariant-loop-turn
invariant-loop-turn g l = record {
  table : l.pass.table ≡ l.table;
  room : 1024 * split_room < l.pass.seat.room + l.turn * split_room;
}
