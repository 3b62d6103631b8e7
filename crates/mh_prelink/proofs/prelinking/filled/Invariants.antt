use Rattle.std.proofs.Common.{◌≡◌, ◌≤◌, []}
use Rattle.std.specs.List.{range_with_len}
use Rattle.crossbeam_deque.specs.Handles.{worker_flavor, worker_view, worker_capacity, worker_index}
use Rattle.mh_prelink.specs.Tallies.{tally, whole}
use Rattle.mh_prelink.proofs.prelinking.filled.Given as goal

abbrev pub invariant-loop-number : goal.invariant-loop-number
invariant-loop-number g l = record {
  flavor : worker_flavor l.owner ≡ 0;
  view : worker_view l.owner ≡ tally whole (range_with_len 0 l.number) [];
  index : worker_index l.owner ≡ l.number;
  room : l.count ≤ worker_capacity l.owner;
}
