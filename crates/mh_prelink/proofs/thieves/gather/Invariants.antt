use Rattle.std.proofs.Common.{◌≡◌, ◌+◌, ◌++◌, map, flat_map, length, vec_len, vec_capacity}
use Rattle.crossbeam_deque.specs.Handles.{worker_view, SameWorker}
use Rattle.mh_prelink.specs.Tallies.{tally}
use Rattle.mh_prelink.specs.Steps.{done_by}
use Rattle.mh_prelink.proofs.thieves.gather.Given as goal

abbrev pub invariant-loop-lane : goal.invariant-loop-lane
invariant-loop-lane g l = record {
  same : SameWorker l.initial.owner l.owner;
  tallies : worker_view l.owner ≡ tally ((worker_view l.initial.owner).parts + length l.yielded) (worker_view l.initial.owner).put
      ((worker_view l.initial.owner).taken ++ flat_map (λ x. x.work.taken.items) l.yielded);
  workers : l.workers.items ≡ l.initial.workers.items ++ map (λ x. done_by x.work) l.yielded;
  len : vec_len l.workers ≡ vec_len l.initial.workers + length l.yielded;
  capacity : vec_capacity l.workers ≡ vec_capacity l.initial.workers;
}
