-- A lane is taken of those that were run.
use Rattle.std.proofs.Common.{◌≡◌, sym, subst, ◌<◌, List, length, get_or, arith}
use Rattle.std.specs.Prelude.{slice_index_or}
use Rattle.mh_threads.specs.Lanes.{HaveRun}

module _ {L : Type 0} (done : L → L → Type 0) (before all yielded : List L) (lane : L) (ran : HaveRun done before all) where
  pub lane-within : length yielded < length all → length yielded < length before
  lane-within within = omega (arith, within, ran.count)

  pub lane-done : (length yielded < length all) × (lane ≡ get_or all (length yielded) lane) → done (slice_index_or before (length yielded) lane) lane
  lane-done taken =
      subst (done (slice_index_or before (length yielded) lane)) (sym taken.1) (ran.each (length yielded) lane (lane-within taken.0))
