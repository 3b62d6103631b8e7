use Rattle.std.proofs.Common.{ℕ, List}
use Rattle.mh_setonce.specs.Index.{AreIndexed}
use Rattle.mh_setonce.proofs.Latest.{Sought}
use Rattle.mh_setonce.proofs.places.latest_below.Given as goal

abbrev pub invariant-loop-place : goal.invariant-loop-place
invariant-loop-place l = (newest : List ℕ) × AreIndexed l.hashes newest l.before × Sought l.hashes newest l.hash l.place l.first

abbrev pub decreases-loop-place : goal.decreases-loop-place
decreases-loop-place l = l.place
