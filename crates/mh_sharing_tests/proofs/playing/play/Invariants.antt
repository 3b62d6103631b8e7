use Rattle.std.proofs.Common.{◌≡◌, ◌+◌}
use Rattle.mh_sharing_tests.specs.Hands.{HasInHand}
use Rattle.mh_sharing_tests.proofs.playing.play.Given as goal

abbrev pub invariant-loop : goal.invariant-loop
invariant-loop g l = HasInHand l.table l.hand.0 l.hand.1 × (l.hand.0.room + 1 ≡ l.fn.seat.room)
