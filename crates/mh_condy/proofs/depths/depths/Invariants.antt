use Rattle.std.proofs.Common.{◌≡◌}
use Rattle.mh_link.specs.Named.{Constants}
use Rattle.mh_condy.specs.Depths.{AreDepthsWithin}
use Rattle.mh_condy.proofs.depths.depths.Given as goal

abbrev pub invariant-loop-round : goal.invariant-loop-round
invariant-loop-round l = (run : Constants) → l.jobs ≡ run.jobs → AreDepthsWithin run l._round l.depths.items
