use Rattle.std.proofs.Common.{◌≡◌, take}
use Rattle.mh_handle.proofs.equality.are_same.Given as goal

abbrev pub invariant-loop-at : goal.invariant-loop-at
invariant-loop-at g l = take l.at l.these ≡ take l.at l.others
