use Rattle.std.proofs.Common.{◌≡◌, take}
use Rattle.mh_handle.proofs.walks.FormWalks.copy.Given as goal

abbrev pub invariant-loop-walk : goal.invariant-loop-walk
invariant-loop-walk l = l.walks.items ≡ take l.walk-index l.self
