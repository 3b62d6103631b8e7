use Rattle.std.proofs.Common.{length}
use Rattle.mh_values.proofs.typing.+have_types.Given as goal

-- each call looks at one value less
abbrev pub decreases-have_types : goal.decreases-have_types
decreases-have_types l = length l.values.now
