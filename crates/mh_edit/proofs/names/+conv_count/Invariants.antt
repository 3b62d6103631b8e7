use Rattle.std.proofs.Common.{length}
use Rattle.mh_edit.proofs.names.+conv_count.Given as goal

-- each call looks at one entry less
abbrev pub decreases-conv_count : goal.decreases-conv_count
decreases-conv_count l = length l.entries.now
