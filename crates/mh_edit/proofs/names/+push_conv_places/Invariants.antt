use Rattle.std.proofs.Common.{length}
use Rattle.mh_edit.proofs.names.+push_conv_places.Given as goal

-- each call looks at one entry less
abbrev pub decreases-push_conv_places : goal.decreases-push_conv_places
decreases-push_conv_places l = length l.entries.now
