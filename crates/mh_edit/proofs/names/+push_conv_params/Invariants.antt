use Rattle.std.proofs.Common.{length}
use Rattle.mh_edit.proofs.names.+push_conv_params.Given as goal

-- each call looks at one entry less
abbrev pub decreases-push_conv_params : goal.decreases-push_conv_params
decreases-push_conv_params l = length l.entries.now
