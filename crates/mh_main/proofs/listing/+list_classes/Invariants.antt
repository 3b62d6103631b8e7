use Rattle.std.proofs.Common.{length}
use Rattle.mh_main.proofs.listing.+list_classes.Given as goal

abbrev pub decreases-list_classes : goal.decreases-list_classes
decreases-list_classes g l = length l.names.now
