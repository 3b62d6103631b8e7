use Rattle.std.proofs.Common.{length}
use Rattle.mh_main.proofs.jobs.+read_classes.Given as goal

abbrev pub decreases-read_classes : goal.decreases-read_classes
decreases-read_classes g l = length l.names.now
