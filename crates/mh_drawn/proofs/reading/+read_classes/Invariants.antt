use Rattle.std.proofs.Common.{length}
use Rattle.mh_drawn.proofs.reading.+read_classes.Given as goal

-- each call reads one class file less
abbrev pub decreases-read_classes : goal.decreases-read_classes
decreases-read_classes g l = length l.names.now
