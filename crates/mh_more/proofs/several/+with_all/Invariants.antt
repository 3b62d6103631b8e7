use Rattle.std.proofs.Common.{vec_len}
use Rattle.mh_more.proofs.several.+with_all.Given as goal

abbrev pub decreases-with_all : goal.decreases-with_all
decreases-with_all l = vec_len l.handles
