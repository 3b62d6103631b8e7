use Rattle.std.proofs.Common.{◌+◌, ◌*◌, length}
use Rattle.mh_threads.proofs.beside.+starting.Given as goal

abbrev pub decreases-start_from : goal.decreases-start_from
decreases-start_from g l = 3 * length l.lanes.now

abbrev pub decreases-start_next : goal.decreases-start_next
decreases-start_next g l = 3 * length l.others.now + 2

abbrev pub decreases-start_next-rest : goal.decreases-start_next-rest
decreases-start_next-rest g l = 3 * length l.others.now + 1
