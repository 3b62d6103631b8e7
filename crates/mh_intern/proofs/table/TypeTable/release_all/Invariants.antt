use Rattle.std.proofs.Common.{[]}
use Rattle.mh_intern.specs.Exchanges.{Exchanges}
use Rattle.mh_intern.proofs.table.TypeTable.release_all.Given as goal

abbrev pub invariant-loop-hold : goal.invariant-loop-hold
invariant-loop-hold l = Exchanges [] l.yielded [] l.initial.seat l.seat
