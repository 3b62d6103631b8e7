use Rattle.std.proofs.Common.{◌≡◌, [], take}
use Rattle.mh_intern.specs.Exchanges.{Exchanges}
use Rattle.mh_intern.proofs.table.TypeTable.dup_all.Given as goal

abbrev pub invariant-loop-hold : goal.invariant-loop-hold
invariant-loop-hold l = record {
  copied : l.copies.items ≡ take l.hold-index l.held;
  exchanges : Exchanges [] [] l.copies.items l.initial.seat l.seat;
}
