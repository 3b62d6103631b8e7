use Rattle.mh_bench.proofs.cells.measured.Given as goal

abbrev pub invariant-loop : goal.invariant-loop
invariant-loop g l = Unit {0}
