use Rattle.mh_bench.proofs.cells.all_learnt.Given as goal

abbrev pub invariant-loop-key : goal.invariant-loop-key
invariant-loop-key g l = Unit {0}
