use Rattle.mh_sharing_tests.specs.Built.{run_of}
use Rattle.mh_bench.proofs.constants.passes_split.Given as goal

abbrev pub ghosts-split_on : goal.ghosts-split_on
ghosts-split_on a = record { run = run_of a.built.now }
