use Rattle.mh_sharing_tests.specs.Built.{run_of}
use Rattle.mh_bench.proofs.constants.resolved_again.Given as goal

abbrev pub ghosts-resolved : goal.ghosts-resolved
ghosts-resolved g a = record { run = run_of a.built.now }
