use Rattle.mh_sharing_tests.specs.Built.{run_of}
use Rattle.mh_sharing_tests.proofs.constants.rows.answers_of.Given as goal

abbrev pub ghosts-asked : goal.ghosts-asked
ghosts-asked g a = record { run = run_of a.built.now }
