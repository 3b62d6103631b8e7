use Rattle.mh_sharing_tests.specs.Built.{run_of}
use Rattle.mh_sharing_tests.proofs.constants.racing.race.Given as goal

abbrev pub ghosts-agree_on : goal.ghosts-agree_on
ghosts-agree_on g a = record { run = run_of a.built.now }
