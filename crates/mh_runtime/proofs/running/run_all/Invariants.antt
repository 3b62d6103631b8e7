use Rattle.mh_runtime.specs.Input.{given_by}
use Rattle.mh_runtime.proofs.running.run_all.Given as goal

abbrev pub ghosts-run_named : goal.ghosts-run_named
ghosts-run_named g a = record { given = given_by a.input.now.given.now }
