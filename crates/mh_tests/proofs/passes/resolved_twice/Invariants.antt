use Rattle.mh_runtime.specs.Input.{given_by}
use Rattle.mh_tests.proofs.passes.resolved_twice.Given as goal

abbrev pub ghosts-link_twice : goal.ghosts-link_twice
ghosts-link_twice g a = record { given = given_by a.input.now }
