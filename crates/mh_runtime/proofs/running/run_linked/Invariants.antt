use Rattle.mh_runtime.specs.Bases.{base_of}
use Rattle.mh_runtime.proofs.running.run_linked.Given as goal

abbrev pub ghosts-run_pass : goal.ghosts-run_pass
ghosts-run_pass g a = record { base = base_of a.pass }
