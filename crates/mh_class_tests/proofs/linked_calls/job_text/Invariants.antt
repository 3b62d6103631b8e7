use Rattle.mh_class_tests.specs.Alone.{alone}
use Rattle.mh_class_tests.proofs.linked_calls.job_text.Given as goal

-- the job is the only one of its run
abbrev pub ghosts-named_text : goal.ghosts-named_text
ghosts-named_text g a = record { given = alone a.start.leaves.now a.scripts.now a.job.now }
