-- A run of one call site.
use Rattle.std.specs.Prelude.{List, [], ◌∷◌}
use Rattle.mh_leaf.specs.LeafTable.{LeafTable}
use Rattle.mh_script.specs.declared.script.Script.{Script}
use Rattle.mh_jobs.specs.declared.job.Job.{Job}
use Rattle.mh_jobs.specs.Given.{Given, nothing_known}

-- what the run of one job is given; there is no dynamic constant
abbrev pub alone : LeafTable → List Script → Job → Given
alone leaves scripts job = record { leaves = leaves; scripts = scripts; jobs = job ∷ []; constants = []; values = nothing_known }
