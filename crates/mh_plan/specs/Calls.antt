-- The calls that can be made.
use Rattle.std.specs.Prelude.{◌<◌, List, length, All}
use Rattle.mh_values.specs.HasType.{HaveTypes}
use Rattle.mh_leaf.specs.LeafTable.{LeafTable}
use Rattle.mh_jobs.specs.declared.job.Job.{Job}
use Rattle.mh_jobs.specs.Jobs.{params_at}
use Rattle.mh_plan.specs.declared.call.Call.{Call}
use Rattle.mh_plan.specs.declared.call.Call.TheVariants.{Exact, Generic, Indy}

-- a call can be made if its leaf or site exists, and its arguments have the parameter types of its type or of the site's
abbrev pub IsCallOf : LeafTable → List Job → Call → Type 0
IsCallOf leaves jobs (Exact leaf ty args) = (leaf.0 < length leaves.leaves) × HaveTypes leaves.classes args ty.params
IsCallOf leaves jobs (Generic leaf ty args) = (leaf.0 < length leaves.leaves) × HaveTypes leaves.classes args ty.params
IsCallOf leaves jobs (Indy site args) = (site < length jobs) × HaveTypes leaves.classes args (params_at jobs site)

-- the calls of each thread can be made
abbrev pub AreCallsOf : LeafTable → List Job → List (List Call) → Type 0
AreCallsOf leaves jobs threads = All (λ calls. All (IsCallOf leaves jobs) calls) threads
