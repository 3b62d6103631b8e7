-- What the call sites of a run are linked to.
use Rattle.std.specs.Prelude.{ℕ, List, [], slice_get}
use Rattle.std.specs.Option.{option_map_or}
use Rattle.mh_values.specs.declared.types.MethodTy.{MethodTy}
use Rattle.mh_values.specs.Class.{illegal_argument_class}
use Rattle.mh_values.specs.Exception.{bare}
use Rattle.mh_tree.specs.Tree.{Tree}
use Rattle.mh_jobs.specs.declared.job.Job.{Job}
use Rattle.mh_jobs.specs.Given.{Given, under}
use Rattle.mh_link.specs.Asking.{asks}
use Rattle.mh_link.specs.Constants.{Serials, values_of}
use Rattle.mh_link.specs.Named.{run_of}
use Rattle.mh_link.specs.Linked.{Linked, Error, linked}
use Rattle.mh_link.specs.Made.{edits, nodes, types_of}
use Rattle.mh_link.specs.Resolved.{arguments_of_site, call_at}

-- what the attempt with a serial number links at a call site of a run; each site has a job
abbrev pub linked_at : Given → ℕ → ℕ → Linked
linked_at given site serial =
    option_map_or (λ job. linked given.leaves given.scripts (call_at given job) serial) (slice_get given.jobs site) (Error (bare illegal_argument_class))

-- the edits of that attempt
abbrev pub edits_at : {K : Type 0} → (Tree → List K) → Given → ℕ → ℕ → List (List K)
edits_at recipe given site serial = option_map_or (λ job. edits recipe given.leaves given.scripts (call_at given job) serial) (slice_get given.jobs site) []

-- the types of the nodes that this attempt makes
abbrev pub types_at : Given → ℕ → ℕ → List MethodTy
types_at given site serial = option_map_or (λ job. types_of given.leaves (nodes given.leaves given.scripts (call_at given job) serial))
    (slice_get given.jobs site) []

-- ---- by serials

-- what a run is given, where constants are what they are by these serials
abbrev pub with_serials : Serials → Given → Given
with_serials table given = under (values_of (run_of given) table) given

-- the constants that the job of a site asks, by these serials
abbrev pub asks_of_job : Given → Serials → Job → List ℕ
asks_of_job given table job = asks (run_of given) table (arguments_of_site job.call)

-- the constants that a call site asks, by these serials
abbrev pub asks_at : Given → Serials → ℕ → List ℕ
asks_at given table site = option_map_or (asks_of_job given table) (slice_get given.jobs site) []
