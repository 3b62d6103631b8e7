-- The jobs of call sites, in order.
use Rattle.std.specs.Prelude.{◌≡◌, ℕ, ◌+◌, List, [], ◌∷◌, ◌++◌, length, Option, Some, slice_get, option_and_then}
use Rattle.std.specs.Option.{option_map_or}
use Rattle.mh_values.specs.declared.types.MethodTy.{MethodTy}
use Rattle.mh_values.specs.declared.types.Ty.{Ty}
use Rattle.mh_leaf.specs.LeafTable.{LeafTable}
use Rattle.mh_classfile.specs.declared.constant.SiteView.{SiteView}
use Rattle.mh_classfile.specs.Class as class_file
use Rattle.mh_script.specs.declared.script.Script.{Script}
use Rattle.mh_jobs.specs.declared.job.Job.{Job}
use Rattle.mh_jobs.specs.Sites.{site_job}

-- the jobs of call sites of a class, numbered from a number on, if the classes before have this many dynamic constants
abbrev pub jobs_from : LeafTable → List Script → class_file.Class → ℕ → ℕ → List SiteView → List Job
jobs_from leaves scripts class first number [] = []
jobs_from leaves scripts class first number (site ∷ sites) =
    site_job leaves scripts class first number site ∷ jobs_from leaves scripts class first (number + 1) sites

-- these jobs and those of a class's call sites, numbered on
abbrev pub with_sites : LeafTable → List Script → ℕ → List Job → class_file.Class → List Job
with_sites leaves scripts first jobs class = jobs ++ jobs_from leaves scripts class first (length jobs) class.sites

-- the jobs are these, and more after them
abbrev pub HasMore : List Job → List Job → Type 0
HasMore before jobs = (more : List Job) × (jobs ≡ before ++ more)

-- the number of each call site is its place
abbrev pub AreInPlace : List Job → Type 0
AreInPlace jobs = (k : ℕ) (job : Job) → slice_get jobs k ≡ Some job → job.site ≡ k

-- the type of a call site, if it can be read
abbrev pub type_at : List Job → ℕ → Option MethodTy
type_at jobs site = option_and_then (λ job. job.ty) (slice_get jobs site)

-- the types of the arguments that a call of a site takes; it takes none if the site's type cannot be read
abbrev pub params_at : List Job → ℕ → List Ty
params_at jobs site = option_map_or (λ t. t.params) (type_at jobs site) []
