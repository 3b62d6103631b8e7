-- The job of a call site: which bootstrap method links it, and what that is given; some static arguments may be dynamic constants (JVMS SE 17, 5.4.3.6).
use Rattle.std.specs.Prelude.{ℕ, List, Option, option_map, slice_get, Ok}
use Rattle.std.specs.Result.{result_ok}
use Rattle.mh_leaf.specs.LeafTable.{LeafTable}
use Rattle.mh_classfile.specs.declared.constant.SiteView.{SiteView}
use Rattle.mh_classfile.specs.Class as class_file
use Rattle.mh_script.specs.declared.script.Script.{Script}
use Rattle.mh_jobs.specs.declared.job.Job.{Job}
use Rattle.mh_jobs.specs.declared.sites.Bootstrap.{Bootstrap}
use Rattle.mh_jobs.specs.Job.{bootstrap_at, bootstrap_method, site_type, text_of}
use Rattle.mh_jobs.specs.Parts.{static_arguments}
use Rattle.mh_jobs.specs.Thrown.{OrThrown, ◌>>=◌}

-- what a call site calls: the method first, then the site's type and name; its static arguments are taken as they are
abbrev pub site_bootstrap : LeafTable → List Script → class_file.Class → ℕ → SiteView → OrThrown Bootstrap
site_bootstrap leaves scripts class first site = do
  bootstrap ← bootstrap_at class site.bootstrap
  method ← bootstrap_method leaves.classes scripts bootstrap.handle
  t ← site_type leaves.classes site
  name ← text_of site.name
  Ok (record { method = method; name = name; ty = t; arguments = static_arguments leaves class first bootstrap.arguments })

-- the job of a call site of a class, which has a number in the run, if the classes before have this many dynamic constants
abbrev pub site_job : LeafTable → List Script → class_file.Class → ℕ → ℕ → SiteView → Job
site_job leaves scripts class first number site = record {
  site = number;
  ty = result_ok (site_type leaves.classes site);
  call = site_bootstrap leaves scripts class first site;
}

-- the job of a class's site k, which has a number in the run
abbrev pub job_of : LeafTable → List Script → class_file.Class → ℕ → ℕ → ℕ → Option Job
job_of leaves scripts class k number first = option_map (site_job leaves scripts class first number) (slice_get class.sites k)
