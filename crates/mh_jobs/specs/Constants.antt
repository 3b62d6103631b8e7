-- The job of a dynamic constant: which script gives its value, and what the script is given (JVMS SE 17, 4.4.10, 5.1 and 5.4.3.6).
use Rattle.std.specs.Prelude.{◌≡◌, ℕ, ◌+◌, ◌==◌, List, [], ◌∷◌, ◌++◌, codes, length, Option, Some, option_map, slice_get, Result, Ok, Err}
use Rattle.mh_values.specs.declared.class.Class.{Class}
use Rattle.mh_values.specs.declared.descriptor.DescriptorError.{DescriptorError}
use Rattle.mh_values.specs.declared.types.Ty.{Ty}
use Rattle.mh_values.specs.Descriptor.{type_desc}
use Rattle.mh_leaf.specs.LeafTable.{LeafTable}
use Rattle.mh_classfile.specs.declared.constant.DynamicView.{DynamicView}
use Rattle.mh_classfile.specs.declared.constant.HandleRef.{HandleRef}
use Rattle.mh_classfile.specs.Class as class_file
use Rattle.mh_script.specs.declared.script.Script.{Script}
use Rattle.mh_script.specs.declared.scripts.ScriptId.{ScriptId}
use Rattle.mh_jobs.specs.declared.constants.ConstBootstrap.{ConstBootstrap}
use Rattle.mh_jobs.specs.declared.constants.ConstJob.{ConstJob}
use Rattle.mh_jobs.specs.Job.{bootstrap_at, constants_at, method_of, text_of}
use Rattle.mh_jobs.specs.Names.{script_of}
use Rattle.mh_jobs.specs.Parts.{static_arguments, names_of}
use Rattle.mh_jobs.specs.Thrown.{OrThrown, ◌>>=◌, ◌>>◌, require, as_shown, no_one_type, unsupported}

-- the script that a handle names: an `invokestatic` one; what is built in for call sites counts as any other
abbrev pub const_script : List Class → List Script → HandleRef → OrThrown ScriptId
const_script classes scripts h = do
  require (h.kind == 6) (unsupported (codes "constant"))
  script_of as_shown classes scripts (method_of h)

-- the type that a text means, or what is thrown if it means none
abbrev pub one_type : List ℕ → Result Ty DescriptorError → OrThrown Ty
one_type text (Ok t) = Ok t
one_type text (Err error) = Err (no_one_type text error)

-- the type of a constant
abbrev pub const_type : List Class → List ℕ → OrThrown Ty
const_type classes text = one_type text (type_desc classes text)

-- what a Dynamic entry calls: the script first, then its type and its name; its static arguments are taken as they are
abbrev pub const_call : LeafTable → List Script → class_file.Class → ℕ → DynamicView → OrThrown ConstBootstrap
const_call leaves scripts class first d = do
  bootstrap ← bootstrap_at class d.bootstrap
  script ← const_script leaves.classes scripts bootstrap.handle
  t ← const_type leaves.classes d.descriptor
  name ← text_of d.name
  Ok (record { script = script; name = name; ty = t; arguments = static_arguments leaves class first bootstrap.arguments })

-- the job of a Dynamic entry of a class, whose own are numbered from a number on
abbrev pub const_job : LeafTable → List Script → class_file.Class → ℕ → ℕ → DynamicView → ConstJob
const_job leaves scripts class first number d = record {
  number = number;
  names = names_of class first (constants_at class d.bootstrap);
  call = const_call leaves scripts class first d;
}

-- the job of a class's Dynamic entry d
abbrev pub const_job_of : LeafTable → List Script → class_file.Class → ℕ → ℕ → Option ConstJob
const_job_of leaves scripts class d first = option_map (const_job leaves scripts class first (first + d)) (slice_get class.dynamics d)

-- the jobs of Dynamic entries of a class, numbered from a number on
abbrev pub const_jobs_from : LeafTable → List Script → class_file.Class → ℕ → ℕ → List DynamicView → List ConstJob
const_jobs_from leaves scripts class first number [] = []
const_jobs_from leaves scripts class first number (d ∷ dynamics) =
    const_job leaves scripts class first number d ∷ const_jobs_from leaves scripts class first (number + 1) dynamics

-- these jobs and those of a class's Dynamic entries, numbered on
abbrev pub with_constants : LeafTable → List Script → List ConstJob → class_file.Class → List ConstJob
with_constants leaves scripts before class =
    before ++ const_jobs_from leaves scripts class (length before) (length before) class.dynamics

-- the number of each constant is its place
abbrev pub AreNumbered : List ConstJob → Type 0
AreNumbered jobs = (c : ℕ) (job : ConstJob) → slice_get jobs c ≡ Some job → job.number ≡ c
