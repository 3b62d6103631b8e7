-- Call sites of the worked examples: one site of a class, with one script.
use Rattle.std.specs.Prelude.{ℕ, List, [], ◌∷◌, codes, Result, Err}
use Rattle.mh_values.specs.declared.types.MethodTy.{MethodTy}
use Rattle.mh_values.specs.declared.value.Exc.{Exc}
use Rattle.mh_classfile.specs.declared.constant.Constant.{Constant}
use Rattle.mh_tree.specs.Tree.{Tree}
use Rattle.mh_tree.specs.Typing.{type_of}
use Rattle.mh_script.specs.declared.operand.Register.{Register}
use Rattle.mh_script.specs.declared.operand.Register.TheVariants as register
use Rattle.mh_script.specs.declared.script.End.{End}
use Rattle.mh_script.specs.declared.script.End.TheVariants as end
use Rattle.mh_script.specs.declared.script.MethodName.{MethodName}
use Rattle.mh_script.specs.declared.script.Operation.{Operation}
use Rattle.mh_script.specs.declared.script.Operation.TheVariants as operation
use Rattle.mh_script.specs.declared.script.Script.{Script}
use Rattle.mh_script.specs.declared.script.Step.{Step}
use Rattle.mh_jobs.specs.declared.job.BootstrapCall.{BootstrapCall}
use Rattle.mh_jobs.specs.declared.job.Job.{Job}
use Rattle.mh_jobs.specs.Given.{nothing_known}
use Rattle.mh_jobs.specs.Sites.{site_job}
use Rattle.mh_jobs.specs.Thrown.{OrThrown, caused}
use Rattle.mh_jobs.proofs.Host.{bootstrap_descriptor, site_of, booted, class_of}
use Rattle.mh_link.specs.Linked.{Linked, Target, Error, linked}
use Rattle.mh_link.specs.Made.{nodes}
use Rattle.mh_link.specs.Resolved.{call_under}
pub use Rattle.mh_link.proofs.worked.HostLeaves.{ints, runtime, two_ints, static_leaf, host, leaf, boxed_int, boxed_long}

-- ---- lines

-- a name of a method
abbrev pub method : List ℕ → List ℕ → List ℕ → MethodName
method owner name descriptor = record { owner = owner; name = name; descriptor = descriptor }

-- `leaf demo/Host.NAME:DESC`
abbrev pub host_leaf : List ℕ → List ℕ → Operation
host_leaf name descriptor = operation.Leaf (method (codes "demo/Host") name descriptor)

-- `leaf @add`, and likewise the others
abbrev pub add : Operation
add = host_leaf (codes "add") (codes "(II)I")

abbrev pub sub : Operation
sub = host_leaf (codes "sub") (codes "(II)I")

abbrev pub tick : Operation
tick = host_leaf (codes "tick") (codes "(I)I")

abbrev pub same : Operation
same = host_leaf (codes "same") (codes "(I)I")

abbrev pub nothing : Operation
nothing = host_leaf (codes "nothing") (codes "()V")

-- a register that a line assigns
abbrev pub reg : List ℕ → Register
reg name = register.Assigned name

-- a static argument
abbrev pub arg : ℕ → Register
arg n = register.Argument n

-- `return NAME`
abbrev pub returns : List ℕ → End
returns name = end.Return (reg name)

-- ---- attempts

-- the script `made/Boot.link` of these lines
abbrev pub script : List Step → End → Script
script steps e = record { method = method (codes "made/Boot") (codes "link") bootstrap_descriptor; steps = steps; end = e }

-- the job of the site `f` of a type, with static arguments and a script
abbrev pub job_with : List ℕ → List Constant → Script → Job
job_with descriptor arguments s =
    let site = site_of (codes "f") descriptor in site_job host (s ∷ []) (class_of site (booted arguments)) 0 0 site

-- its call, where nothing is known of any constant
abbrev pub call_with : List ℕ → List Constant → Script → OrThrown BootstrapCall
call_with descriptor arguments s = call_under nothing_known (job_with descriptor arguments s).call

-- what the attempt of a serial number links at such a site
abbrev pub attempt_with : ℕ → List ℕ → List Constant → List Step → End → Linked
attempt_with serial descriptor arguments steps e =
    linked host (script steps e ∷ []) (call_with descriptor arguments (script steps e)) serial

-- what the first attempt links
abbrev pub links_with : List ℕ → List Constant → List Step → End → Linked
links_with descriptor arguments steps e = attempt_with 1 descriptor arguments steps e

-- what the first attempt links without static arguments
abbrev pub links : List ℕ → List Step → End → Linked
links descriptor steps e = links_with descriptor [] steps e

-- the nodes that the first attempt makes
abbrev pub nodes_with : List ℕ → List Constant → List Step → End → List Tree
nodes_with descriptor arguments steps e = nodes host (script steps e ∷ []) (call_with descriptor arguments (script steps e)) 1

-- the type that is linked, or the error
abbrev pub type_linked : Linked → Result MethodTy Exc
type_linked (Target t) = type_of host t
type_linked (Error e) = Err e

-- an error with its cause
abbrev pub failed : Exc → Linked
failed e = Error (caused e)
