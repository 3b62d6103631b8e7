-- Call sites of the worked examples: the leaf `add` of `demo/Host`, and one site of a class, with one script.
use Rattle.std.specs.Prelude.{ℕ, ℤ, false, List, [], ◌∷◌, ◌++◌, codes, Some}
use Rattle.mh_values.specs.declared.class.ClassId.{ClassId}
use Rattle.mh_values.specs.declared.value.Num.TheVariants as num
use Rattle.mh_values.specs.declared.value.Value.{Value}
use Rattle.mh_values.specs.declared.value.Value.TheVariants as value
use Rattle.mh_values.specs.Class.{builtin_classes, class_at, class_below}
pub use Rattle.mh_values.proofs.SameTypes.{method_type as of}
use Rattle.mh_leaf.specs.declared.leaf.Kind.TheVariants as kind
use Rattle.mh_leaf.specs.LeafTable.{LeafTable}
use Rattle.mh_leaf.specs.Outcome.{int_type}
use Rattle.mh_classfile.specs.declared.constant.Constant.{Constant}
use Rattle.mh_classfile.specs.declared.constant.HandleRef.{HandleRef}
use Rattle.mh_classfile.specs.declared.constant.SiteView.{SiteView}
use Rattle.mh_classfile.specs.Class as class_file
use Rattle.mh_script.specs.declared.operand.Register.TheVariants as register
use Rattle.mh_script.specs.declared.script.End.TheVariants as end
use Rattle.mh_script.specs.declared.script.Script.{Script}
use Rattle.mh_jobs.specs.declared.job.Job.{Job}
use Rattle.mh_jobs.specs.declared.sites.Bootstrap.{Bootstrap}
use Rattle.mh_jobs.specs.Sites.{site_job}
use Rattle.mh_jobs.specs.Thrown.{OrThrown}

-- ---- leaves

-- `demo/Host`
abbrev pub host_class : ClassId
host_class = class_at 28

-- `static demo/Host add (II)I iadd`
abbrev pub host : LeafTable
host = record {
  classes = builtin_classes ++ class_below (codes "demo/Host") 0 ∷ [];
  leaves = record {
    owner = host_class;
    name = codes "add";
    descriptor = codes "(II)I";
    is_virtual = false;
    ty = of (int_type ∷ int_type ∷ []) (Some int_type);
    kind = kind.Iadd;
  } ∷ [];
}

-- a boxed int
abbrev pub boxed_int : ℤ → Value
boxed_int n = value.Boxed (num.I n)

-- ---- call sites

-- the descriptor of bootstrap methods
abbrev pub bootstrap_descriptor : List ℕ
bootstrap_descriptor =
    codes "(Ljava/lang/invoke/MethodHandles$Lookup;Ljava/lang/String;Ljava/lang/invoke/MethodType;)Ljava/lang/invoke/CallSite;"

-- the script `made/Boot.link`
abbrev pub link : Script
link = record {
  method = record { owner = codes "made/Boot"; name = codes "link"; descriptor = bootstrap_descriptor };
  steps = [];
  end = end.Return (register.Argument 0);
}

-- a reference of a kind to a method
abbrev pub handle_to : ℕ → List ℕ → List ℕ → List ℕ → HandleRef
handle_to kind owner name descriptor = record { kind = kind; owner = owner; name = name; descriptor = descriptor }

-- a site of a name and a type
abbrev pub site_of : List ℕ → List ℕ → SiteView
site_of name descriptor = record {
  method = codes "run";
  method_descriptor = codes "()V";
  pc = 0;
  bootstrap = 0;
  name = name;
  descriptor = descriptor;
}

-- the bootstrap method `made/Boot.link`, with static arguments
abbrev pub booted : List Constant → class_file.Bootstrap
booted arguments = record { handle = handle_to 6 (codes "made/Boot") (codes "link") bootstrap_descriptor; arguments = arguments }

-- a bootstrap method without static arguments
abbrev pub bare : HandleRef → class_file.Bootstrap
bare handle = record { handle = handle; arguments = [] }

-- the class of a site and its bootstrap method
abbrev pub class_of : SiteView → class_file.Bootstrap → class_file.Class
class_of site bootstrap = record { constants = []; dynamics = []; sites = site ∷ []; bootstraps = bootstrap ∷ [] }

-- the job of a site of a name and a type, which is the first of the run
abbrev pub job_with : List ℕ → List ℕ → class_file.Bootstrap → Job
job_with name descriptor bootstrap = site_job host (link ∷ []) (class_of (site_of name descriptor) bootstrap) 0 0 (site_of name descriptor)

-- what the site `f` of a type calls
abbrev pub call_with : List ℕ → class_file.Bootstrap → OrThrown Bootstrap
call_with descriptor bootstrap = (job_with (codes "f") descriptor bootstrap).call
