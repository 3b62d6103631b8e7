-- Runs of the worked examples: call sites of one class, which one script links, over the leaf `add` of `demo/Host`.
use Rattle.std.specs.Prelude.{ℕ, List, [], ◌∷◌, codes, map, pos, Some}
use Rattle.mh_values.specs.declared.types.MethodTy.{MethodTy}
use Rattle.mh_values.specs.declared.value.LeafId.{LeafId}
use Rattle.mh_values.specs.declared.value.Num.TheVariants as num
use Rattle.mh_values.specs.declared.value.Value.{Value}
use Rattle.mh_values.specs.declared.value.Value.TheVariants as value
use Rattle.mh_leaf.specs.Outcome.{int_type}
use Rattle.mh_classfile.specs.Class as class_file
use Rattle.mh_script.specs.declared.script.Script.{Script}
use Rattle.mh_jobs.specs.Given.{Given, nothing_known}
use Rattle.mh_jobs.specs.RunJobs.{jobs_of}
use Rattle.mh_jobs.proofs.Host.{of, host, site_of, booted}

-- a class whose sites have these types
abbrev pub class_with : List (List ℕ) → class_file.Class
class_with types = record { constants = []; dynamics = []; sites = map (site_of (codes "f")) types; bootstraps = booted [] ∷ [] }

-- a run whose sites have these types, and are linked by a script
abbrev pub given_with : Script → List (List ℕ) → Given
given_with s types = record {
  leaves = host;
  scripts = s ∷ [];
  jobs = (jobs_of host (s ∷ []) (class_with types ∷ [])).sites;
  constants = [];
  values = nothing_known;
}

-- an int
abbrev pub int : ℕ → Value
int n = value.Prim (num.I (pos n))

-- `(II)I`
abbrev pub adds : MethodTy
adds = of (int_type ∷ int_type ∷ []) (Some int_type)

-- the leaf `add`
abbrev pub add_leaf : LeafId
add_leaf = record { 0 = 0 }
