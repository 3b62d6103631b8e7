-- For proofs: no clause of a public function reaches these definitions.
-- What descriptors were read as.
use Rattle.std.specs.Prelude.{◌≡◌, ℕ, List, Some}
use Rattle.std.specs.BTreeMap.{BTreeMap}
use Rattle.std.specs.Global.{Vec}
use Rattle.mh_base.specs.TextMaps.{at_text}
use Rattle.mh_values.specs.declared.class.Class.{Class}
use Rattle.mh_values.specs.declared.types.MethodTy.{MethodTy}
use Rattle.mh_jobs.specs.Names.{method_type_of_text}
use Rattle.mh_jobs.specs.Thrown.{OrThrown, as_shown}

-- what stands under a descriptor is its type, or what is thrown in its place
abbrev pub AreTypes : List Class → BTreeMap (Vec ℕ) (OrThrown MethodTy) → Type 0
AreTypes classes types = (text : List ℕ) (ty : OrThrown MethodTy) → at_text types text ≡ Some ty → ty ≡ method_type_of_text as_shown classes text
