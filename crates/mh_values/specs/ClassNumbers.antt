-- The map by which a class is found by its name.
use Rattle.std.specs.Prelude.{◌≡◌, ℕ, List, ◌<◌, Option, Some}
use Rattle.std.specs.BTreeMap.{BTreeMap, get_by}
use Rattle.std.specs.Cmp.Lexicographic.{slice_cmp}
use Rattle.std.specs.Global.{Vec}
use Rattle.std.specs.Ordering.{nat_cmp}
use Rattle.mh_values.specs.declared.class.Class.{Class}
use Rattle.mh_values.specs.declared.class.ClassId.{ClassId}
use Rattle.mh_values.specs.Classes.{class_named, AreOrdered}

-- what the map has at a name
abbrev pub class_number : BTreeMap (Vec ℕ) ClassId → List ℕ → Option ClassId
class_number numbers name = get_by (λ k. slice_cmp nat_cmp name k.items) numbers

-- a superclass, if there is one, has a number below this one
abbrev pub IsWithin : ℕ → Option ClassId → Type 0
IsWithin n superclass = (b : ClassId) → superclass ≡ Some b → b.0 < n

-- classes in order, and a map that finds each of them by its name
pub record IsRegistry (numbers : BTreeMap (Vec ℕ) ClassId) (classes : List Class) : Type 0 where
  pub ordered : AreOrdered classes
  pub found : (name : List ℕ) → class_number numbers name ≡ class_named classes name
