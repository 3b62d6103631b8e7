-- What is printed of a value reads back as the value.
use Rattle.std.specs.Prelude.{ℕ, ◌≤◌, List, length}
use Rattle.mh_values.specs.declared.class.Class.{Class}
use Rattle.mh_values.specs.declared.value.Value.{Value}
use Rattle.mh_values.specs.Classes.{AreClasses}
use Rattle.mh_texts.specs.Spells.{Spells}
use Rattle.mh_texts.specs.Writable.{IsWritable, bare_value}

-- if a value can be written and was not cut, its text spells it, with each exception as its class alone
abbrev pub ReadsBack : List Class → Value → List ℕ → Type 0
ReadsBack classes v shown = AreClasses classes → IsWritable classes v → length shown ≤ 1024 → Spells classes (bare_value v) shown
