-- Runs that keep the limits of values.
use Rattle.std.specs.Prelude.{ℕ, List}
use Rattle.mh_values.specs.declared.value.Value.{Value}
use Rattle.mh_values.specs.ValueLimits.{AreValuesWithinLimits}
use Rattle.mh_leaf.specs.Limits.{IsRunWithinLimits}
use Rattle.mh_tree.specs.Sound.{Body}

-- if its arguments are within the limits, so are its result and the arguments of all leaf calls
abbrev pub KeepsLimits : Body → Type 0
KeepsLimits body = (args : List Value) (n : ℕ) → AreValuesWithinLimits args → IsRunWithinLimits (body args n)
