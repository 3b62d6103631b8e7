-- What runs and ends within the limits of values.
use Rattle.std.specs.Prelude.{List, [], ◌∷◌, Option, Some, None}
use Rattle.mh_values.specs.declared.calls.LeafCall.{LeafCall}
use Rattle.mh_values.specs.declared.value.Outcome.{Outcome}
use Rattle.mh_values.specs.declared.value.Outcome.TheVariants.{Return, Throw}
use Rattle.mh_values.specs.declared.value.Value.{Value}
use Rattle.mh_values.specs.Computation.{Ran, Gave, Threw, Stuck}
use Rattle.mh_values.specs.ValueLimits.{IsValueWithinLimits, AreValuesWithinLimits}

-- a result within its limits, or none
abbrev pub IsResultWithinLimits : Option Value → Type 0
IsResultWithinLimits (Some v) = IsValueWithinLimits v
IsResultWithinLimits None = Unit {0}

-- an outcome whose value is within its limits; an exception carries none
abbrev pub IsOutcomeWithinLimits : Outcome → Type 0
IsOutcomeWithinLimits (Return r) = IsResultWithinLimits r
IsOutcomeWithinLimits (Throw e) = Unit {0}

-- leaf calls, each on arguments within their limits
abbrev pub AreCallsWithinLimits : List LeafCall → Type 0
AreCallsWithinLimits [] = Unit {0}
AreCallsWithinLimits (call ∷ calls) = AreValuesWithinLimits call.args × AreCallsWithinLimits calls

-- a run within the limits: so are its result and the arguments of its leaf calls
abbrev pub IsRunWithinLimits : Ran (Option Value) → Type 0
IsRunWithinLimits (Gave r calls) = IsResultWithinLimits r × AreCallsWithinLimits calls
IsRunWithinLimits (Threw e calls) = AreCallsWithinLimits calls
IsRunWithinLimits Stuck = Unit {0}
