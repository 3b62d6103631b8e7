use Rattle.std.proofs.Common.{◌≡◌, ◌-◌, ◌^◌, min, take}
use Rattle.mh_values.specs.Slots.{slots_of_all}
use Rattle.mh_values.proofs.typing.slots.Given as goal

abbrev pub invariant-loop-parameter : goal.invariant-loop-parameter
invariant-loop-parameter l = l.all ≡ min (slots_of_all (take l.parameter-index l.parameter-items)) (2 ^ 32 - 1)
