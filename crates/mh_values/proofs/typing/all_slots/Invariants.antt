use Rattle.std.proofs.Common.{◌≡◌, ◌≤◌, ◌*◌, take, sum_by}
use Rattle.mh_values.specs.Slots.{slots_of}
use Rattle.mh_values.proofs.typing.all_slots.Given as goal

abbrev pub invariant-loop-parameter : goal.invariant-loop-parameter
invariant-loop-parameter l = (l.all ≡ sum_by slots_of (take l.parameter-index l.types)) × (l.all ≤ 2 * l.parameter-index)
