use Rattle.std.proofs.Common.{◌≡◌, ◌≤◌, ◌*◌, take, sum_by}
use Rattle.mh_leaf.specs.Outcome.{units_of}
use Rattle.mh_leaf.proofs.text.units.Given as goal

abbrev pub invariant-loop-character : goal.invariant-loop-character
invariant-loop-character l =
    (l.units ≡ sum_by units_of (take l.character-index l.text)) × (l.units ≤ 2 * l.character-index)
