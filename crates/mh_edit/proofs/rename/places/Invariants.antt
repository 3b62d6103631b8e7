use Rattle.std.proofs.Common.{◌≡◌, take, map}
use Rattle.mh_edit.specs.Rename.{place_by}
use Rattle.mh_edit.proofs.rename.places.Given as goal

abbrev pub invariant-loop-operand : goal.invariant-loop-operand
invariant-loop-operand l = l.new ≡ map (place_by l.to.table.now l.to.base) (take l.operand-index l.operand-items)
