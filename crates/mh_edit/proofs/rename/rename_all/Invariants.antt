use Rattle.std.proofs.Common.{◌≡◌, ◌++◌, take, map}
use Rattle.mh_edit.specs.Rename.{place_by, renamed}
use Rattle.mh_edit.proofs.rename.rename_all.Given as goal

abbrev pub invariant-loop-name : goal.invariant-loop-name
invariant-loop-name l = l.all ≡ l.fn.before ++ map (renamed (place_by l.to.table.now l.to.base)) (take l.name-index l.name-items)
