use Rattle.std.proofs.Common.{◌≡◌, ◌++◌, take}
use Rattle.mh_edit.proofs.names.push_all.Given as goal

abbrev pub invariant-loop-basic : goal.invariant-loop-basic
invariant-loop-basic l = l.to ≡ l.initial.to ++ take l.basic-index l.from
