use Rattle.std.proofs.Common.{◌≡◌, take}
use Rattle.mh_edit.proofs.edit.widened.Given as goal

abbrev pub invariant-loop-place : goal.invariant-loop-place
invariant-loop-place l = l.wide ≡ take l.place-index l.place-items
