use Rattle.std.proofs.Common.{◌≡◌, drop}
use Rattle.mh_form.specs.Run.{picked}
use Rattle.mh_form.proofs.Picks.{picked_on}
use Rattle.mh_form.proofs.slots.pick.Given as goal

-- the slots so far, and the places that are left
abbrev pub invariant-loop-place : goal.invariant-loop-place
invariant-loop-place l = picked l.slots l.place-items ≡ picked_on l.xs (picked l.slots (drop l.place-index l.place-items))
