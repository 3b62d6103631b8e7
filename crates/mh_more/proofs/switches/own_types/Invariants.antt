use Rattle.std.proofs.Common.{◌≡◌, take}
use Rattle.mh_more.specs.Several.{own_types}
use Rattle.mh_more.proofs.switches.own_types.Given as goal

abbrev pub invariant-loop-handle : goal.invariant-loop-handle
invariant-loop-handle l = l.types ≡ own_types (take l.handle-index l.handles)
