use Rattle.std.proofs.Common.{[], vec_len}
use Rattle.mh_intern.specs.Exchanges.{Exchanges}
use Rattle.mh_handle.specs.Works.{IsUnchanged}
use Rattle.mh_more.specs.Several.{holds_of}
use Rattle.mh_more.proofs.several.give_back_all.Given as goal

-- the types of the handles that are left are held still, in the place of all
abbrev pub invariant-loop-last : goal.invariant-loop-last
invariant-loop-last l =
    IsUnchanged l.initial.w l.w × Exchanges [] (holds_of l.initial.handles.items) (holds_of l.handles.items) l.initial.w.seat.now l.w.seat.now

abbrev pub decreases-loop-last : goal.decreases-loop-last
decreases-loop-last l = vec_len l.handles
