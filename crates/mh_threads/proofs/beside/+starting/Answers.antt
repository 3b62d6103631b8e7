use Rattle.std.proofs.Common.{rules, subst, ◌∷◌}
use Rattle.std.specs.Fork.{AcceptsAt, ChangesAt}
use Rattle.mh_threads.specs.Beside.{AreDoneAt}
use Rattle.mh_threads.proofs.Places.{all-done, first-at, others-at}
use Rattle.mh_threads.proofs.beside.+starting.Goals as goal

pub start_from-start_next-requires-clause-lane : goal.start_from-start_next-requires-clause-lane
start_from-start_next-requires-clause-lane g t c κs within =
    first-at (AcceptsAt g.F.Fn c.args.f.now) c.args.place c.in-Some.lane.now c.in-Some.others.now (search rules)

pub start_from-start_next-requires-clause-others : goal.start_from-start_next-requires-clause-others
start_from-start_next-requires-clause-others g t c κs within =
    others-at (AcceptsAt g.F.Fn c.args.f.now) c.args.place c.in-Some.lane.now c.in-Some.others.now (search rules)

pub start_from-returns : goal.start_from-returns
start_from-returns g t c =
    subst (λ before. AreDoneAt (ChangesAt g.F.Fn c.args.f.now) c.args.place before (c.start_next.new.lane ∷ c.start_next.new.others)) (search rules)
    (all-done (ChangesAt g.F.Fn c.args.f.now) c.args.place c.in-Some.lane.now c.start_next.new.lane c.in-Some.others.now c.start_next.new.others
    c.start_next.ensures.lane.here c.start_next.ensures.others)
