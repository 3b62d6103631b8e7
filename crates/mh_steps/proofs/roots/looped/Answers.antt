use Rattle.std.proofs.Common.{ap, ◌∙◌, [], ◌++◌, arith}
use Rattle.mh_tree.specs.Tree as tree
use Rattle.mh_handle.proofs.obeying.Going.{goes_on-before, goes_on-both, goes_on-more, seated-back}
use Rattle.mh_handle.proofs.obeying.Rooms.{ready-after}
use Rattle.mh_steps.proofs.Adding.{adds, adds-held, both-back, first-held, second-held, three, types-next}
use Rattle.mh_steps.proofs.Rooms.{some-over, stands-over}
use Rattle.mh_steps.proofs.roots.looped.Goals as goal

pub counted-requires : goal.counted-requires
counted-requires g c =
    let t = c.in_ok-iterations.iterations.held in
    let u = c.in_ok-iterations.init.held in
    let f = c.in-Ok.body.held in
    let seat = c.args.w.now.seat.now in
    let next = c.leaf_at.new.w.seat.now in
    record {
      ready = ready-after 1 1 2 _ _ (omega arith) c.in-Ok.ensures.goes_on
          (ready-after 2 2 4 _ _ (omega arith) c.in_ok-iterations.ensures.goes_on c.requires.ready);
      held = adds-held (t ++ u ++ f) seat next (three t u seat c.two_constants.new.w.seat.now next c.in_ok-iterations.ensures.types f c.in-Ok.ensures.types);
    }

pub returns-in-Ok-clause-goes_on : goal.returns-in-Ok-clause-goes_on
returns-in-Ok-clause-goes_on g c =
    goes_on-both 2 2 _ _ _ c.in_ok-iterations.ensures.goes_on (goes_on-both 1 1 _ _ _ c.in-Ok.ensures.goes_on c.counted.ensures.goes_on)

pub returns-in-Err-clause-goes_on : goal.returns-in-Err-clause-goes_on
returns-in-Err-clause-goes_on g c =
    let a = c.leaf_at.new.w in
    let b = c.give_back.new.w in
    let d = c.give_back-in-Err.new.w in
    goes_on-more 3 4 c.args.w.now d (omega arith)
    (goes_on-both 2 1 c.args.w.now c.two_constants.new.w d c.in_ok-iterations.ensures.goes_on
    (goes_on-before 1 c.two_constants.new.w b d
    (goes_on-before 1 c.two_constants.new.w a b c.in-Err.ensures.goes_on c.give_back.ensures.unchanged
    (seated-back [] c.in_ok-iterations.iterations.held a b c.give_back.ensures.types))
    c.give_back-in-Err.ensures.unchanged (seated-back [] c.in_ok-iterations.init.held b d c.give_back-in-Err.ensures.types)))

pub give_back-requires-clause-held : goal.give_back-requires-clause-held
give_back-requires-clause-held g c =
    first-held c.in_ok-iterations.iterations.held c.in_ok-iterations.init.held c.args.w.now.seat.now c.two_constants.new.w.seat.now c.leaf_at.new.w.seat.now
    c.in_ok-iterations.ensures.types c.in-Err.ensures.types

pub give_back-requires-in-Err-clause-held : goal.give_back-requires-in-Err-clause-held
give_back-requires-in-Err-clause-held g c =
    second-held c.in_ok-iterations.iterations.held c.in_ok-iterations.init.held c.args.w.now.seat.now c.two_constants.new.w.seat.now c.leaf_at.new.w.seat.now
    c.in_ok-iterations.ensures.types c.give_back.new.w.seat.now c.in-Err.ensures.types c.give_back.ensures.types

pub returns-in-Ok-clause-types : goal.returns-in-Ok-clause-types
returns-in-Ok-clause-types g c =
    let t = c.in_ok-iterations.iterations.held in
    let u = c.in_ok-iterations.init.held in
    let f = c.in-Ok.body.held in
    types-next [] (t ++ u ++ f) c.args.w.now c.leaf_at.new.w c.counted.new.w c.counted.result
    (three t u c.args.w.now.seat.now c.two_constants.new.w.seat.now c.leaf_at.new.w.seat.now c.in_ok-iterations.ensures.types f c.in-Ok.ensures.types)
    (adds _ (t ++ u ++ f) c.leaf_at.new.w c.counted.new.w c.counted.result c.counted.ensures.types)

pub returns-in-Err-clause-types : goal.returns-in-Err-clause-types
returns-in-Err-clause-types g c =
    both-back c.in_ok-iterations.iterations.held c.in_ok-iterations.init.held c.args.w.now.seat.now c.two_constants.new.w.seat.now c.leaf_at.new.w.seat.now
    c.in_ok-iterations.ensures.types c.give_back.new.w.seat.now c.give_back-in-Err.new.w.seat.now c.in-Err.ensures.types c.give_back.ensures.types
    c.give_back-in-Err.ensures.types

pub returns-in-Ok-clause-stands : goal.returns-in-Ok-clause-stands
returns-in-Ok-clause-stands g c =
    let last = ap (λ leaves. leaves.now) c.in-Ok.ensures.goes_on.leaves in
    let all = ap (λ leaves. leaves.now) (c.in-Ok.ensures.goes_on.leaves ∙ c.in_ok-iterations.ensures.goes_on.leaves) in
    let iterations = stands-over _ _ c.in_ok-iterations.iterations all c.in_ok-iterations.ensures.one in
    let init = stands-over _ _ c.in_ok-iterations.init all c.in_ok-iterations.ensures.other in
    let body = stands-over _ _ c.in-Ok.body last c.in-Ok.ensures.stands in
    some-over _ _ (tree.Counted iterations.0 init.0 body.0) c.counted.result all
    (c.counted.ensures.stands iterations.0 init.0 body.0 iterations.1 init.1 body.1)
