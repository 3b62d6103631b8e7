use Rattle.std.proofs.Common.{◌+◌, ap, ◌∙◌, length, [], ◌++◌, arith}
use Rattle.mh_tree.specs.Tree as tree
use Rattle.mh_more.specs.Several.{holds_of}
use Rattle.mh_handle.proofs.obeying.Going.{goes_on-before, goes_on-both, goes_on-more, seated-back}
use Rattle.mh_handle.proofs.obeying.Rooms.{ready-after, ready-less}
use Rattle.mh_steps.proofs.Adding.{adds, adds-both, adds-held, adds-next, adds-still, adds-yet, types-next}
use Rattle.mh_steps.proofs.Listing.{stand-over}
use Rattle.mh_steps.proofs.Rooms.{some-over, stands-over}
use Rattle.mh_steps.proofs.roots.switched.Goals as goal

pub leaves_at-requires : goal.leaves_at-requires
leaves_at-requires g c =
    record {
      ready =
          ready-less c.leaf_at.new.w 18 (length c.args.cases.now) (omega (arith, c.if-cases-gt-MOST_CASES.false))
          (ready-after 1 18 19 c.args.w.now c.leaf_at.new.w (omega arith) c.leaf_at.ensures.goes_on c.requires.ready);
    }

pub switch-requires : goal.switch-requires
switch-requires g c =
    let f = c.in_ok-fallback.fallback.held in
    let cs = holds_of c.in-Ok.cases in
    let seat = c.args.w.now.seat.now in
    let late = c.leaves_at.new.w.seat.now in
    record {
      ready =
          ready-after (length c.args.cases.now) 1 18 c.leaf_at.new.w c.leaves_at.new.w (omega (arith, c.if-cases-gt-MOST_CASES.false)) c.in-Ok.ensures.goes_on
          (ready-after 1 18 19 c.args.w.now c.leaf_at.new.w (omega arith) c.leaf_at.ensures.goes_on c.requires.ready);
      held =
          adds-held (f ++ cs) seat late (adds-both f cs seat c.leaf_at.new.w.seat.now late c.in_ok-fallback.ensures.types c.in-Ok.ensures.types);
    }

pub give_back-requires-clause-held : goal.give_back-requires-clause-held
give_back-requires-clause-held g c =
    adds-yet [] c.in_ok-fallback.fallback.held c.leaf_at.new.w.seat.now c.leaves_at.new.w.seat.now c.in-Err.ensures.types
    (adds-held c.in_ok-fallback.fallback.held c.args.w.now.seat.now c.leaf_at.new.w.seat.now c.in_ok-fallback.ensures.types)

pub returns-in-Ok-clause-goes_on : goal.returns-in-Ok-clause-goes_on
returns-in-Ok-clause-goes_on g c =
    let n = length c.args.cases.now in
    goes_on-more (1 + (n + 1)) 19 c.args.w.now c.switch.new.w (omega (arith, c.if-cases-gt-MOST_CASES.false))
    (goes_on-both 1 (n + 1) c.args.w.now c.leaf_at.new.w c.switch.new.w c.leaf_at.ensures.goes_on
    (goes_on-both n 1 c.leaf_at.new.w c.leaves_at.new.w c.switch.new.w c.leaves_at.ensures.goes_on c.switch.ensures.goes_on))

pub returns-in-Err-clause-goes_on : goal.returns-in-Err-clause-goes_on
returns-in-Err-clause-goes_on g c =
    let n = length c.args.cases.now in
    goes_on-more (1 + n) 19 c.args.w.now c.give_back.new.w (omega (arith, c.if-cases-gt-MOST_CASES.false))
    (goes_on-before (1 + n) c.args.w.now c.leaves_at.new.w c.give_back.new.w
    (goes_on-both 1 n c.args.w.now c.leaf_at.new.w c.leaves_at.new.w c.leaf_at.ensures.goes_on c.leaves_at.ensures.goes_on)
    c.give_back.ensures.unchanged (seated-back [] c.in_ok-fallback.fallback.held c.leaves_at.new.w c.give_back.new.w c.give_back.ensures.types))

pub returns-in-Ok-clause-types : goal.returns-in-Ok-clause-types
returns-in-Ok-clause-types g c =
    let f = c.in_ok-fallback.fallback.held in
    let cs = holds_of c.in-Ok.cases in
    types-next [] (f ++ cs) c.args.w.now c.leaves_at.new.w c.switch.new.w c.switch.result
    (adds-both f cs c.args.w.now.seat.now c.leaf_at.new.w.seat.now c.leaves_at.new.w.seat.now c.in_ok-fallback.ensures.types c.in-Ok.ensures.types)
    (adds _ (f ++ cs) c.leaves_at.new.w c.switch.new.w c.switch.result c.switch.ensures.types)

pub returns-in-Err-clause-types : goal.returns-in-Err-clause-types
returns-in-Err-clause-types g c =
    let seat = c.args.w.now.seat.now in
    let late = c.leaves_at.new.w.seat.now in
    adds-next [] c.in_ok-fallback.fallback.held [] seat late c.give_back.new.w.seat.now
    (adds-still c.in_ok-fallback.fallback.held seat c.leaf_at.new.w.seat.now late c.in_ok-fallback.ensures.types c.in-Err.ensures.types)
    ([], c.give_back.ensures.types)

pub returns-in-Ok-clause-stands : goal.returns-in-Ok-clause-stands
returns-in-Ok-clause-stands g c =
    let last = ap (λ leaves. leaves.now) c.leaves_at.ensures.goes_on.leaves in
    let all = ap (λ leaves. leaves.now) (c.leaves_at.ensures.goes_on.leaves ∙ c.leaf_at.ensures.goes_on.leaves) in
    let fallback = stands-over _ _ c.in_ok-fallback.fallback all c.in_ok-fallback.ensures.stands in
    let cases = stand-over _ _ c.in-Ok.cases last c.in-Ok.ensures.stands in
    some-over _ _ (tree.Switch fallback.0 cases.0) c.switch.result all (c.switch.ensures.stands fallback.0 cases.0 fallback.1 cases.1)
