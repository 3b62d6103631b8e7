use Rattle.std.proofs.Common.{◌+◌, ap, arith, length, subst, [], ◌++◌}
use Rattle.mh_handle.proofs.obeying.Going.{goes_on-before, goes_on-both, goes_on-more, seated-back}
use Rattle.mh_handle.proofs.obeying.Rooms.{goes_on-none, ready-after, ready-less}
use Rattle.mh_more.specs.Several.{holds_of}
use Rattle.mh_steps.specs.SomeCases.{StandForSome}
use Rattle.mh_steps.proofs.Adding.{adds-back, adds-both, adds-held, adds-next, adds-none, adds-still, adds-yet}
use Rattle.mh_steps.proofs.Listing.{goes_on-listed, listed, none-listed, some-more, some-none, stand-over, unlisted}
use Rattle.mh_steps.proofs.Rooms.{stands-over}
use Rattle.mh_steps.proofs.leaves.+leaves_at.Goals as goal

-- ---- what the calls need

pub leaf_at-requires : goal.leaf_at-requires
leaf_at-requires g t c =
    let some = ap length c.in-Some.ensures.cases.0 in
    record { ready = ready-less c.args.w.now (length c.args.ids.now) 1 (omega (arith, some)) c.requires.ready }

pub leaves_at-requires : goal.leaves_at-requires
leaves_at-requires g t c =
    let less = ap length c.in-Some.ensures.cases.0 in
    let ready = ready-after 1 (length c.in-Some.others.now) (length c.args.ids.now) c.args.w.now c.leaf_at.new.w (omega (arith, less))
    c.leaf_at.ensures.goes_on c.requires.ready in
    λ κs lives. (omega (arith, less, c.decreases), (lives, ready))

pub with_first-requires-clause-held : goal.with_first-requires-clause-held
with_first-requires-clause-held g t c =
    let first = c.in_ok-first.first.held in
    let others = holds_of c.in-Ok.others in
    adds-held (first ++ others) c.args.w.now.seat.now c.leaves_at.new.w.seat.now
    (adds-both first others c.args.w.now.seat.now c.leaf_at.new.w.seat.now c.leaves_at.new.w.seat.now c.in_ok-first.ensures.types c.in-Ok.ensures.types)

pub give_back-requires-clause-held : goal.give_back-requires-clause-held
give_back-requires-clause-held g t c =
    adds-yet [] c.in_ok-first.first.held c.leaf_at.new.w.seat.now c.leaves_at.new.w.seat.now c.in-Err.ensures.types
    (adds-held c.in_ok-first.first.held c.args.w.now.seat.now c.leaf_at.new.w.seat.now c.in_ok-first.ensures.types)

-- ---- numbers

pub returns-in_default-clause-goes_on : goal.returns-in_default-clause-goes_on
returns-in_default-clause-goes_on g t c = goes_on-none (length c.args.ids.now) c.args.w.now

pub returns-in_err-first-clause-goes_on : goal.returns-in_err-first-clause-goes_on
returns-in_err-first-clause-goes_on g t c =
    let some = ap length c.in-Some.ensures.cases.0 in
    goes_on-more 1 (length c.args.ids.now) c.args.w.now c.leaf_at.new.w (omega (arith, some)) c.leaf_at.ensures.goes_on

pub returns-in_ok-with_first-in-Ok-clause-goes_on : goal.returns-in_ok-with_first-in-Ok-clause-goes_on
returns-in_ok-with_first-in-Ok-clause-goes_on g t c =
    let some = ap length c.in-Some.ensures.cases.0 in
    let n = length c.in-Some.others.now in
    goes_on-listed (length c.args.ids.now) c.args.w.now c.leaves_at.new.w c.with_first.new.w
    (goes_on-more (1 + n) (length c.args.ids.now) c.args.w.now c.leaves_at.new.w (omega (arith, some))
    (goes_on-both 1 n c.args.w.now c.leaf_at.new.w c.leaves_at.new.w c.leaf_at.ensures.goes_on c.leaves_at.ensures.goes_on))
    c.with_first.ensures.unchanged c.in_ok-with_first-in-Ok.ensures.types

pub returns-in_err-with_first-in-Ok-clause-goes_on : goal.returns-in_err-with_first-in-Ok-clause-goes_on
returns-in_err-with_first-in-Ok-clause-goes_on g t c =
    let some = ap length c.in-Some.ensures.cases.0 in
    let n = length c.in-Some.others.now in
    goes_on-before (length c.args.ids.now) c.args.w.now c.leaves_at.new.w c.with_first.new.w
    (goes_on-more (1 + n) (length c.args.ids.now) c.args.w.now c.leaves_at.new.w (omega (arith, some))
    (goes_on-both 1 n c.args.w.now c.leaf_at.new.w c.leaves_at.new.w c.leaf_at.ensures.goes_on c.leaves_at.ensures.goes_on))
    c.with_first.ensures.unchanged
    (seated-back [] (c.in_ok-first.first.held ++ holds_of c.in-Ok.others) c.leaves_at.new.w c.with_first.new.w c.in_err-with_first-in-Ok.ensures.types)

pub returns-in-Err-clause-goes_on : goal.returns-in-Err-clause-goes_on
returns-in-Err-clause-goes_on g t c =
    let some = ap length c.in-Some.ensures.cases.0 in
    let n = length c.in-Some.others.now in
    goes_on-before (length c.args.ids.now) c.args.w.now c.leaves_at.new.w c.give_back.new.w
    (goes_on-more (1 + n) (length c.args.ids.now) c.args.w.now c.leaves_at.new.w (omega (arith, some))
    (goes_on-both 1 n c.args.w.now c.leaf_at.new.w c.leaves_at.new.w c.leaf_at.ensures.goes_on c.leaves_at.ensures.goes_on))
    c.give_back.ensures.unchanged (seated-back [] c.in_ok-first.first.held c.leaves_at.new.w c.give_back.new.w c.give_back.ensures.types)

-- ---- the seat of types

pub returns-in_default-clause-types : goal.returns-in_default-clause-types
returns-in_default-clause-types g t c = none-listed c.new.result c.args.w.now c.new.ensures

pub returns-in_ok-with_first-in-Ok-clause-types : goal.returns-in_ok-with_first-in-Ok-clause-types
returns-in_ok-with_first-in-Ok-clause-types g t c =
    listed c.in_ok-first.first c.in-Ok.others c.in_ok-with_first-in-Ok.field-0 c.args.w.now c.leaf_at.new.w c.leaves_at.new.w c.with_first.new.w
    c.in_ok-with_first-in-Ok.ensures.listed c.in_ok-first.ensures.types c.in-Ok.ensures.types c.in_ok-with_first-in-Ok.ensures.types

pub returns-in_err-with_first-in-Ok-clause-types : goal.returns-in_err-with_first-in-Ok-clause-types
returns-in_err-with_first-in-Ok-clause-types g t c =
    let seat = c.args.w.now.seat.now in
    let late = c.leaves_at.new.w.seat.now in
    let came = c.in_ok-first.first.held ++ holds_of c.in-Ok.others in
    unlisted _ c.args.w.now c.with_first.new.w c.from_residual-in_err-with_first-in-Ok.result c.from_residual-in_err-with_first-in-Ok.ensures.1
    (adds-next [] came [] seat late c.with_first.new.w.seat.now
    (adds-both c.in_ok-first.first.held (holds_of c.in-Ok.others) seat c.leaf_at.new.w.seat.now late c.in_ok-first.ensures.types c.in-Ok.ensures.types)
    ([], c.in_err-with_first-in-Ok.ensures.types))

pub returns-in-Err-clause-types : goal.returns-in-Err-clause-types
returns-in-Err-clause-types g t c =
    let seat = c.args.w.now.seat.now in
    let late = c.leaves_at.new.w.seat.now in
    adds-next [] c.in_ok-first.first.held [] seat late c.give_back.new.w.seat.now
    (adds-still c.in_ok-first.first.held seat c.leaf_at.new.w.seat.now late c.in_ok-first.ensures.types c.in-Err.ensures.types)
    ([], c.give_back.ensures.types)

-- ---- what the handles stand for

pub returns-in_default-clause-stands : goal.returns-in_default-clause-stands
returns-in_default-clause-stands g t c = some-none c.args.w.now.leaves.now c.new.result c.new.ensures

pub returns-in_ok-with_first-in-Ok-clause-stands : goal.returns-in_ok-with_first-in-Ok-clause-stands
returns-in_ok-with_first-in-Ok-clause-stands g t c =
    let w = c.args.w.now in
    let same = ap (λ l. l.now) c.leaf_at.ensures.goes_on.leaves in
    some-more w.leaves.now c.in_ok-first.first c.in-Ok.others c.in_ok-with_first-in-Ok.field-0 c.in_ok-with_first-in-Ok.ensures.listed
    c.in_ok-first.ensures.stands (subst (λ l. StandForSome l c.in-Ok.others) same c.in-Ok.ensures.stands)
