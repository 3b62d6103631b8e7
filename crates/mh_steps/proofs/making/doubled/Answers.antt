use Rattle.std.proofs.Common.{[], ◌++◌, ap, arith}
use Rattle.mh_tree.specs.Tree as tree
use Rattle.mh_handle.proofs.obeying.Going.{goes_on-both, unchanged-goes_on}
use Rattle.mh_handle.proofs.obeying.Rooms.{ready-after}
use Rattle.mh_steps.proofs.Adding.{adds, adds-back, adds-beside, adds-yet, copy-seated, types-with}
use Rattle.mh_steps.proofs.Rooms.{some-over, stands-over}
use Rattle.mh_steps.proofs.making.doubled.Goals as goal

pub filterret-requires-clause-ready : goal.filterret-requires-clause-ready
filterret-requires-clause-ready g c =
    let e = c.in-Ok.ensures in
    ready-after 1 1 2 c.args.w.now c.copy.new.w (omega arith)
    (unchanged-goes_on 1 c.args.w.now c.copy.new.w e.unchanged
    (copy-seated c.args.target c.in-Ok.part c.args.w.now c.copy.new.w e.shaped e.held e.types))
    c.requires.ready

pub filterret-requires-clause-held : goal.filterret-requires-clause-held
filterret-requires-clause-held g c =
    adds-beside c.args.target.held c.in-Ok.part.held c.args.w.now.seat.now c.copy.new.w.seat.now ([], c.in-Ok.ensures.types) c.requires.held

pub given_back-requires-clause-held : goal.given_back-requires-clause-held
given_back-requires-clause-held g c =
    adds-yet [] c.args.target.held c.args.w.now.seat.now c.copy.new.w.seat.now ([], c.in-Err.ensures.types) c.requires.held

pub returns-in-Ok-clause-goes_on : goal.returns-in-Ok-clause-goes_on
returns-in-Ok-clause-goes_on g c =
    let e = c.in-Ok.ensures in
    goes_on-both 1 1 c.args.w.now c.copy.new.w c.filterret.new.w
    (unchanged-goes_on 1 c.args.w.now c.copy.new.w e.unchanged
    (copy-seated c.args.target c.in-Ok.part c.args.w.now c.copy.new.w e.shaped e.held e.types))
    c.filterret.ensures.goes_on

pub returns-in-Ok-clause-types : goal.returns-in-Ok-clause-types
returns-in-Ok-clause-types g c =
    let t = c.args.target.held in
    let p = c.in-Ok.part.held in
    types-with t p c.args.w.now c.copy.new.w c.filterret.new.w c.filterret.result ([], c.in-Ok.ensures.types)
    (adds _ (t ++ p) c.copy.new.w c.filterret.new.w c.filterret.result c.filterret.ensures.types)

pub returns-in-Err-clause-types : goal.returns-in-Err-clause-types
returns-in-Err-clause-types g c =
    adds-back c.args.target.held c.args.w.now.seat.now c.copy.new.w.seat.now c.given_back.new.w.seat.now ([], c.in-Err.ensures.types) c.given_back.ensures.types

pub returns-in-Ok-clause-stands : goal.returns-in-Ok-clause-stands
returns-in-Ok-clause-stands g c =
    let same = ap (λ leaves. leaves.now) c.in-Ok.ensures.unchanged.leaves in
    let t = c.requires.stands.0 in
    let h = stands-over _ _ c.args.target same c.requires.stands in
    let part = stands-over _ _ c.in-Ok.part same (t, c.in-Ok.ensures.stands c.args.w.now.leaves.now t c.requires.stands.1) in
    some-over _ _ (tree.FilterRet h.0 part.0) c.filterret.result same (c.filterret.ensures.stands h.0 part.0 h.1 part.1)
