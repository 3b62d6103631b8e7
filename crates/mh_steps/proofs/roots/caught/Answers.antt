use Rattle.std.proofs.Common.{ap, [], ◌++◌, arith}
use Rattle.mh_tree.specs.Tree as tree
use Rattle.mh_handle.proofs.obeying.Going.{goes_on-both}
use Rattle.mh_handle.proofs.obeying.Rooms.{ready-after}
use Rattle.mh_steps.proofs.Adding.{adds, adds-held, types-next}
use Rattle.mh_steps.proofs.Rooms.{some-over, stands-over}
use Rattle.mh_steps.proofs.roots.caught.Goals as goal

pub catch-requires : goal.catch-requires
catch-requires g c = record {
  ready = ready-after 2 1 3 _ _ (omega arith) c.in_ok-target.ensures.goes_on c.requires.ready;
  held =
      adds-held (c.in_ok-target.target.held ++ c.in_ok-target.handler.held) c.args.w.now.seat.now c.two_leaves.new.w.seat.now c.in_ok-target.ensures.types;
}

pub returns-clause-types : goal.returns-clause-types
returns-clause-types g c =
    let both = c.in_ok-target.target.held ++ c.in_ok-target.handler.held in
    types-next [] both c.args.w.now c.two_leaves.new.w c.catch.new.w c.catch.result c.in_ok-target.ensures.types
    (adds _ both c.two_leaves.new.w c.catch.new.w c.catch.result c.catch.ensures.types)

pub returns-clause-goes_on : goal.returns-clause-goes_on
returns-clause-goes_on g c = goes_on-both 2 1 _ _ _ c.in_ok-target.ensures.goes_on c.catch.ensures.goes_on

pub returns-clause-stands : goal.returns-clause-stands
returns-clause-stands g c =
    let same = ap (λ leaves. leaves.now) c.in_ok-target.ensures.goes_on.leaves in
    let t = stands-over _ _ c.in_ok-target.target same c.in_ok-target.ensures.one in
    let h = stands-over _ _ c.in_ok-target.handler same c.in_ok-target.ensures.other in
    some-over _ _ (tree.Catch t.0 c.args.class h.0) c.catch.result same (c.catch.ensures.stands t.0 h.0 t.1 h.1)
