use Rattle.std.proofs.Common.{arith}
use Rattle.mh_setonce.proofs.Nodes.{walk-step}
use Rattle.mh_setonce.proofs.walk.Walk.step.Goals as goal

pub invariant_of-self-2 : goal.invariant_of-self-2
invariant_of-self-2 g c =
    let name = rw (c.in-Some.is) at c.in_ok-cell.ensures.name in
    (walk-step g.V.Keyed.key_of g.V.Keyed.hash_of c.self.inside.rows c.shown.new.self c.self.inside.learnt.items c.reserve.new.learnt.items
    c.keep.new.learnt.items c.self.inside.places.hashes c.keep.new.places.hashes c.in-Some-look.one c.len-at.result _ c.self.invariant
    c.in_ok-cell.ensures.chain c.in_ok-cell.ensures.cells (omega (arith, c.len-at.ensures)) (omega (arith, c.if-at-room.false, c.room.ensures)) name
    c.in-Some-look.ensures c.reserve.ensures.learnt c.keep.ensures.indexed c.keep.ensures.kept).0

pub returns-clause-nodes : goal.returns-clause-nodes
returns-clause-nodes g c =
    let name = rw (c.in-Some.is) at c.in_ok-cell.ensures.name in
    rw (← c.self.view_is) ((walk-step g.V.Keyed.key_of g.V.Keyed.hash_of c.self.inside.rows c.shown.new.self c.self.inside.learnt.items
    c.reserve.new.learnt.items c.keep.new.learnt.items c.self.inside.places.hashes c.keep.new.places.hashes c.in-Some-look.one c.len-at.result _
    c.self.invariant c.in_ok-cell.ensures.chain c.in_ok-cell.ensures.cells (omega (arith, c.len-at.ensures))
    (omega (arith, c.if-at-room.false, c.room.ensures)) name c.in-Some-look.ensures c.reserve.ensures.learnt c.keep.ensures.indexed c.keep.ensures.kept).1)

pub returns-clause-once : goal.returns-clause-once
returns-clause-once g c =
    let name = rw (c.in-Some.is) at c.in_ok-cell.ensures.name in
    (walk-step g.V.Keyed.key_of g.V.Keyed.hash_of c.self.inside.rows c.shown.new.self c.self.inside.learnt.items c.reserve.new.learnt.items
    c.keep.new.learnt.items c.self.inside.places.hashes c.keep.new.places.hashes c.in-Some-look.one c.len-at.result _ c.self.invariant
    c.in_ok-cell.ensures.chain c.in_ok-cell.ensures.cells (omega (arith, c.len-at.ensures)) (omega (arith, c.if-at-room.false, c.room.ensures)) name
    c.in-Some-look.ensures c.reserve.ensures.learnt c.keep.ensures.indexed c.keep.ensures.kept).0.distinct
