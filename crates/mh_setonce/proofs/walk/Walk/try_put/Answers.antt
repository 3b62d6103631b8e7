use Rattle.std.proofs.Common.{rules, arith, ap, length}
use Rattle.std.proofs.lemmas.List.{length-map}
use Rattle.mh_setonce.specs.Learnings.{node_of}
use Rattle.mh_setonce.proofs.Nodes.{walk-step, walk-put}
use Rattle.mh_setonce.proofs.walk.Walk.try_put.Goals as goal

pub invariant_of-self-in-None : goal.invariant_of-self-in-None
invariant_of-self-in-None g c =
    let room = rw (← c.self.view_is) at c.requires.room in
    let count = length-map c.self.inside.learnt.items node_of in
    walk-put g.V.Keyed.key_of g.V.Keyed.hash_of c.self.inside.rows c.make_cell.new.self c.self.inside.learnt.items c.reserve.new.learnt.items
    c.add.new.learnt.items c.self.inside.places.hashes c.add.new.places.hashes c.put-one.result.0 c.len.result _ c.self.invariant
    c.in-Ok.ensures.chain c.in-Ok.ensures.cells (omega (arith, c.len.ensures, ap length c.reserve.ensures.learnt))
    (omega (arith, c.len.ensures, ap length c.reserve.ensures.learnt, room, count, c.self.invariant.within)) c.in-Ok.ensures.name c.put-one.ensures.noted
    c.reserve.ensures.learnt c.add.ensures.indexed c.args.value c.add.ensures.nodes (search rules) (rw (← c.self.view_is) at c.requires.new)

pub returns-in-None-clause-once : goal.returns-in-None-clause-once
returns-in-None-clause-once g c =
    let room = rw (← c.self.view_is) at c.requires.room in
    let count = length-map c.self.inside.learnt.items node_of in
    (walk-put g.V.Keyed.key_of g.V.Keyed.hash_of c.self.inside.rows c.make_cell.new.self c.self.inside.learnt.items c.reserve.new.learnt.items
    c.add.new.learnt.items c.self.inside.places.hashes c.add.new.places.hashes c.put-one.result.0 c.len.result _ c.self.invariant
    c.in-Ok.ensures.chain c.in-Ok.ensures.cells (omega (arith, c.len.ensures, ap length c.reserve.ensures.learnt))
    (omega (arith, c.len.ensures, ap length c.reserve.ensures.learnt, room, count, c.self.invariant.within)) c.in-Ok.ensures.name c.put-one.ensures.noted
    c.reserve.ensures.learnt c.add.ensures.indexed c.args.value c.add.ensures.nodes (search rules) (rw (← c.self.view_is) at c.requires.new)).distinct

pub invariant_of-self-in-Some : goal.invariant_of-self-in-Some
invariant_of-self-in-Some g c =
    let room = rw (← c.self.view_is) at c.requires.room in
    let count = length-map c.self.inside.learnt.items node_of in
    (walk-step g.V.Keyed.key_of g.V.Keyed.hash_of c.self.inside.rows c.make_cell.new.self c.self.inside.learnt.items c.reserve.new.learnt.items
    c.keep.new.learnt.items c.self.inside.places.hashes c.keep.new.places.hashes c.put-one.result.0 c.len.result _ c.self.invariant
    c.in-Ok.ensures.chain c.in-Ok.ensures.cells (omega (arith, c.len.ensures, ap length c.reserve.ensures.learnt))
    (omega (arith, c.len.ensures, ap length c.reserve.ensures.learnt, room, count, c.self.invariant.within)) c.in-Ok.ensures.name c.put-one.ensures.noted
    c.reserve.ensures.learnt c.keep.ensures.indexed c.keep.ensures.kept).0

pub returns-in-Some-clause-once : goal.returns-in-Some-clause-once
returns-in-Some-clause-once g c =
    let room = rw (← c.self.view_is) at c.requires.room in
    let count = length-map c.self.inside.learnt.items node_of in
    (walk-step g.V.Keyed.key_of g.V.Keyed.hash_of c.self.inside.rows c.make_cell.new.self c.self.inside.learnt.items c.reserve.new.learnt.items
    c.keep.new.learnt.items c.self.inside.places.hashes c.keep.new.places.hashes c.put-one.result.0 c.len.result _ c.self.invariant
    c.in-Ok.ensures.chain c.in-Ok.ensures.cells (omega (arith, c.len.ensures, ap length c.reserve.ensures.learnt))
    (omega (arith, c.len.ensures, ap length c.reserve.ensures.learnt, room, count, c.self.invariant.within)) c.in-Ok.ensures.name c.put-one.ensures.noted
    c.reserve.ensures.learnt c.keep.ensures.indexed c.keep.ensures.kept).0.distinct
