use Rattle.std.proofs.Common.{arith}
use Rattle.mh_setonce.proofs.RowCells.{rows-grown}
use Rattle.mh_setonce.proofs.rows.Rows.learn.Goals as goal

pub invariant_of-self-2 : goal.invariant_of-self-2
invariant_of-self-2 g c = (rows-grown g.V.Keyed.row_size c.self.inside.chain.now c.self.inside.known.items c.reserve.new.self.items
    c.push_reserved.new.self.items c.in-Some-look.row c.len.result _ c.node.result.now c.self.invariant (omega (arith, c.len.ensures))
    c.in-Some.ensures.name c.in-Some-look.ensures c.node.ensures c.sized.ensures.size c.sized.ensures.some c.reserve.ensures.items
    c.push_reserved.ensures.items).are

pub returns-clause-cells : goal.returns-clause-cells
returns-clause-cells g c = rw (← c.self.view_is) ((rows-grown g.V.Keyed.row_size c.self.inside.chain.now c.self.inside.known.items c.reserve.new.self.items
    c.push_reserved.new.self.items c.in-Some-look.row c.len.result _ c.node.result.now c.self.invariant (omega (arith, c.len.ensures))
    c.in-Some.ensures.name c.in-Some-look.ensures c.node.ensures c.sized.ensures.size c.sized.ensures.some c.reserve.ensures.items
    c.push_reserved.ensures.items).front)

pub returns-clause-more : goal.returns-clause-more
returns-clause-more g c _ = rw (← c.self.view_is) ((rows-grown g.V.Keyed.row_size c.self.inside.chain.now c.self.inside.known.items c.reserve.new.self.items
    c.push_reserved.new.self.items c.in-Some-look.row c.len.result _ c.node.result.now c.self.invariant (omega (arith, c.len.ensures))
    c.in-Some.ensures.name c.in-Some-look.ensures c.node.ensures c.sized.ensures.size c.sized.ensures.some c.reserve.ensures.items
    c.push_reserved.ensures.items).longer)
