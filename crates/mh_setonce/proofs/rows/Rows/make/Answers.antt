use Rattle.std.proofs.Common.{◌≡◌, arith, ap, length, ◌*◌}
use Rattle.mh_setonce.proofs.RowCells.{rows-grown, rows-length}
use Rattle.mh_setonce.proofs.rows.Rows.make.Goals as goal

pub unreachable-requires : goal.unreachable-requires
unreachable-requires g c =
    let low = rw (← c.self.view_is) at c.requires in
    let count = rows-length _ _ _ c.self.invariant in
    let past = c.in_default.ensures.past in
    let known : c.len.result ≡ length c.self.inside.known.items = omega (arith, c.len.ensures) in
    let times = ap (λ k. k * g.V.Keyed.row_size) known in
    omega (arith, low, count, past, times)

pub invariant_of-self-2 : goal.invariant_of-self-2
invariant_of-self-2 g c = (rows-grown g.V.Keyed.row_size c.self.inside.chain.now c.self.inside.known.items c.reserve.new.self.items
    c.push_reserved.new.self.items c.put-row.result.0 c.len.result _ c.node.result.now c.self.invariant (omega (arith, c.len.ensures))
    c.in-Some.ensures.name c.put-row.ensures.noted c.node.ensures c.sized.ensures.size c.sized.ensures.some c.reserve.ensures.items
    c.push_reserved.ensures.items).are

pub returns-clause-cells : goal.returns-clause-cells
returns-clause-cells g c = rw (← c.self.view_is) ((rows-grown g.V.Keyed.row_size c.self.inside.chain.now c.self.inside.known.items c.reserve.new.self.items
    c.push_reserved.new.self.items c.put-row.result.0 c.len.result _ c.node.result.now c.self.invariant (omega (arith, c.len.ensures))
    c.in-Some.ensures.name c.put-row.ensures.noted c.node.ensures c.sized.ensures.size c.sized.ensures.some c.reserve.ensures.items
    c.push_reserved.ensures.items).front)

pub returns-clause-more : goal.returns-clause-more
returns-clause-more g c = rw (← c.self.view_is) ((rows-grown g.V.Keyed.row_size c.self.inside.chain.now c.self.inside.known.items c.reserve.new.self.items
    c.push_reserved.new.self.items c.put-row.result.0 c.len.result _ c.node.result.now c.self.invariant (omega (arith, c.len.ensures))
    c.in-Some.ensures.name c.put-row.ensures.noted c.node.ensures c.sized.ensures.size c.sized.ensures.some c.reserve.ensures.items
    c.push_reserved.ensures.items).longer)
