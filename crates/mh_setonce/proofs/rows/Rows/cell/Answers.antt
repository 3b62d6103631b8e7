use Rattle.std.proofs.Common.{arith, ap, ◌/◌}
use Rattle.mh_setonce.proofs.RowCells.{rows-have, rows-read}
use Rattle.mh_setonce.proofs.rows.Rows.cell.Goals as goal

pub index-requires : goal.index-requires
index-requires g c =
    let low = rw (← c.self.view_is) at c.requires in
    let size = c.row_len-size.ensures.size in
    let have = (rows-have _ _ _ c.self.invariant c.args.at (omega (arith, size, c.row_len-size.ensures.some))).1 low in
    omega (arith, ap (λ k. c.args.at / k) size, have)

pub returns : goal.returns
returns g c =
    let low = rw (← c.self.view_is) at c.requires in
    let size = c.row_len-size.ensures.size in
    rw (← c.self.view_is) (rows-read _ _ _ c.self.invariant c.args.at c.row_len-size.result _ c.index.result.now c.node-row.result.now size
    (omega (arith, size, c.row_len-size.ensures.some)) low c.index.ensures c.node-row.ensures c.cell.ensures)
