use Rattle.std.proofs.Common.{arith, ap, ◌/◌}
use Rattle.mh_setonce.proofs.RowCells.{rows-have}
use Rattle.std.proofs.lemmas.Bool.Decides.{nat_tests}
use Rattle.mh_setonce.proofs.rows.Rows.has.Goals as goal

pub returns : goal.returns
returns g c =
    let size = c.row_len.ensures.size in
    let have = rows-have _ _ _ c.self.invariant c.args.at (omega (arith, size, c.row_len.ensures.some)) in
    let quotient = ap (λ k. c.args.at / k) size in
    let count = c.len.ensures in
    rw (← c.self.view_is) (grind (arith, nat_tests))
