use Rattle.mh_setonce.proofs.RowCells.{rows-none}
use Rattle.mh_setonce.proofs.rows.Rows.new.Goals as goal

pub invariant_of-result : goal.invariant_of-result
invariant_of-result g c = rows-none g.V.Keyed.row_size c.args.chain.now _ c.new.ensures.items
