use Rattle.std.proofs.Common.{ap, ◌∙◌, sym}
use Rattle.mh_setonce.proofs.RowCells.{names-share, rows-share}
use Rattle.mh_setonce.proofs.rows.Rows.agree.Goals as goal

pub meet_all-requires : goal.meet_all-requires
meet_all-requires g c =
    let chain = ap (λ r. r.chain.rows) c.self.view_is ∙ (ap (λ v. v.rows) c.requires ∙ sym (ap (λ r. r.chain.rows) c.other.view_is)) in
    rw (c.as_slice.ensures.value, c.as_slice-2.ensures.value) (names-share _ _ _ chain c.self.invariant.boxed _ c.other.invariant.boxed)

pub returns : goal.returns
returns g c =
    let met = rw (c.as_slice.ensures.value, c.as_slice-2.ensures.value) at c.meet_all.ensures in
    rw (← c.self.view_is, ← c.other.view_is) (rows-share _ _ _ met)
