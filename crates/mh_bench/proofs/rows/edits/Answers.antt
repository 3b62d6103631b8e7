use Rattle.std.proofs.Common.{sym, subst}
use Rattle.mh_intern.specs.Exchanges.{AreHeld}
use Rattle.mh_steps.proofs.Adding.{adds-held}
use Rattle.mh_bench.proofs.rows.edits.Goals as goal

pub give_back-requires-clause-held : goal.give_back-requires-clause-held
give_back-requires-clause-held g c =
    let h = c.in_ok-handle.handle.held in
    subst (λ s. AreHeld s h) (sym c.edit_each-sum.ensures.seat)
    (adds-held h c.args.w.now.seat.now c.made.new.w.seat.now c.in_ok-handle.ensures.types)
