use Rattle.std.proofs.Common.{◌∙◌, true, arith}
use Rattle.std.proofs.lemmas.List.{length-set}
use Rattle.mh_drawn.proofs.OwnConstants.{own-more}
use Rattle.mh_drawn.proofs.constants.own_constants.Goals as goal

pub loop-attempt-preserved : goal.loop-attempt-preserved
loop-attempt-preserved g c = record {
  count = length-set c.loop-attempt.own.items _ true ∙ c.loop-attempt.invariant.count;
  own = own-more c.args.pass.now c.loop-attempt.own.items c.recorded-attempt-items.result.now c.loop-attempt.attempt-index
      (record { thread = 0; constant = 0; serial = 0 }) c.recorded-attempt-items.ensures.items (omega (arith, c.loop-attempt-test.true))
      c.loop-attempt.invariant.own;
}
