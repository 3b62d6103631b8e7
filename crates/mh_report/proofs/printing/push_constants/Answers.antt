use Rattle.std.proofs.Common.{◌<◌, length, arith}
use Rattle.mh_report.proofs.Running.{constants_text-more}
use Rattle.mh_report.proofs.printing.push_constants.Goals as goal

pub loop-number-preserved : goal.loop-number-preserved
loop-number-preserved c =
    let in_range : c.loop-number.number < length c.args.rows.now = omega arith in
    constants_text-more c.args.classes.now c.args.rows.now c.loop-number.number c.get.result.now _ _ _ in_range c.get.ensures c.in_ok-push_constant.ensures
    c.loop-number.invariant
