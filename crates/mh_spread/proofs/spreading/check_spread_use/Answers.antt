use Rattle.mh_spread.proofs.SpreadRules.{refusal-tells, spreading-row}
use Rattle.mh_spread.proofs.spreading.check_spread_use.Goals as goal

pub returns : goal.returns
returns c =
    spreading-row c.args.classes.now c.args.target.now c.args.weight c.args.array c.args.count c.in-Ok.spreading c.in-Ok.ensures

pub returns-in-Err : goal.returns-in-Err
returns-in-Err c =
    refusal-tells c.args.classes.now c.args.target.now c.args.weight c.args.array c.args.count c.in-Err.error c.in-Err.ensures
