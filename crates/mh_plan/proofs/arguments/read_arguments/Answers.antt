use Rattle.std.proofs.Common.{sym}
use Rattle.mh_plan.proofs.ReadOn.{arguments_of-other}
use Rattle.mh_plan.proofs.arguments.read_arguments.Goals as goal

pub returns-then-tokens-types : goal.returns-then-tokens-types
returns-then-tokens-types c = sym (arguments_of-other c.args.classes.now c.args.tokens.now c.args.types.now c.if-tokens-types.true)
