use Rattle.std.proofs.Common.{arith}
use Rattle.mh_drawn.proofs.Answered.{fresh}
use Rattle.mh_drawn.proofs.tables.first_seats.Goals as goal

pub returns-clause-fresh : goal.returns-clause-fresh
returns-clause-fresh g c =
    fresh g.J.Run.given c.args.tables.now.forms c.in_ok-pass.pass c.args.first.forms c.args.tables.now.types c.args.first.types
    c.args.constants.now c.in_ok-asked.asked c.args.first.serials (omega (arith, c.in_ok-few_constants.ensures, c.len.ensures))
    c.in_ok-pass.ensures c.requires.forms c.requires.types c.in_ok-asked.ensures c.requires.serials
