use Rattle.std.proofs.Common.{arith}
use Rattle.mh_made_class.proofs.Placing.{arguments_few}
use Rattle.mh_made_class.proofs.parts.push_bootstrap.Goals as goal

pub push_u2-requires-2 : goal.push_u2-requires-2
push_u2-requires-2 c = omega (arith, c.len.ensures, c.placed.invariant.fits, arguments_few c.placed.inside.site.now.args)
