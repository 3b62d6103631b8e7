use Rattle.std.proofs.Common.{refl, arith, inr}
use Rattle.mh_setonce.proofs.Buckets.{twice-power}
use Rattle.mh_setonce.proofs.places.more_buckets.Goals as goal

pub returns-then-buckets-eq0-clause-size : goal.returns-then-buckets-eq0-clause-size
returns-then-buckets-eq0-clause-size c = inr (3, refl)

pub returns-clause-size : goal.returns-clause-size
returns-clause-size c = twice-power c.args.buckets c.in-Some.more c.requires (omega (arith, c.if-buckets-eq0.false)) c.in-Some.ensures.1
