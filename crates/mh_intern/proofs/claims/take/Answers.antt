use Rattle.std.proofs.Common.{arith, ◌∙◌, Some}
use Rattle.mh_intern.proofs.Claiming.{takes_allowed, first_held}
use Rattle.mh_intern.proofs.claims.take.Goals as goal

pub compare_exchange-requires : goal.compare_exchange-requires
compare_exchange-requires c = (c.requires.seat.0, omega arith, takes_allowed _ _ _ _ _ c.requires.bucket)

pub exchange-requires : goal.exchange-requires
exchange-requires c = let e = c.compare_exchange.ensures in let k = (e.2.0 c.if-compare_exchange-eq0.true).1 in
    (e.0 ∙ c.requires.seat.0, (Some k.0, first_held _ _ _ k.1))
