use Rattle.std.proofs.Common.{arith, ap, ◌∙◌}
use Rattle.mh_intern.specs.Claims.{named}
use Rattle.mh_intern.proofs.Claiming.{gives_allowed, first_held}
use Rattle.mh_intern.proofs.claims.put_back.Goals as goal

pub store-requires : goal.store-requires
store-requires c =
    let e = c.exchange.ensures in
    let same = ap (λ m. m.0) e.3 in (
      e.0 ∙ c.requires.seat.0,
      omega arith,
      gives_allowed _ _ _ _ _ c.args.keeper c.requires.bucket
          (first_held _ _ _ (ap (λ m. m.1) e.3)) (ap (λ m. m.claims) same ∙ c.requires.claimed.1) (ap named same ∙ c.requires.named) c.requires.keeper,
    )
