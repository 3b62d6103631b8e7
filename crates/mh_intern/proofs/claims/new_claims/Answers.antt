use Rattle.std.proofs.Common.{sym, subst, refl}
use Rattle.mh_intern.specs.Claims.{HasKeeper}
use Rattle.mh_intern.proofs.ClaimSeats.{opens}
use Rattle.mh_intern.proofs.claims.new_claims.Goals as goal

pub new-requires : goal.new-requires
new-requires c = opens _ c.args.keepers.items _ c.requires.many (λ b x e. subst (λ s. HasKeeper s.table_id b x) (sym c.of.ensures) (c.requires.keepers b x e))
    refl (λ t e. cc)
