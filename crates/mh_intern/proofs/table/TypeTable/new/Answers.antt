use Rattle.std.proofs.Common.{◌∙◌, sym, subst}
use Rattle.mh_intern.specs.Claims.{HasKeeper}
use Rattle.mh_intern.proofs.table.TypeTable.new.Goals as goal

pub new_claims-requires-clause-keepers : goal.new_claims-requires-clause-keepers
new_claims-requires-clause-keepers c = λ b x e.
    subst (λ z. HasKeeper z b x) (sym (c.deal_keepers.ensures.same ∙ c.in_ok-holders.ensures.seat.0)) (c.in_ok-keepers.ensures.keepers b x e)
