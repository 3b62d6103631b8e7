use Rattle.std.proofs.Common.{subst, ap, [], ◌∷◌}
use Rattle.mh_tree.specs.Rows.{identity_row}
use Rattle.mh_handle.specs.Parts.{PartsView}
use Rattle.mh_handle.specs.Works.{TradesTypes}
use Rattle.mh_handle.proofs.holding.Trading.{trades-row}
use Rattle.mh_branch.proofs.RootAnswers.{identity-answers}
use Rattle.mh_branch.proofs.roots.identity.Goals as goal

pub returns-clause-stands : goal.returns-clause-stands
returns-clause-stands g c =
    identity-answers c.args.w.now.leaves.now c.args.ty c.in_ok-own.own c.in-Some.ret c.basic_of.result c.new.result.sides c.new.result.fields
    c.make_rooted.result
    c.in_ok-own.ensures c.in-Some.is c.basic_of.ensures (ap (λ (p : PartsView). p.sides) c.new.ensures) (ap (λ (p : PartsView). p.fields) c.new.ensures)
    c.make_rooted.ensures.grows

pub returns-clause-types : goal.returns-clause-types
returns-clause-types g c =
    trades-row (identity_row c.args.ty) c.in_ok-own.own [] c.args.w.now c.make_rooted.new.w c.make_rooted.result c.in_ok-own.ensures
    (subst (λ (p : PartsView). TradesTypes (c.in_ok-own.own ∷ []) p.held c.args.w.now c.make_rooted.new.w c.make_rooted.result) c.new.ensures
    c.make_rooted.ensures.types)
