use Rattle.std.proofs.Common.{◌≡◌, sym, subst, ap, ◌∙◌, [], ◌∷◌, Ok}
use Rattle.mh_tree.specs.Rows.{throw_row}
use Rattle.mh_handle.specs.Parts.{PartsView}
use Rattle.mh_handle.specs.Works.{TradesTypes}
use Rattle.mh_handle.proofs.holding.Trading.{trades-row}
use Rattle.mh_branch.proofs.RootAnswers.{throw-answers, throw-makes, throw-ret}
use Rattle.mh_branch.proofs.roots.throw.Goals as goal

pub returns-clause-makes : goal.returns-clause-makes
returns-clause-makes g c =
    throw-makes c.args.ret c.in_ok-shape.shape.ret c.args.w.now c.make_rooted.new.w c.make_rooted.result
    (throw-ret c.classes.result.now c.args.ret c.args.class c.in_ok-own.own c.in_ok-shape.shape c.in_ok-own.ensures c.in_ok-shape.ensures)
    c.make_rooted.ensures.makes

pub returns-clause-stands : goal.returns-clause-stands
returns-clause-stands g c =
    let row : throw_row c.args.w.now.leaves.now.classes c.args.ret c.args.class ≡ Ok c.in_ok-own.own =
    sym (ap (λ cs. throw_row cs c.args.ret c.args.class) c.classes.ensures.classes) ∙ c.in_ok-own.ensures in
    throw-answers c.args.w.now.leaves.now c.args.ret c.args.class c.in_ok-own.own c.in_ok-shape.shape.ret c.new.result.sides c.new.result.fields
    c.make_rooted.result
    c.classes.ensures.are row (throw-ret c.args.w.now.leaves.now.classes c.args.ret c.args.class c.in_ok-own.own c.in_ok-shape.shape row c.in_ok-shape.ensures)
    (ap (λ (p : PartsView). p.sides) c.new.ensures) (ap (λ (p : PartsView). p.fields) c.new.ensures) c.make_rooted.ensures.grows

pub returns-clause-types : goal.returns-clause-types
returns-clause-types g c =
    let row : throw_row c.args.w.now.leaves.now.classes c.args.ret c.args.class ≡ Ok c.in_ok-own.own =
    sym (ap (λ cs. throw_row cs c.args.ret c.args.class) c.classes.ensures.classes) ∙ c.in_ok-own.ensures in
    trades-row (throw_row c.args.w.now.leaves.now.classes c.args.ret c.args.class) c.in_ok-own.own [] c.args.w.now c.make_rooted.new.w c.make_rooted.result row
    (subst (λ (p : PartsView). TradesTypes (c.in_ok-own.own ∷ []) p.held c.args.w.now c.make_rooted.new.w c.make_rooted.result) c.new.ensures
    c.make_rooted.ensures.types)
