use Rattle.std.proofs.Common.{◌≡◌, sym, subst, ap, ◌∙◌, [], ◌∷◌, Ok}
use Rattle.mh_convert.specs.Conversion.{fit}
use Rattle.mh_tree.specs.Rows.{constant_row}
use Rattle.mh_handle.specs.Parts.{PartsView}
use Rattle.mh_handle.specs.Works.{TradesTypes}
use Rattle.mh_handle.proofs.holding.Trading.{trades-row}
use Rattle.mh_branch.proofs.RootAnswers.{constant-answers}
use Rattle.mh_branch.proofs.roots.constant.Goals as goal

pub returns-clause-stands : goal.returns-clause-stands
returns-clause-stands g c =
    let row : constant_row c.args.w.now.leaves.now.classes c.args.ty c.args.value ≡ Ok c.in_ok-own.own =
    sym (ap (λ cs. constant_row cs c.args.ty c.args.value) c.classes-classes.ensures) ∙ c.in_ok-own.ensures in
    let fits : fit c.args.w.now.leaves.now.classes c.args.value c.in-Some.ret ≡ Ok c.fitted.result =
    sym (ap (λ cs. fit cs c.args.value c.in-Some.ret) c.classes-classes.ensures) ∙ c.fitted.ensures in
    constant-answers c.args.w.now.leaves.now c.args.ty c.args.value c.in_ok-own.own c.in-Some.ret c.fitted.result c.erase-slot.result c.basic_of.result
    c.of_fields.result.sides c.of_fields.result.fields c.make_rooted.result
    row c.in-Some.is fits c.erase-slot.ensures c.basic_of.ensures (ap (λ (p : PartsView). p.sides) c.of_fields.ensures)
    (ap (λ (p : PartsView). p.fields) c.of_fields.ensures ∙ c.in_ok-fields.ensures) c.make_rooted.ensures.grows

pub returns-clause-types : goal.returns-clause-types
returns-clause-types g c =
    let row : constant_row c.args.w.now.leaves.now.classes c.args.ty c.args.value ≡ Ok c.in_ok-own.own =
    sym (ap (λ cs. constant_row cs c.args.ty c.args.value) c.classes-classes.ensures) ∙ c.in_ok-own.ensures in
    trades-row (constant_row c.args.w.now.leaves.now.classes c.args.ty c.args.value) c.in_ok-own.own [] c.args.w.now c.make_rooted.new.w c.make_rooted.result
    row
    (subst (λ (p : PartsView). TradesTypes (c.in_ok-own.own ∷ []) p.held c.args.w.now c.make_rooted.new.w c.make_rooted.result)
    c.of_fields.ensures c.make_rooted.ensures.types)
