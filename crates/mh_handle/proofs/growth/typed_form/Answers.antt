use Rattle.std.proofs.Common.{sym, subst, Err}
use Rattle.mh_handle.specs.Works.{TradesForm}
use Rattle.mh_handle.proofs.holding.UnformedHandles.{form-unmade}
use Rattle.mh_handle.proofs.growth.typed_form.Goals as goal

pub returns-in-Err-clause-types : goal.returns-in-Err-clause-types
returns-in-Err-clause-types g c =
    subst (λ e. TradesForm c.args.ty c.args.w.now c.let_go.new.self (Err e)) (sym c.from.ensures)
    (form-unmade c.args.ty c.in_ok-own.own c.args.w.now c.hold.new.self c.edit.new.self c.let_go.new.self c.in-Err.error c.in_ok-own.ensures.types
    c.edit.ensures.seat c.let_go.ensures.types)
