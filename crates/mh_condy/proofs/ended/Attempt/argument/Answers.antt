use Rattle.std.proofs.Common.{◌≡◌, sym, ◌∙◌, ap, subst, None, Some}
use Rattle.std.specs.Prelude.{slice_get}
use Rattle.mh_jobs.specs.declared.unresolved.Part.TheVariants.{Known, Constant}
use Rattle.mh_condy.specs.Nodes.{found_in}
use Rattle.mh_condy.specs.Told.{Tells}
use Rattle.mh_condy.proofs.Givens.{GivesAt, argument-known, argument-none, gives-at}
use Rattle.mh_condy.proofs.Telling.{throws-as}
use Rattle.mh_condy.proofs.ended.Attempt.argument.Goals as goal

pub returns-in-Some-Known : goal.returns-in-Some-Known
returns-in-Some-Known g c arguments given =
    let static = c.args.self.now.call.now.arguments in
    let found = found_in c.args.self.now.pass.now.known in
    let at : slice_get static.parts c.args.number ≡ Some (Known c.in-Some-Known.argument) =
    ap (λ ps. slice_get ps c.args.number) (sym c.as_slice.ensures) ∙ (c.in-Some-Known.ensures ∙ ap (λ p. Some p) c.in-Some-Known.field-0-is) in
    let gives = subst (GivesAt found arguments c.args.number) at (gives-at found static.thrown static.parts arguments given c.args.number) in
    subst (λ m. Tells c.value_of.result m) (sym (argument-known arguments c.args.number c.in-Some-Known.argument gives)) c.value_of.ensures

pub returns-in-Some-Constant : goal.returns-in-Some-Constant
returns-in-Some-Constant g c arguments given =
    let static = c.args.self.now.call.now.arguments in
    let found = found_in c.args.self.now.pass.now.known in
    let at : slice_get static.parts c.args.number ≡ Some (Constant c.in-Some-Constant.c) =
    ap (λ ps. slice_get ps c.args.number) (sym c.as_slice.ensures) ∙ (c.in-Some-Constant.ensures ∙ ap (λ p. Some p) c.in-Some-Constant.field-0-is) in
    let gives = subst (GivesAt found arguments c.args.number) at (gives-at found static.thrown static.parts arguments given c.args.number) in
    subst (λ m. Tells c.constant.result m) (sym (argument-known arguments c.args.number _ gives.2)) (c.constant.ensures gives.0 gives.1)

pub returns-in-None : goal.returns-in-None
returns-in-None g c arguments given =
    let static = c.args.self.now.call.now.arguments in
    let found = found_in c.args.self.now.pass.now.known in
    let at : slice_get static.parts c.args.number ≡ None =
    ap (λ ps. slice_get ps c.args.number) (sym c.as_slice.ensures) ∙ c.in-None.ensures in
    let gives = subst (GivesAt found arguments c.args.number) at (gives-at found static.thrown static.parts arguments given c.args.number) in
    throws-as c.no_argument.result _ _ c.no_argument.ensures (argument-none arguments c.args.number gives)
