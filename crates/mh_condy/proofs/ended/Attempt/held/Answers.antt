use Rattle.std.proofs.Common.{◌≡◌, refl, sym, ◌∙◌, ap, subst, true, false, Ok, w64}
use Rattle.std.proofs.lemmas.Int.{to_z_pos}
use Rattle.mh_values.specs.declared.value.Num.TheVariants as num
use Rattle.mh_values.specs.declared.value.Value.TheVariants as values
use Rattle.mh_link.specs.ConstScripts.{value_held}
use Rattle.mh_condy.specs.Frames.{frame_of, start_of}
use Rattle.mh_condy.specs.Lines.{is_assigned}
use Rattle.mh_condy.specs.Told.{Tells}
use Rattle.mh_condy.proofs.Scripting.{held-argument, held-assigned, held-name}
use Rattle.mh_condy.proofs.Telling.{throws-as}
use Rattle.mh_condy.proofs.ended.Attempt.held.Goals as goal

pub returns-in_ok-copy-in-SiteName : goal.returns-in_ok-copy-in-SiteName
returns-in_ok-copy-in-SiteName g c arguments given =
    ap (value_held (frame_of c.args.self.now c.args.script.now arguments)) c.in-SiteName.is
    ∙ (held-name c.args.script.now.steps (start_of c.args.self.now arguments) ∙ ap (λ n. Ok (values.Text n)) (sym c.in_ok-copy-in-SiteName.ensures))

pub returns-in-Argument : goal.returns-in-Argument
returns-in-Argument g c arguments given =
    subst (λ m. Tells c.argument.result m)
    (sym (ap (value_held (frame_of c.args.self.now c.args.script.now arguments)) c.in-Argument.is
    ∙ held-argument c.args.script.now.steps (start_of c.args.self.now arguments) c.in-Argument.number))
    (c.argument.ensures arguments given)

pub returns-then-not-is_assigned : goal.returns-then-not-is_assigned
returns-then-not-is_assigned g c arguments given =
    throws-as c.no_argument.result _ _ c.no_argument.ensures
    (ap (value_held (frame_of c.args.self.now c.args.script.now arguments)) c.in-Assigned.is
    ∙ held-assigned c.args.script.now.steps (start_of c.args.self.now arguments) c.in-Assigned.name false
    (let steps : is_assigned c.args.script.now.steps c.in-Assigned.name ≡ false = cc in steps) refl)

pub returns-else-not-is_assigned : goal.returns-else-not-is_assigned
returns-else-not-is_assigned g c arguments given =
    ap (value_held (frame_of c.args.self.now c.args.script.now arguments)) c.in-Assigned.is
    ∙ (held-assigned c.args.script.now.steps (start_of c.args.self.now arguments) c.in-Assigned.name true
    (let steps : is_assigned c.args.script.now.steps c.in-Assigned.name ≡ true = cc in steps) refl
    ∙ ap (λ n. Ok (values.Boxed (num.J n))) (sym (to_z_pos w64 c.args.self.now.serial c.requires.serial)))
