use Rattle.std.proofs.Common.{◌∷◌, take, drop, ap, ◌∙◌, List}
use Rattle.mh_form.specs.declared.slot.Slot.{Slot}
use Rattle.mh_form.specs.Stack.{StackView}
use Rattle.mh_form.proofs.Frames.{put-below, put-frame}
use Rattle.mh_form.proofs.stack.Stack.put_first.Goals as goal

pub returns-clause-frame : goal.returns-clause-frame
returns-clause-frame c =
    let b = c.self.inside.base in
    let xs = c.self.inside.slots.items in
    ap (drop b) c.in_ok-insert.ensures.items
    ∙ (put-frame b xs c.args.slot c.self.invariant ∙ ap (λ (F : List Slot). c.args.slot ∷ F) (ap (λ (m : StackView). m.frame) c.self.view_is))

pub returns-clause-below : goal.returns-clause-below
returns-clause-below c =
    let b = c.self.inside.base in
    let xs = c.self.inside.slots.items in
    ap (take b) c.in_ok-insert.ensures.items ∙ (put-below b xs c.args.slot c.self.invariant ∙ ap (λ (m : StackView). m.below) c.self.view_is)
