use Rattle.std.proofs.Common.{take, drop, ap, ◌∙◌}
use Rattle.mh_form.specs.Stack.{StackView}
use Rattle.mh_form.proofs.Frames.{kept-below, kept-frame}
use Rattle.mh_form.proofs.stack.Stack.keep_first.Goals as goal

pub returns-clause-frame : goal.returns-clause-frame
returns-clause-frame c =
    let b = c.self.inside.base in
    let xs = c.self.inside.slots.items in
    ap (drop b) c.truncate.ensures.items
    ∙ (kept-frame b c.args.kept xs ∙ ap (take c.args.kept) (ap (λ (m : StackView). m.frame) c.self.view_is))

pub returns-clause-below : goal.returns-clause-below
returns-clause-below c =
    let b = c.self.inside.base in
    let xs = c.self.inside.slots.items in
    ap (take b) c.truncate.ensures.items ∙ (kept-below b c.args.kept xs c.self.invariant ∙ ap (λ (m : StackView). m.below) c.self.view_is)
