use Rattle.std.proofs.Common.{refl, ◌∙◌, ap, ap₂, ◌+◌}
use Rattle.mh_form.specs.Erasure.{shape_of}
use Rattle.mh_edit.specs.declared.key.Key.TheVariants as key
use Rattle.mh_more.specs.Several.{weights_of}
use Rattle.mh_more.proofs.SwitchAnswers.{switch-own}
use Rattle.mh_more.proofs.switches.Switched.root.Goals as goal

pub returns-clause-root : goal.returns-clause-root
returns-clause-root c = record {
  typed = refl;
  weighed = λ i. 1 + c.weight.ensures.weight i + (c.weight_of.ensures.weight ∙ ap weights_of c.as_slice.ensures) i;
  keyed =
      ap₂ key.SwitchRoot
      (c.in_ok-shape.ensures ∙ ap shape_of (switch-own c.args.self.now.fallback c.args.self.now.cases c.args.ty c.requires.ruled)) c.len.ensures;
}
