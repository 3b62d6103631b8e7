use Rattle.std.proofs.Common.{◌∷◌, [], ◌∙◌, sym, ap, ap₂}
use Rattle.mh_form.specs.Run.{IsPart, run_body}
use Rattle.mh_values_tests.proofs.parts.run_nested.Goals as goal

-- each part stands for its run
pub run-requires : goal.run-requires
run-requires c =
    let middle = c.in_ok-middle.ensures ∙ ap (λ p. run_body c.args.link.now (IsPart p ∷ [])) c.in_ok-inner.ensures in
    let outer = c.in_ok-outer.ensures ∙ ap (λ p. run_body c.args.twice.now (IsPart p ∷ [])) middle in
    let whole = ap₂ (λ p slots. p slots c.args.n) outer c.in_ok-one.ensures in
    record { well_formed = λ h. c.requires (sym whole ∙ h) }
