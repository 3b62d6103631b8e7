use Rattle.std.proofs.Common.{◌≡◌, ◌∷◌, [], ◌∙◌, sym, ap}
use Rattle.mh_form.specs.declared.name.Name.TheVariants.{Link}
use Rattle.mh_values_tests.specs.Host.{naming, nested_on}
use Rattle.mh_values_tests.proofs.parts.nested.Goals as goal

-- the bodies are those of the definition
pub run_nested-requires : goal.run_nested-requires
run_nested-requires c =
    let link : c.in_ok-link.link ≡ naming (Link 0 (0 ∷ [])) 1 = c.in_ok-link.ensures ∙ ap (λ places. naming (Link 0 places) 1) c.in_ok-one_place.ensures in
    λ h. c.requires ((λ i. nested_on c.args.leaves.now (sym c.in_ok-call.ensures i) (sym link i) (sym c.in_ok-twice.ensures i) c.args.leaf c.args.arg c.args.n)
    ∙ h)
