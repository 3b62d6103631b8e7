use Rattle.std.proofs.Common.{◌≡◌, ◌∷◌, [], ◌∙◌, ap, rules, map}
use Rattle.mh_form.specs.declared.field.Field.TheVariants.{Part}
use Rattle.mh_form.specs.Run.{IsPart, run_body, run_bound, sense}
use Rattle.mh_form.proofs.Fields.{sense-Part}
use Rattle.mh_values_tests.proofs.parts.on_part.Goals as goal

-- the one field is a part, which stands for its run
pub returns : goal.returns
returns c =
    let table = c.args.leaves.now in
    let box = c.in_ok-new.field-0 in
    let items : c.push.new.self.items ≡ Part box ∷ [] = search rules in
    let value : box.value ≡ c.args.part = search rules in
    ap (λ xs. run_body c.args.body.now (map (sense table) xs)) items
    ∙ ap (λ s. run_body c.args.body.now (s ∷ [])) (sense-Part table box ∙ ap (λ b. IsPart (run_bound table b)) value)
