use Rattle.std.proofs.Common.{◌∙◌, ap₂, ◌++◌}
use Rattle.mh_drawing.specs.Why.{against_text, apart_line, common}
use Rattle.mh_drawing.proofs.Pieces.{two}
use Rattle.mh_drawing.proofs.why.push_two_forms.Goals as goal

pub returns : goal.returns
returns c =
    let one = c.args.one.now in
    let other = c.args.other.now in
    two _ _ _
    (apart_line c.args.sites.0 c.args.sites.1 one.number other.number) (against_text (common one.recipe other.recipe) one.recipe other.recipe)
    (c.in_ok-push_apart.ensures
    ∙ ap₂ (λ m n. c.args.text.now.items ++ apart_line c.args.sites.0 c.args.sites.1 m n) c.number_of.ensures c.number_of-2.ensures)
    (c.in_ok-push_parting.ensures
    ∙ ap₂ (λ ks ls. c.push_apart.new.text.items ++ against_text (common ks ls) ks ls)
    (c.keys.ensures ∙ c.recipe.ensures) (c.keys-2.ensures ∙ c.recipe-2.ensures))
