use Rattle.std.proofs.Common.{◌≡◌, sym, ◌∙◌, ap, ◌-◌, [], ◌∷◌, ◌++◌, length, Some}
use Rattle.std.specs.Prelude.{slice_get}
use Rattle.mh_drawing.specs.Drawing.{is_then, last_key}
use Rattle.mh_drawing.proofs.Origins.{then_decides}
use Rattle.mh_drawing.proofs.node.is_made_of.Goals as goal

pub returns-in-Some : goal.returns-in-Some
returns-in-Some c =
    let recipe = c.args.recipe.now in
    let key = c.in-Some.last.now in
    let is : last_key recipe ≡ Some key =
    ap (λ keys. slice_get keys (length keys - 1)) (sym c.keys.ensures) ∙ sym c.in-Some.ensures.value in
    then_decides recipe (c.args.origin.now ++ key ∷ []) c.is_then.result c.is_then.ensures ∙ sym (ap (is_then recipe c.args.origin.now) is)
