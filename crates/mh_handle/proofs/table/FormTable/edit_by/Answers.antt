use Rattle.std.proofs.Common.{◌≡◌, ◌++◌, ◌∷◌, [], ap, ◌∙◌, sym, subst, refl, Ok}
use Rattle.mh_edit.specs.Applied.{applied}
use Rattle.mh_handle.specs.Form.{body_of}
use Rattle.mh_handle.specs.Passes.{Edits}
use Rattle.mh_handle.proofs.recipes.Recipes.{body_of-snoc}
use Rattle.mh_handle.proofs.passes.Passing.{lacks-same}
use Rattle.mh_handle.proofs.passes.Edits.{edits-made, edits-seen}
use Rattle.mh_handle.proofs.table.FormTable.edit_by.Goals as goal

pub ask_shown-requires-clause-new : goal.ask_shown-requires-clause-new
ask_shown-requires-clause-new g c =
    let seen : c.in_ok-recipe.recipe ≡ c.recipe.result.now ++ c.args.key.now ∷ [] =
    c.in_ok-recipe.ensures ∙ ap (λ v. v ++ c.args.key.now ∷ []) (c.recipe-2.ensures ∙ sym c.recipe.ensures) in
    lacks-same c.args.pass.now.asked c.args.pass.now.asked (c.recipe.result.now ++ c.args.key.now ∷ []) c.in_ok-recipe.recipe c.in_default.ensures.seen refl
    seen

pub make-requires-clause-body : goal.make-requires-clause-body
make-requires-clause-body g c =
    c.in_ok-body.ensures.exact ∙ (ap (applied c.args.key.now) c.body.ensures ∙ (sym (body_of-snoc c.args.form.now.recipe c.args.key.now)
    ∙ ap body_of (ap (λ v. v ++ c.args.key.now ∷ []) (sym c.recipe-2.ensures) ∙ sym c.in_ok-recipe.ensures)))

pub returns-in-Some-clause-edits : goal.returns-in-Some-clause-edits
returns-in-Some-clause-edits g c =
    subst (λ v. Edits v c.args.pass.now c.args.pass.now (Ok c.in-Some.seen)) (ap (λ v. v ++ c.args.key.now ∷ []) c.recipe.ensures)
    (edits-seen (c.recipe.result.now ++ c.args.key.now ∷ []) c.args.pass.now c.in-Some.seen c.in-Some.ensures.seen c.in-Some.ensures.form)

pub returns-in-Some-2-clause-edits : goal.returns-in-Some-2-clause-edits
returns-in-Some-2-clause-edits g c =
    let e : c.in_ok-recipe.recipe ≡ c.args.form.now.recipe ++ c.args.key.now ∷ [] =
    c.in_ok-recipe.ensures ∙ ap (λ v. v ++ c.args.key.now ∷ []) c.recipe-2.ensures in
    subst (λ v. Edits v c.args.pass.now c.ask_shown.new.self (Ok c.in-Some-2.found)) e (rw c.in-Some-2.is at c.in_ok-found.ensures.asks)

pub returns-clause-edits : goal.returns-clause-edits
returns-clause-edits g c =
    let e : c.in_ok-recipe.recipe ≡ c.args.form.now.recipe ++ c.args.key.now ∷ [] =
    c.in_ok-recipe.ensures ∙ ap (λ v. v ++ c.args.key.now ∷ []) c.recipe-2.ensures in
    let seen : c.in_ok-recipe.recipe ≡ c.recipe.result.now ++ c.args.key.now ∷ [] = e ∙ ap (λ v. v ++ c.args.key.now ∷ []) (sym c.recipe.ensures) in
    let shown = rw c.in_default-2.is at c.in_ok-found.ensures.asks in
    subst (λ v. Edits v c.args.pass.now c.make.new.self c.make.result) e
    (edits-made c.in_ok-recipe.recipe c.args.pass.now c.ask_shown.new.self c.make.new.self shown.0
    (lacks-same c.args.pass.now.asked c.args.pass.now.asked (c.recipe.result.now ++ c.args.key.now ∷ []) c.in_ok-recipe.recipe c.in_default.ensures.seen refl
    seen)
    shown.1 c.make.result c.make.ensures.makes c.make.ensures.form)
