use Rattle.std.proofs.Common.{◌≡◌, ◌+◌, refl, sym, ap, ◌∙◌, subst, map, take, ◌++◌, List, ◌∷◌, [], Some}
use Rattle.std.specs.Prelude.{slice_get}
use Rattle.std.proofs.lemmas.List.{take_more, take-map}
use Rattle.mh_setonce.proofs.Nodes.{name_at}
use Rattle.mh_setonce.specs.Walks.{Distinct, Has, Lacks}
use Rattle.mh_handle.specs.Form.{FormView}
use Rattle.mh_handle.specs.Index.{recipe_of}
use Rattle.mh_handle.specs.Joins.{unasked}
use Rattle.mh_handle.proofs.passes.Asked.{mapped-push}
use Rattle.mh_handle.proofs.passes.JoinedForms.{finds-none, finds-some, joined-new, joined-old, lacks-before}
use Rattle.mh_handle.proofs.seen_forms.SeenForms.joined.Goals as goal
use Rattle.mh_handle.proofs.seen_forms.SeenForms.joined.Goals.{then-is_none+in_ok-add, else-is_none}

pub loop-form-preserved : goal.loop-form-preserved
loop-form-preserved c =
    let items = c.as_slice-form-items.result.now in
    let i = c.loop-form.form-index in
    let form = c.form-item.result in
    let asked = c.args.self.now in
    let forms : List FormView = map (λ f. f.now) items in
    let front : List FormView = map (λ f. f.now) (take i items) in
    let taken : take (i + 1) items ≡ take i items ++ form ∷ [] =
    take_more items i form c.loop-form-test.true ∙ ap (λ x. take i items ++ x ∷ []) (sym c.form-item.is) in
    let more : map (λ f. f.now) (take (i + 1) items) ≡ front ++ form.now ∷ [] =
    mapped-push (λ f. f.now) (take i items) (take i items) (take (i + 1) items) form taken refl in
    let once : Distinct recipe_of forms =
    subst (λ v. Distinct recipe_of (map (λ f. f.now) v)) (sym c.as_slice-form-items.ensures.value) c.others.invariant.0.once in
    let at : slice_get forms i ≡ Some form.now = name_at (λ f. f.now) items i form c.loop-form-test.true c.form-item.is in
    let before : Lacks recipe_of front form.now.recipe =
    subst (λ v. Lacks recipe_of v form.now.recipe) (take-map (λ f. f.now) i items) (lacks-before forms i form.now once at) in
    let so_far : c.loop-form.all ≡ asked ++ unasked asked front = c.loop-form.invariant in
    let step : c.if-is_none.all ≡ asked ++ unasked asked (front ++ form.now ∷ []) =
    elim c.if-is_none.branch [
      | then-is_none+in_ok-add w ↦
          let lacks =
          finds-none recipe_of c.loop-form.all c.recipe.result.now c.find.result c.is_none.result c.find.ensures c.is_none.ensures w.if-is_none.true in
          w.all-is ∙ (w.in_ok-add.ensures.ok ∙ (ap (λ v. v ++ form.now ∷ []) so_far ∙ sym (joined-new asked front form.now
          (subst (λ v. Lacks recipe_of v form.now.recipe) so_far (subst (Lacks recipe_of c.loop-form.all) c.recipe.ensures lacks)))))
      | else-is_none w ↦
          let has =
          finds-some recipe_of c.loop-form.all c.recipe.result.now c.find.result c.is_none.result c.find.ensures c.is_none.ensures w.if-is_none.false in
          w.all-is ∙ (so_far ∙ sym (joined-old asked front form.now has.0 before
          (subst (λ v. Has recipe_of v form.now.recipe has.0) so_far (subst (λ r. Has recipe_of c.loop-form.all r has.0) c.recipe.ensures has.1))))
    ] in
    step ∙ ap (λ v. asked ++ unasked asked v) (sym more)
