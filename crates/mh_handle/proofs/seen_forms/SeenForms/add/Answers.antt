use Rattle.std.proofs.Common.{ap, ◌∙◌, arith, map, ◌++◌, ◌∷◌, []}
use Rattle.mh_handle.specs.Hashes.{hash_of}
use Rattle.mh_handle.proofs.passes.Asked.{mapped-push, seen-more}
use Rattle.mh_handle.proofs.seen_forms.SeenForms.add.Goals as goal

pub invariant_of-self-2 : goal.invariant_of-self-2
invariant_of-self-2 c = (
  seen-more (map (λ f. f.now) c.self.inside.forms.items) _ c.self.inside.places.hashes _ c.args.form.now c.hash.result c.self.invariant.0
      (rw (← c.self.view_is) at c.requires)
      (mapped-push (λ f. f.now) c.self.inside.forms.items _ _ c.args.form c.push_reserved.ensures.items c.in_ok-reserve.ensures.items)
      (c.add.ensures.hashes ∙ ap (λ v. v ++ c.hash.result ∷ []) c.in_ok-reserve-2.ensures.hashes)
      (c.hash.ensures.hash ∙ ap hash_of c.recipe.ensures),
  omega (arith, c.len.ensures, c.if-len.false, c.push_reserved.ensures.len, c.in_ok-reserve.ensures.len),
)
