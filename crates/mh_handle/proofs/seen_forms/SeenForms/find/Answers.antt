use Rattle.std.proofs.Common.{arith, map, ◌∙◌}
use Rattle.std.proofs.lemmas.List.{length-map}
use Rattle.mh_setonce.proofs.Nodes.{name_at}
use Rattle.mh_handle.proofs.passes.Asked.{searched-next, searched-none, searched-within}
use Rattle.mh_handle.proofs.seen_forms.SeenForms.find.Goals as goal

pub loop-next-preserved : goal.loop-next-preserved
loop-next-preserved g c =
    let forms = map (λ f. f.now) c.self.inside.forms.items in
    let recipe = g.S.Sought.recipe c.args.sought.now in
    let within =
    searched-within forms c.self.inside.places.hashes recipe c.loop-next.next c.in-Some.place c.self.invariant.0 c.loop-next.invariant c.in-Some.is in
    searched-next forms c.self.inside.places.hashes recipe c.loop-next.next c.earlier-next.result c.in-Some.place c.index-form.result.now.now c.self.invariant.0
    c.loop-next.invariant c.in-Some.is
    (name_at (λ f. f.now) c.self.inside.forms.items c.in-Some.place c.index-form.result.now
    (omega (arith, within.0, length-map c.self.inside.forms.items (λ f. f.now))) c.index-form.ensures)
    (λ e. let t = c.is_recipe.ensures.1 (c.recipe.ensures ∙ e) in let f = c.if-is_recipe.false in (cc)) c.earlier-next.ensures

pub returns : goal.returns
returns g c = rw (← c.self.view_is) (searched-none (map (λ f. f.now) c.self.inside.forms.items) c.self.inside.places.hashes
    (g.S.Sought.recipe c.args.sought.now) c.loop-next.next c.self.invariant.0 c.loop-next.invariant c.in_default.is)
