use Rattle.std.proofs.Common.{◌≡◌, sym, subst, ℕ, List, [], ◌∷◌, length, arith}
use Rattle.std.specs.Prelude.{All}
use Rattle.std.proofs.lemmas.List.Elements.{All-append, All-cons, All-nil}
use Rattle.mh_script.specs.declared.script.Script.{Script}
use Rattle.mh_script.specs.Index.{FindsFirst, KnowsOneMore}
use Rattle.mh_script.specs.Limits.{CanRun}
use Rattle.mh_script.proofs.Places.{places-more}
use Rattle.mh_script.proofs.scripts.Scripts.with.Goals as goal

pub invariant_of-result : goal.invariant_of-result
invariant_of-result c =
    let method = c.args.script.method in
    let old = c.self.inside.places in
    let new = c.in_ok-places.places in
    let number = c.in_ok-number.number in
    let here : number ≡ length c.self.inside.scripts.items = omega (arith, c.in_ok-number.ensures, c.len.ensures) in
    let first : FindsFirst old new method.owner method.name method.descriptor number =
    subst (λ (o : List ℕ). FindsFirst old new o method.name method.descriptor number) c.as_slice.ensures
    (subst (λ (m : List ℕ). FindsFirst old new c.as_slice.result.now m method.descriptor number) c.as_slice-2.ensures
    (subst (λ (d : List ℕ). FindsFirst old new c.as_slice.result.now c.as_slice-2.result.now d number) c.as_slice-3.ensures c.in_ok-places.ensures.found)) in
    let knows : KnowsOneMore old new method.owner = subst (λ (o : List ℕ). KnowsOneMore old new o) c.as_slice.ensures c.in_ok-places.ensures.owners in
    let one : List Script = c.args.script ∷ [] in (
      places-more old new c.self.inside.scripts.items c.push.new.self.items c.args.script number c.self.invariant.0 here first knows c.in_ok-push.ensures.items,
      subst (All CanRun) (sym c.in_ok-push.ensures.items) (All-append CanRun c.self.inside.scripts.items one c.self.invariant.1
          (All-cons CanRun c.args.script [] c.requires (All-nil CanRun))),
    )
