use Rattle.std.proofs.Common.{◌≡◌, ◌∙◌, sym, ap, ◌+◌, [], ◌∷◌, ◌++◌, arith}
use Rattle.std.proofs.lemmas.List.FromFn.{map-range_with_len_more}
use Rattle.mh_generated.specs.Sites.{site_of}
use Rattle.mh_generated.proofs.sites.all_sites.Goals as goal

pub loop-place-preserved : goal.loop-place-preserved
loop-place-preserved c =
    let number = c.args.number in
    let place = c.loop-place.place in
    let here : 0 + place ≡ place = omega arith in
    c.in_ok-push.ensures.ok ∙ ap (λ site. c.loop-place.sites ++ site ∷ []) c.in_ok-site.ensures
    ∙ ap (λ sites. sites ++ site_of number place ∷ []) c.loop-place.invariant
    ∙ sym (map-range_with_len_more (site_of number) 0 place place here)
