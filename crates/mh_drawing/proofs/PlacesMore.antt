-- The places of call sites, one more.
use Rattle.std.proofs.Common.{◌≡◌, sym, ◌∙◌, ap, ap₂, ℕ, ◌+◌, ◌<◌, List, [], ◌∷◌, ◌++◌, map, take, length, get_or, Some, append_assoc}
use Rattle.std.specs.Prelude.{slice_get}
use Rattle.std.proofs.lemmas.List.{map-append, take_more}
use Rattle.std.proofs.lemmas.Option.{get_or_from_slice_get}
use Rattle.mh_classfile.specs.declared.constant.SiteView.{SiteView}
use Rattle.mh_drawing.specs.declared.place.Place.{Place}
use Rattle.mh_drawing.specs.Places.{place_of, places_of}

pub places-more : (name : List ℕ) (sites : List SiteView) (k : ℕ) (site : SiteView) (place : Place) (start old new : List Place) → k < length sites →
    slice_get sites k ≡ Some site → place ≡ place_of name site → old ≡ start ++ places_of name (take k sites) → new ≡ old ++ place ∷ [] →
    new ≡ start ++ places_of name (take (k + 1) sites)
places-more name sites k site place start old new within at is before more =
    let whole : take (k + 1) sites ≡ take k sites ++ site ∷ [] =
    take_more sites k site within ∙ ap (λ s. take k sites ++ s ∷ []) (get_or_from_slice_get sites k site site at) in
    more ∙ ap₂ (λ (xs : List Place) (p : Place). xs ++ p ∷ []) before is
    ∙ append_assoc start (places_of name (take k sites)) (place_of name site ∷ [])
    ∙ ap (λ xs. start ++ xs) (sym (map-append (place_of name) (take k sites) (site ∷ [])) ∙ ap (places_of name) (sym whole))
