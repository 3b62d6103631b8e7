-- Forms that were asked for, found by the hashes of their recipes.
use Rattle.std.proofs.Common.{◌≡◌, ◌≢◌, ℕ, suc, ◌<◌, ◌≤◌, List, [], ◌∷◌, ◌++◌, length, map, sym, ap, ◌∙◌, subst, arith, Option, Some, None}
use Rattle.std.specs.Prelude.{slice_get, slice_index}
use native.Mathlib.Decide.{dec_lt}
use Rattle.std.proofs.lemmas.List.{map-append, length-map}
use Rattle.std.proofs.lemmas.Option.{slice_get-map, get_or_from_slice_get}
use Rattle.std.specs.Option.{option_map}
use Rattle.mh_setonce.specs.Places.{IsLatest}
use Rattle.mh_setonce.specs.Walks.{Distinct, Lacks}
use Rattle.mh_setonce.proofs.Nodes.{distinct-push}
use Rattle.mh_edit.specs.declared.key.Key.{Key}
use Rattle.mh_handle.specs.Form.{FormView}
use Rattle.mh_handle.specs.Hashes.{hash_of}
use Rattle.mh_handle.specs.Index.{AreSeen, hashes_of, recipe_of}

pub mapped-push : {A B : Type 0} (f : A → B) (xs ys zs : List A) (x : A) → zs ≡ ys ++ x ∷ [] → ys ≡ xs → map f zs ≡ map f xs ++ f x ∷ []
mapped-push f xs ys zs x e d = ap (map f) e ∙ (map-append f ys (x ∷ []) ∙ ap (λ v. map f v ++ f x ∷ []) d)

none : Distinct {V = FormView} {K = List Key} recipe_of []
none i j x y p q e = cc

-- with one form more
pub seen-more : (forms forms' : List FormView) (hashes hashes' : List ℕ) (form : FormView) (hash : ℕ) → AreSeen forms hashes →
    Lacks recipe_of forms form.recipe → forms' ≡ forms ++ form ∷ [] → hashes' ≡ hashes ++ hash ∷ [] → hash ≡ hash_of form.recipe → AreSeen forms' hashes'
seen-more forms forms' hashes hashes' form hash old new f h is =
    subst (λ v. AreSeen v hashes') (sym f) (record {
      hashes_is = h ∙ (ap (λ v. v ++ hash ∷ []) old.hashes_is ∙ (ap (λ n. hashes_of forms ++ n ∷ []) is
          ∙ sym (map-append (λ g. hash_of g.recipe) forms (form ∷ []))));
      once = distinct-push recipe_of forms form old.once new;
    })

-- the hash of a form at its place
hash-at : (forms : List FormView) (hashes : List ℕ) (i : ℕ) (f : FormView) → hashes ≡ hashes_of forms → slice_get forms i ≡ Some f →
    slice_index hashes i ≡ hash_of f.recipe
hash-at forms hashes i f is at = ap (λ v. slice_index v i) is ∙
    get_or_from_slice_get (hashes_of forms) i (hash_of f.recipe) 0 (slice_get-map (λ g. hash_of g.recipe) forms i ∙ ap (option_map (λ g. hash_of g.recipe)) at)

-- no form from a place on has the recipe
abbrev pub LacksFrom : List FormView → List Key → ℕ → Type 0
LacksFrom forms recipe place = (i : ℕ) (f : FormView) → slice_get forms i ≡ Some f → place ≤ i → f.recipe ≢ recipe

-- what the search for a recipe knows: no form from some place on has it, and the next place that may have it is the latest with its hash before that one
pub record Searched (forms : List FormView) (hashes : List ℕ) (recipe : List Key) (next : Option ℕ) : Type 0 where
  pub place : ℕ
  pub low : place ≤ length hashes
  pub latest : IsLatest hashes (hash_of recipe) place next
  pub lacks : LacksFrom forms recipe place

-- the place that comes next is one of a form
pub searched-within : (forms : List FormView) (hashes : List ℕ) (recipe : List Key) (next : Option ℕ) (place : ℕ) → AreSeen forms hashes →
    Searched forms hashes recipe next → next ≡ Some place → (place < length forms) × (place < length hashes)
searched-within forms hashes recipe next place all so is =
    let here : IsLatest hashes (hash_of recipe) so.place (Some place) = subst (IsLatest hashes (hash_of recipe) so.place) is so.latest in
    (omega (arith, here.0, so.low, length-map forms (λ g. hash_of g.recipe), ap length all.hashes_is), omega (arith, here.0, so.low))

pub searched-next : (forms : List FormView) (hashes : List ℕ) (recipe : List Key) (next after : Option ℕ) (place : ℕ) (form : FormView) → AreSeen forms hashes →
    Searched forms hashes recipe next → next ≡ Some place → slice_get forms place ≡ Some form → form.recipe ≢ recipe →
    IsLatest hashes (slice_index hashes place) place after → Searched forms hashes recipe after
searched-next forms hashes recipe next after place form all so is at_place other latest = record {
  place = place;
  low = omega (arith, here.0, so.low);
  latest = subst (λ n. IsLatest hashes n place after) here.1 latest;
  lacks = λ i f at past same. cases i f at past same (dec_lt place i) (dec_lt i so.place);
}
  where
    here : IsLatest hashes (hash_of recipe) so.place (Some place)
    here = subst (IsLatest hashes (hash_of recipe) so.place) is so.latest

    cases : (i : ℕ) (f : FormView) → slice_get forms i ≡ Some f → place ≤ i → f.recipe ≡ recipe → Dec (place < i) → Dec (i < so.place) → ⊥
    cases i f at past same (yes above) (yes below) = here.2 i above below (hash-at forms hashes i f all.hashes_is at ∙ ap hash_of same)
    cases i f at past same (yes above) (no not) = so.lacks i f at (omega arith) same
    cases i f at past same (no not) _ =
        let e : i ≡ place = omega arith in
        let w : Some f ≡ Some form = sym at ∙ (ap (slice_get forms) e ∙ at_place) in
        let g : f ≡ form = cc in
        other (ap recipe_of (sym g) ∙ same)

pub searched-none : (forms : List FormView) (hashes : List ℕ) (recipe : List Key) (next : Option ℕ) → AreSeen forms hashes →
    Searched forms hashes recipe next → next ≡ None → Lacks recipe_of forms recipe
searched-none forms hashes recipe next all so is i f at same = cases (dec_lt i so.place)
  where
    here : IsLatest hashes (hash_of recipe) so.place None
    here = subst (IsLatest hashes (hash_of recipe) so.place) is so.latest

    cases : Dec (i < so.place) → ⊥
    cases (yes below) = here i below (hash-at forms hashes i f all.hashes_is at ∙ ap hash_of same)
    cases (no not) = so.lacks i f at (omega arith) same

-- how many places the search may still look at
abbrev pub turns : Option ℕ → ℕ
turns None = 0
turns (Some place) = suc place
