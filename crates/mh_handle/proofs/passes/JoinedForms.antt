-- Forms that were asked for, and those of another list that have a recipe of their own.
use Rattle.std.proofs.Common.{◌≡◌, refl, sym, ap, ◌∙◌, subst, ℕ, suc, ◌<◌, Bool, true, false, ◌||◌, cond, List, [], ◌∷◌, ◌++◌, append-nil, append_assoc, length, take, drop, Some, ⊎_elim, arith}
use denote.Ref.{Bor}
use Rattle.std.specs.Prelude.{slice_get, not, is_some, Option, None}
use Rattle.std.specs.List.{list_any}
use Rattle.std.proofs.lemmas.List.{length-take-le, take-append-drop}
use Rattle.std.proofs.lemmas.List.Elements.{filter-append}
use Rattle.std.proofs.lemmas.Map.Keys.{any_passes_from_place}
use Rattle.std.proofs.lemmas.Option.{slice_get_within}
use Rattle.mh_setonce.specs.Walks.{Distinct, FindsNode, Has, Lacks}
use Rattle.mh_edit.specs.declared.key.Key.{Key}
use Rattle.mh_edit.proofs.Renaming.{slice_get-append_left}
use Rattle.mh_handle.specs.Form.{FormView}
use Rattle.mh_handle.specs.Index.{recipe_of}
use Rattle.mh_handle.specs.Joins.{unasked}
use Rattle.mh_handle.specs.SameRecipes.{same_recipe}
use Rattle.mh_handle.proofs.chains.Members.{IsIn, in-either, passing-in}
use Rattle.mh_handle.proofs.recipes.SameRecipes.{same_recipe-decides}

-- whether a form of the recipe was asked for
abbrev pub is_asked : List FormView → List Key → Bool
is_asked asked recipe = list_any (λ g. same_recipe recipe g.recipe) asked

any-there : (asked : List FormView) (recipe : List Key) (g : FormView) → IsIn asked g → recipe ≡ g.recipe → is_asked asked recipe ≡ true
any-there asked recipe g at e = any_passes_from_place (λ h. same_recipe recipe h.recipe) asked at.0 g at.1 ((same_recipe-decides recipe g.recipe).1 e)

any-none : (asked : List FormView) (recipe : List Key) → Lacks recipe_of asked recipe → is_asked asked recipe ≡ false
any-none [] recipe none = refl
any-none (g ∷ asked) recipe none = cases (same_recipe recipe g.recipe) refl (any-none asked recipe (λ i h at. none (suc i) h at))
  where
    cases : (b : Bool) → same_recipe recipe g.recipe ≡ b → is_asked asked recipe ≡ false → (b || is_asked asked recipe) ≡ false
    cases true same rest = absurd (none 0 g refl (sym ((same_recipe-decides recipe g.recipe).0 same)))
    cases false other rest = rest

module _ (asked forms : List FormView) (form : FormView) where
  pushed : (b : Bool) → is_asked asked form.recipe ≡ b → unasked asked (forms ++ form ∷ []) ≡ unasked asked forms ++ cond (not b) (form ∷ []) []
  pushed b is = filter-append (λ f. not (is_asked asked f.recipe)) forms (form ∷ [])
      ∙ ap (λ c. unasked asked forms ++ cond (not c) (form ∷ []) []) is

  -- one that has a recipe of its own
  pub joined-new : Lacks recipe_of (asked ++ unasked asked forms) form.recipe → asked ++ unasked asked (forms ++ form ∷ []) ≡ (asked ++ unasked asked forms)
      ++ form ∷ []
  joined-new lacks =
      let none : Lacks recipe_of asked form.recipe = λ i g at. lacks i g (slice_get-append_left asked (unasked asked forms) i g at) in
      ap (λ v. asked ++ v) (pushed false (any-none asked form.recipe none)) ∙ sym (append_assoc asked (unasked asked forms) (form ∷ []))

  -- one whose recipe was asked for
  pub joined-old : (g : FormView) → Lacks recipe_of forms form.recipe → Has recipe_of (asked ++ unasked asked forms) form.recipe g →
      asked ++ unasked asked (forms ++ form ∷ []) ≡ asked ++ unasked asked forms
  joined-old g lacks has = ⊎_elim
      (λ (here : IsIn asked g). ap (λ v. asked ++ v) (pushed true (any-there asked form.recipe g here (sym has.2)) ∙ append-nil (unasked asked forms)))
      (λ (there : IsIn (unasked asked forms) g).
      let is = passing-in (λ f. not (is_asked asked f.recipe)) forms g there in
      absurd (lacks is.0.0 g is.0.1 has.2))
      (in-either asked (unasked asked forms) g (has.0, has.1))

-- of forms with recipes of their own, none before a form has its recipe
pub lacks-before : (forms : List FormView) (i : ℕ) (form : FormView) → Distinct recipe_of forms → slice_get forms i ≡ Some form →
    Lacks recipe_of (take i forms) form.recipe
lacks-before forms i form once at j g at_j same =
    let there : slice_get forms j ≡ Some g =
    subst (λ v. slice_get v j ≡ Some g) (take-append-drop i forms) (slice_get-append_left (take i forms) (drop i forms) j g at_j) in
    let low : j < length (take i forms) = slice_get_within (take i forms) j g at_j in
    let within : i < length forms = slice_get_within forms i form at in
    let few : length (take i forms) ≡ i = length-take-le i forms (omega arith) in
    let place : j ≡ i = once j i g form there at same in
    omega (arith, low, few, place)

-- ---- what a search found

pub finds-none : {K : Type 0} (key : FormView → K) (forms : List FormView) (k : K) (found : Option (Bor FormView)) (none : Bool) → FindsNode key forms k found →
    is_some found ≡ not none → none ≡ true → Lacks key forms k
finds-none key forms k None none finds is passes = finds
finds-none key forms k (Some form) none finds is passes = absurd cc

pub finds-some : {K : Type 0} (key : FormView → K) (forms : List FormView) (k : K) (found : Option (Bor FormView)) (none : Bool) → FindsNode key forms k found →
    is_some found ≡ not none → none ≡ false → (form : FormView) × Has key forms k form
finds-some key forms k None none finds is fails = absurd cc
finds-some key forms k (Some form) none finds is fails = (form.now, finds)
