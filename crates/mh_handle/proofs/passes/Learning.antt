-- What a pass has learnt, by recipe.
use Rattle.std.proofs.Common.{◌≡◌, refl, sym, ◌∙◌, ap, subst, ℕ, zero, suc, Bool, true, false, cond, List, [], ◌∷◌, Option, Some, None}
use Rattle.std.specs.Prelude.{slice_get}
use Rattle.std.specs.List.{find}
use Rattle.mh_edit.specs.declared.key.Key.{Key}
use Rattle.mh_setonce.specs.Walks.{Lacks, Has}
use Rattle.mh_handle.specs.Form.{FormView}
use Rattle.mh_handle.specs.Index.{recipe_of}
use Rattle.mh_handle.specs.Passes.{AreLearnt, AreOneEach, DoMatch, IsUnlearnt, PassView, StaysLearnt, learnt_of}
use Rattle.mh_handle.specs.SameRecipes.{same_recipe}
use Rattle.mh_handle.proofs.recipes.SameRecipes.{same_recipe-decides}

module _ {X : Type 0} (test : X → Bool) where
  -- what is found is one of the list, and passes
  abbrev IsFound : List X → X → Type 0
  IsFound xs x = (i : ℕ) × (slice_get xs i ≡ Some x) × (test x ≡ true)

  found-first : (y : X) (xs : List X) (x : X) (b : Bool) → test y ≡ b → cond b (Some y) (find test xs) ≡ Some x → (find test xs ≡ Some x → IsFound xs x) →
      IsFound (y ∷ xs) x
  found-first y xs x true passes same later = let here : y ≡ x = cc in (zero, same, subst (λ z. test z ≡ true) here passes)
  found-first y xs x false fails rest later = let is = later rest in (suc is.0, is.1, is.2)

  found-is : (xs : List X) (x : X) → find test xs ≡ Some x → IsFound xs x
  found-is [] x e = absurd cc
  found-is (y ∷ xs) x e = found-first y xs x (test y) refl e (found-is xs x)

  -- where nothing is found, nothing passes
  abbrev NonePasses : List X → Type 0
  NonePasses xs = (i : ℕ) (x : X) → slice_get xs i ≡ Some x → test x ≡ false

  none-first : (y : X) (xs : List X) (b : Bool) → test y ≡ b → cond b (Some y) (find test xs) ≡ None → (find test xs ≡ None → NonePasses xs) →
      NonePasses (y ∷ xs)
  none-first y xs true passes same later i x at = absurd cc
  none-first y xs false fails rest later zero x at = let here : y ≡ x = cc in subst (λ z. test z ≡ false) here fails
  none-first y xs false fails rest later (suc i) x at = later rest i x at

  none-passes : (xs : List X) → find test xs ≡ None → NonePasses xs
  none-passes [] e = λ i x at. absurd cc
  none-passes (y ∷ xs) e = none-first y xs (test y) refl e (none-passes xs)

  none-found : (xs : List X) → ((i : ℕ) (x : X) → slice_get xs i ≡ Some x → test x ≡ false) → find test xs ≡ None
  none-found [] none = refl
  none-found (y ∷ xs) none = ap (λ b. cond b (Some y) (find test xs)) (none zero y refl) ∙ none-found xs (λ i x at. none (suc i) x at)

-- where forms with one recipe are one, the one with a recipe is the one that is found
pub has-found : (recipe : List Key) (forms : List FormView) (form : FormView) → AreOneEach forms → Has recipe_of forms recipe form →
    find (λ f. same_recipe recipe f.recipe) forms ≡ Some form
has-found recipe forms form once has = cases (find (λ f. same_recipe recipe f.recipe) forms) refl
  where
    cases : (o : Option FormView) → find (λ f. same_recipe recipe f.recipe) forms ≡ o → o ≡ Some form
    cases None none =
        let fails : same_recipe recipe form.recipe ≡ false = none-passes (λ f. same_recipe recipe f.recipe) forms none has.0 form has.1 in
        let passes : same_recipe recipe form.recipe ≡ true = (same_recipe-decides recipe form.recipe).1 (sym has.2) in
        absurd cc
    cases (Some other) found =
        let is = found-is (λ f. same_recipe recipe f.recipe) forms other found in
        let made : other.recipe ≡ recipe = sym ((same_recipe-decides recipe other.recipe).0 is.2) in
        ap Some (once is.0 has.0 other form is.1 has.1 (made ∙ sym has.2))

pub lacks-found : (recipe : List Key) (forms : List FormView) → Lacks recipe_of forms recipe → find (λ f. same_recipe recipe f.recipe) forms ≡ None
lacks-found recipe forms lacks = none-found (λ f. same_recipe recipe f.recipe) forms (λ i f at. cases f (same_recipe recipe f.recipe) refl (lacks i f at))
  where
    cases : (f : FormView) (b : Bool) → same_recipe recipe f.recipe ≡ b → (f.recipe ≡ recipe → ⊥) → b ≡ false
    cases f true same other = absurd (other (sym ((same_recipe-decides recipe f.recipe).0 same)))
    cases f false same other = refl

-- what was found among forms is found among more of them
pub kept-found : (forms more : List FormView) → AreLearnt more forms → AreOneEach more → (recipe : List Key) (form : FormView) →
    find (λ f. same_recipe recipe f.recipe) forms ≡ Some form → find (λ f. same_recipe recipe f.recipe) more ≡ Some form
kept-found forms more kept once recipe form found =
    let is = found-is (λ f. same_recipe recipe f.recipe) forms form found in
    let there = kept is.0 form is.1 in
    has-found recipe more form once (there.0, there.1, sym ((same_recipe-decides recipe form.recipe).0 is.2))

-- what was not learnt at last was not learnt before
pub unlearnt-before : (recipe : List Key) (old new : PassView) → StaysLearnt old new → IsUnlearnt recipe new → IsUnlearnt recipe old
unlearnt-before recipe old new stays none = cases (learnt_of old recipe) refl
  where
    cases : (o : Option FormView) → learnt_of old recipe ≡ o → o ≡ None
    cases None e = refl
    cases (Some form) e = let later : learnt_of new recipe ≡ Some form = stays recipe form e in absurd cc

-- where forms of two lists with one recipe are one, what is found of a recipe in both is one form
pub found-alike : (forms others : List FormView) → DoMatch forms others → (recipe : List Key) (f g : FormView) →
    find (λ h. same_recipe recipe h.recipe) forms ≡ Some f → find (λ h. same_recipe recipe h.recipe) others ≡ Some g → f ≡ g
found-alike forms others match recipe f g found found' =
    let a = found-is (λ h. same_recipe recipe h.recipe) forms f found in
    let b = found-is (λ h. same_recipe recipe h.recipe) others g found' in
    match a.0 b.0 f g a.1 b.1 (sym ((same_recipe-decides recipe f.recipe).0 a.2) ∙ (same_recipe-decides recipe g.recipe).0 b.2)
