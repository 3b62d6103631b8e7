-- Forms by the hashes of their recipes.
use Rattle.std.specs.Prelude.{◌≡◌, ℕ, List, map}
use Rattle.mh_edit.specs.declared.key.Key.{Key}
use Rattle.mh_setonce.specs.Walks.{Distinct}
use Rattle.mh_handle.specs.Form.{FormView}
use Rattle.mh_handle.specs.Hashes.{hash_of}

-- the recipe of a form
abbrev pub recipe_of : FormView → List Key
recipe_of form = form.recipe

-- the hashes of forms
abbrev pub hashes_of : List FormView → List ℕ
hashes_of forms = map (λ f. hash_of f.recipe) forms

-- forms with different recipes, and the hash of each recipe
pub record AreSeen (forms : List FormView) (hashes : List ℕ) : Type 0 where
  pub hashes_is : hashes ≡ hashes_of forms
  pub once : Distinct recipe_of forms
