-- Forms as contracts see them: a number and a recipe, which determines the body.
use Rattle.std.specs.Prelude.{ℕ, List, [], ◌∷◌}
use Rattle.mh_form.specs.declared.body.FormBody.{FormBody}
use Rattle.mh_form.specs.Body.{nothing}
use Rattle.mh_edit.specs.declared.key.Key.{Key}
use Rattle.mh_edit.specs.Applied.{applied}

-- a form: its number, and the keys that made it, from the first on
pub record FormView : Type 0 where
  pub number : ℕ
  pub recipe : List Key

-- the greatest number of a form: there are at most this many forms, not counting the base of all
abbrev pub most_forms : ℕ
most_forms = 16384

-- the body after these edits, in order
abbrev pub body_from : FormBody → List Key → FormBody
body_from body [] = body
body_from body (k ∷ keys) = body_from (applied k body) keys

-- the body of a recipe
abbrev pub body_of : List Key → FormBody
body_of keys = body_from nothing keys

-- the form that does nothing, from which roots make forms
abbrev pub base_form : FormView
base_form = record { number = 0; recipe = [] }
