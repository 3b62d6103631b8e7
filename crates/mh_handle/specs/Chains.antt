-- The chains of a table of forms: which chain holds the form of a recipe, and what walks of all chains have learnt.
use Rattle.std.specs.Prelude.{◌≡◌, ℕ, suc, ◌+◌, ◌*◌, ◌%◌, ◌==◌, List, [], ◌∷◌, ◌++◌, length, slice_get, Some}
use Rattle.std.specs.List.{filter}
use Rattle.mh_setonce.specs.Views.{WalkView}
use Rattle.mh_setonce.specs.Walks.{Distinct}
use Rattle.mh_edit.specs.declared.key.Key.{Key}
use Rattle.mh_handle.specs.Form.{FormView}
use Rattle.mh_handle.specs.Index.{recipe_of}
use Rattle.mh_handle.specs.SameRecipes.{key_numbers}

-- how many chains a table has
abbrev pub chain_count : ℕ
chain_count = 64

-- how many cells a chain has
abbrev pub chain_room : ℕ
chain_room = 16384

-- the first number of a list, or 0
abbrev pub first_of : List ℕ → ℕ
first_of [] = 0
first_of (n ∷ numbers) = n

-- the number of a key's kind, which is the first of the key's numbers
abbrev pub kind_of : Key → ℕ
kind_of k = first_of (key_numbers k)

-- the chain of a recipe, given the chain of its first keys and the keys that follow
abbrev pub chain_after : ℕ → List Key → ℕ
chain_after chain [] = chain
chain_after chain (k ∷ keys) = chain_after ((31 * chain + kind_of k) % chain_count) keys

-- the chain that holds the form of a recipe
abbrev pub chain_of : List Key → ℕ
chain_of keys = chain_after 0 keys

-- the forms among these that belong to a chain
abbrev pub forms_of : ℕ → List FormView → List FormView
forms_of chain forms = filter (λ f. chain_of f.recipe == chain) forms

-- the forms that walks of the chains from this one on have learnt
abbrev pub learnt_from : ℕ → List (WalkView FormView) → List FormView
learnt_from chain [] = []
learnt_from chain (w ∷ walks) = forms_of chain w.nodes ++ learnt_from (suc chain) walks

-- the forms that walks of all chains have learnt, chain by chain
abbrev pub learnt_by : List (WalkView FormView) → List FormView
learnt_by walks = learnt_from 0 walks

-- one walk of each chain; in a walk no two forms have the same recipe
pub record AreWalks (walks : List (WalkView FormView)) : Type 0 where
  pub count : length walks ≡ chain_count
  pub once : (c : ℕ) (w : WalkView FormView) → slice_get walks c ≡ Some w → Distinct recipe_of w.nodes
