-- Some holds of a list exchanged for others, in any order.
use Rattle.std.specs.Prelude.{◌≡◌, ℕ, ◌+◌, ◌≤◌, List, [], ◌∷◌, Result, Ok, Err}
use Rattle.mh_values.specs.declared.types.MethodTy.{MethodTy}
use Rattle.mh_intern.specs.declared.error.InternError.{InternError}
use Rattle.mh_intern.specs.declared.holding.Entry.{Entry}
use Rattle.mh_intern.specs.Held.{has}
use Rattle.mh_intern.specs.Views.{HoldView}

-- the new holds are the old ones, without those that are gone and with those that came
pub record Trades (old gone came new : List Entry) : Type 0 where
  pub counts : (k : ℕ) (t : MethodTy) → has k t new + has k t gone ≡ has k t old + has k t came

-- these holds are all there, each as often as it is named
pub record HoldsAll (holds parts : List Entry) : Type 0 where
  pub counts : (k : ℕ) (t : MethodTy) → has k t parts ≤ has k t holds

-- the hold of an answer, if there is one
abbrev pub hold_of : Result HoldView InternError → List Entry
hold_of (Ok h) = h.entry ∷ []
hold_of (Err e) = []
