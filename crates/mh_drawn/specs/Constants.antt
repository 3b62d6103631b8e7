-- Whose attempts recorded the dynamic constants of a drawing.
use Rattle.std.specs.Prelude.{◌≡◌, ℕ, Bool, true, List, Contains, Some, slice_get}
use Rattle.mh_condy.specs.declared.pass.ConstAttempt.{ConstAttempt}
use Rattle.mh_condy.specs.Passes.{PassView}

-- the pass has recorded an attempt at each constant that is marked
abbrev pub AreOwn : PassView → List Bool → Type 0
AreOwn pass own = (c : ℕ) → slice_get own c ≡ Some true → (a : ConstAttempt) × Contains pass.recorded a × (a.constant ≡ c)
