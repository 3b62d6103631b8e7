-- How calls that ask for forms change a thread's work, given the recipes of those forms.
use Rattle.std.specs.Prelude.{◌≡◌, ℕ, ◌+◌, ◌<◌, ◌≤◌, List, ◌++◌, length, map, Contains, Result, Ok, Err}
use Rattle.std.specs.List.{list_any, IsDistinct}
use Rattle.std.specs.Set.{distinct_count}
use Rattle.mh_edit.specs.declared.key.Key.{Key}
use Rattle.mh_handle.specs.declared.error.HandleError.{HandleError}
use Rattle.mh_handle.specs.declared.error.HandleError.TheVariants as handle
use Rattle.mh_handle.specs.declared.work.Work.{Work}
use Rattle.mh_attempt.specs.declared.error.WorkError.{WorkError}
use Rattle.mh_attempt.specs.declared.error.WorkError.TheVariants as work
use Rattle.mh_handle.specs.Index.{recipe_of}
use Rattle.mh_handle.specs.Passes.{PassView}
use Rattle.mh_handle.specs.SameRecipes.{same_recipe}
use Rattle.mh_handle.specs.Form.{most_forms}

-- the most numbers that an attempt draws: at most one for each form that it asks for
abbrev pub attempt_draws : ℕ
attempt_draws = 256

-- the recipes of the forms that a pass has asked for
abbrev pub asked_recipes : PassView → List (List Key)
asked_recipes pass = map recipe_of pass.asked

-- at most as many numbers were drawn as forms were asked for; numbers and room add up to `whole`
pub record DrawsWithin (whole : ℕ) (pass : PassView) : Type 0 where
  pub few : length pass.seat.numbers ≤ length pass.asked
  pub room : length pass.seat.numbers + pass.seat.room ≡ whole

-- at most as many numbers were drawn as there are different recipes here; numbers and room add up to `whole`
pub record HasDrawn (whole : ℕ) (recipes : List (List Key)) (pass : PassView) : Type 0 where
  pub few : length pass.seat.numbers ≤ distinct_count same_recipe recipes
  pub room : length pass.seat.numbers + pass.seat.room ≡ whole

-- the pass has asked for forms of exactly these recipes, and for none twice
pub record HasAsked (recipes : List (List Key)) (pass : PassView) : Type 0 where
  pub once : IsDistinct same_recipe (asked_recipes pass)
  pub same : (recipe : List Key) → list_any (same_recipe recipe) (asked_recipes pass) ≡ list_any (same_recipe recipe) recipes

-- Forms of these recipes were asked for as well, whatever was asked for before.
-- It still holds that at most as many numbers were drawn as forms were asked for.
pub record HasAskedMore (recipes : List (List Key)) (old new : PassView) : Type 0 where
  pub asked : (before : List (List Key)) → HasAsked before old → HasAsked (before ++ recipes) new
  pub within : (whole : ℕ) → DrawsWithin whole old → DrawsWithin whole new

-- a number was drawn that is too great for a form
abbrev pub IsOver : ℕ → PassView → Type 0
IsOver drawn pass = (most_forms < drawn) × Contains pass.seat.numbers drawn

-- A call for forms of these recipes has stopped. It has drawn at most one number for each recipe that was not asked for before.
abbrev pub HasStoppedAt : List (List Key) → PassView → PassView → Type 0
HasStoppedAt recipes old new =
    (whole : ℕ) → DrawsWithin whole old → (before : List (List Key)) → HasAsked before old → HasDrawn whole (before ++ recipes) new

-- no number was left for a form of these recipes
abbrev pub HasNoNumber : List (List Key) → ℕ → PassView → PassView → Type 0
HasNoNumber recipes drawn old new = HasStoppedAt recipes old new × IsOver drawn new

-- how a call that asks for forms of these recipes changes the pass
abbrev pub Asks : {A : Type 0} → List (List Key) → Work → Work → Result A WorkError → Type 0
Asks recipes old new (Ok a) = HasAskedMore recipes old.pass.now new.pass.now
Asks recipes old new (Err (work.FormsFull drawn)) = HasNoNumber recipes drawn old.pass.now new.pass.now
Asks recipes old new (Err (work.TypesFull bucket)) = HasStoppedAt recipes old.pass.now new.pass.now
Asks recipes old new (Err work.NoMemory) = Unit {0}

-- the same for a call that may throw; these are the recipes that it asks for before it throws
abbrev pub AsksOrThrows : {A : Type 0} → List (List Key) → Work → Work → Result A HandleError → Type 0
AsksOrThrows recipes old new (Ok a) = HasAskedMore recipes old.pass.now new.pass.now
AsksOrThrows recipes old new (Err (handle.Refused e)) = HasAskedMore recipes old.pass.now new.pass.now
AsksOrThrows recipes old new (Err (handle.FormsFull drawn)) = HasNoNumber recipes drawn old.pass.now new.pass.now
AsksOrThrows recipes old new (Err (handle.TypesFull bucket)) = HasStoppedAt recipes old.pass.now new.pass.now
AsksOrThrows recipes old new (Err handle.NoMemory) = Unit {0}

-- A call for forms of these recipes has failed. Another clause says that a refusal by a rule leaves the pass as it was.
abbrev pub HasStopped : List (List Key) → PassView → PassView → HandleError → Type 0
HasStopped recipes old new (handle.FormsFull drawn) = HasNoNumber recipes drawn old new
HasStopped recipes old new (handle.TypesFull bucket) = HasStoppedAt recipes old new
HasStopped recipes old new error = Unit {0}

-- how a call that asks for forms of these recipes changes the pass; if a rule refuses it, it asks for none
abbrev pub AsksIfMade : {A : Type 0} → List (List Key) → Work → Work → Result A HandleError → Type 0
AsksIfMade recipes old new (Ok a) = HasAskedMore recipes old.pass.now new.pass.now
AsksIfMade recipes old new (Err error) = HasStopped recipes old.pass.now new.pass.now error
