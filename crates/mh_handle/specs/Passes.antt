-- Passes over a table of forms, and how an edit changes a pass.
use Rattle.std.specs.Prelude.{◌≡◌, ℕ, ◌<◌, ◌⊎◌, List, [], ◌∷◌, ◌++◌, slice_get, Result, Ok, Err, Option, None, Some}
use Rattle.std.specs.List.{find}
use denote.Ref.{Bor}
use Rattle.mh_setonce.specs.Views.{WalkView}
use Rattle.mh_setonce.specs.Walks.{Lacks, Has}
use Rattle.mh_setonce.specs.ManyWalks.{chains_of}
use Rattle.mh_edit.specs.declared.key.Key.{Key}
use Rattle.mh_setonce.specs.declared.put.Put.{Put}
use Rattle.mh_setonce.specs.declared.put.Put.TheVariants.{Mine, Theirs}
use Rattle.mh_handle.specs.declared.error.EditError.{EditError}
use Rattle.mh_handle.specs.declared.error.EditError.TheVariants.{NoMemory, FormsFull}
use Rattle.mh_handle.specs.Chains.{learnt_by}
use Rattle.mh_handle.specs.Form.{FormView, most_forms}
use Rattle.mh_handle.specs.Index.{recipe_of}
use Rattle.mh_handle.specs.SameRecipes.{same_recipe}
pub use Rattle.mh_handle.specs.Seats.{Draws, KnowsAll, SeatView, TableView, seat_at}

-- A pass: its table, the forms of the table that it has learnt, those that it has put there, those that it has asked for, and its seat.
pub record PassView : Type 0 where
  pub table : TableView
  pub learnt : List FormView
  pub made : List FormView
  pub asked : List FormView
  pub seat : SeatView

-- the pass is over this table
abbrev pub IsPassOf : TableView → PassView → Type 0
IsPassOf table pass = pass.table ≡ table

-- the form that a pass has learnt for a recipe, if any
abbrev pub learnt_of : PassView → List Key → Option FormView
learnt_of pass recipe = find (λ form. same_recipe recipe form.recipe) pass.learnt

-- the new pass has learnt all that the old one has learnt
abbrev pub StaysLearnt : PassView → PassView → Type 0
StaysLearnt old new = (recipe : List Key) (form : FormView) → learnt_of old recipe ≡ Some form → learnt_of new recipe ≡ Some form

-- a pass that has learnt nothing, made nothing and asked for nothing
abbrev pub pass_at : TableView → SeatView → PassView
pass_at table seat = record { table = table; learnt = []; made = []; asked = []; seat = seat }

-- the pass has learnt each form that it has asked for
abbrev pub AreLearnt : List FormView → List FormView → Type 0
AreLearnt learnt asked = (i : ℕ) (f : FormView) → slice_get asked i ≡ Some f → (j : ℕ) × (slice_get learnt j ≡ Some f)

-- each form has a number of its own from this list, in the list's order
abbrev pub HaveNumbers : List FormView → List ℕ → Type 0
HaveNumbers [] numbers = Unit {0}
HaveNumbers (form ∷ forms) [] = ⊥
HaveNumbers (form ∷ forms) (n ∷ numbers) = ((form.number ≡ n) × HaveNumbers forms numbers) ⊎ HaveNumbers (form ∷ forms) numbers

-- two forms of these lists with the same recipe are the same form
abbrev pub DoMatch : List FormView → List FormView → Type 0
DoMatch forms others = (i j : ℕ) (f g : FormView) → slice_get forms i ≡ Some f → slice_get others j ≡ Some g → f.recipe ≡ g.recipe → f ≡ g

-- forms with the same recipe are the same form
abbrev pub AreOneEach : List FormView → Type 0
AreOneEach forms = DoMatch forms forms

-- The invariant of a pass. Its walks are of its table's chains, have one form for each recipe, and have the forms that it has asked for.
-- The forms that it has put into the table have numbers of its seat.
pub record IsPass (walks : List (WalkView FormView)) (made asked : List FormView) (seat : SeatView) : Type 0 where
  pub chains : chains_of walks ≡ seat.table.chains
  pub learnt : AreLearnt (learnt_by walks) asked
  pub once : AreOneEach (learnt_by walks)
  pub numbered : HaveNumbers made seat.numbers

-- the pass has learnt this form for the recipe
abbrev pub IsFormOf : List Key → PassView → FormView → Type 0
IsFormOf recipe pass form = learnt_of pass recipe ≡ Some form

-- the pass has learnt no form for the recipe
abbrev pub IsUnlearnt : List Key → PassView → Type 0
IsUnlearnt recipe pass = learnt_of pass recipe ≡ None

-- the pass may have learnt more of the table; nothing else changed
pub record Learns (old new : PassView) : Type 0 where
  pub table : new.table ≡ old.table
  pub learnt : StaysLearnt old new
  pub made : new.made ≡ old.made
  pub asked : new.asked ≡ old.asked
  pub seat : new.seat ≡ old.seat

-- No number was drawn, or one was, because the pass had learnt no form for the recipe.
abbrev pub DrawsAtMostOne : List Key → PassView → PassView → Type 0
DrawsAtMostOne recipe old new = (new.seat ≡ old.seat) ⊎ ((number : ℕ) × Draws number old.seat new.seat × IsUnlearnt recipe old)

-- the form was put into the table, with the number that was drawn in this call
abbrev pub PutsForm : FormView → PassView → PassView → Type 0
PutsForm form old new = (new.made ≡ old.made ++ form ∷ []) × Draws form.number old.seat new.seat

-- the pass has put no form into the table, or only this one
abbrev pub PutsAtMost : FormView → PassView → PassView → Type 0
PutsAtMost form old new = (new.made ≡ old.made) ⊎ PutsForm form old new

-- the pass has put no form into the table, or only one of this recipe
abbrev pub PutsAtMostOne : List Key → PassView → PassView → Type 0
PutsAtMostOne recipe old new = (new.made ≡ old.made) ⊎ ((form : FormView) × (form.recipe ≡ recipe) × PutsForm form old new)

-- after a try to put our form into the table, the table has a form of its recipe: ours, or that of another pass
abbrev pub IsPut : List FormView → FormView → Put FormView → Type 0
IsPut learnt ours (Mine form) = Has recipe_of learnt ours.recipe form.now × (form.now ≡ ours)
IsPut learnt ours (Theirs form back) = Has recipe_of learnt ours.recipe form.now

-- if the table has our form, it is among the forms that the pass has put into the table
abbrev pub IsKept : FormView → List FormView → List FormView → FormView → Type 0
IsKept ours before after form = (after ≡ before) ⊎ ((after ≡ before ++ form ∷ []) × (form ≡ ours))

-- If the pass had asked for the form before, it answers that form and stays as it is. Otherwise it has asked for the form now.
abbrev pub AsksFor : FormView → PassView → PassView → Type 0
AsksFor form old new =
    (Has recipe_of old.asked form.recipe form × (new ≡ old))
    ⊎ (Lacks recipe_of old.asked form.recipe × (new.asked ≡ old.asked ++ form ∷ []))

-- a failed edit: the form was not asked for before, and still is not
abbrev pub NotAsked : List Key → PassView → PassView → Type 0
NotAsked recipe old new = Lacks recipe_of old.asked recipe × (new.asked ≡ old.asked)

-- How an edit that answers this form changes the pass. The form has the recipe, and the pass has asked for it and has learnt it by then.
-- At most one number was drawn. If the pass has put the form into the table, the form has that number.
abbrev pub GivesForm : List Key → FormView → PassView → PassView → Type 0
GivesForm recipe form old new =
    (form.recipe ≡ recipe) × AsksFor form old new × DrawsAtMostOne recipe old new × IsFormOf recipe new form × PutsAtMost form old new

-- How an edit that finds no number for its form changes the pass. The number that it drew is greater than that of any form.
-- The pass has neither asked for the form nor learnt one of the recipe, and has put none into the table.
abbrev pub LacksNumber : List Key → ℕ → PassView → PassView → Type 0
LacksNumber recipe drawn old new =
    NotAsked recipe old new × Draws drawn old.seat new.seat × (most_forms < drawn) × IsUnlearnt recipe new × (new.made ≡ old.made)

-- How an edit, which asks for the form of a recipe, answers and changes the pass. It answers the form, or memory ran out, or no number was left.
-- The clauses on numbers are there to count: by them a run draws at most one number for each recipe that a thread asks for.
abbrev pub Edits : List Key → PassView → PassView → Result (Bor FormView) EditError → Type 0
Edits recipe old new (Ok form) = GivesForm recipe form.now old new
Edits recipe old new (Err NoMemory) = NotAsked recipe old new × DrawsAtMostOne recipe old new × PutsAtMostOne recipe old new
Edits recipe old new (Err (FormsFull drawn)) = LacksNumber recipe drawn old new

-- How a look for a form that was not asked for before answers. If the table shows the form, or memory runs out, the answer is the edit's.
-- Otherwise the pass has not learnt the form.
abbrev pub AsksShown : {E : Type 0} → List Key → PassView → PassView → Result (Option (Bor FormView)) E → Type 0
AsksShown recipe old new (Ok (Some form)) = Edits recipe old new (Ok form)
AsksShown recipe old new (Ok None) = Learns old new × IsUnlearnt recipe new
AsksShown recipe old new (Err e) = Edits recipe old new (Err NoMemory)

-- how making a form that was neither asked for nor learnt answers and changes the pass
abbrev pub MakesForm : List Key → PassView → PassView → Result (Bor FormView) EditError → Type 0
MakesForm recipe old new (Ok form) =
    (form.now.recipe ≡ recipe) × (new.asked ≡ old.asked ++ form.now ∷ []) × ((number : ℕ) × Draws number old.seat new.seat) × PutsAtMost form.now old new
MakesForm recipe old new (Err NoMemory) =
    (new.asked ≡ old.asked) × ((new.seat ≡ old.seat) ⊎ ((number : ℕ) × Draws number old.seat new.seat)) × PutsAtMostOne recipe old new
MakesForm recipe old new (Err (FormsFull drawn)) =
    (new.asked ≡ old.asked) × Draws drawn old.seat new.seat × (most_forms < drawn) × (new.learnt ≡ old.learnt) × (new.made ≡ old.made)
