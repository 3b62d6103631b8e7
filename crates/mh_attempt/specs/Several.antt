-- How making handles of several operands changes the work.
use Rattle.std.specs.Prelude.{◌≡◌, ℕ, ◌+◌, ◌≤◌, ◌⊎◌, List, [], ◌++◌, Result, Ok, Err}
use Rattle.mh_values.specs.declared.types.MethodTy.{MethodTy}
use Rattle.mh_intern.specs.Exchanges.{Exchanges}
use Rattle.mh_intern.specs.Views.{HoldView}
use Rattle.mh_edit.specs.declared.key.Key.{Key}
use Rattle.mh_handle.specs.declared.error.HandleError.{HandleError}
use Rattle.mh_handle.specs.declared.error.HandleError.TheVariants.{Refused}
use Rattle.mh_handle.specs.declared.handle.Handle.{Handle}
use Rattle.mh_handle.specs.declared.work.Work.{Work}
use Rattle.mh_handle.specs.Form.{FormView}
use Rattle.mh_handle.specs.Passes.{IsFormOf, IsPassOf, IsUnlearnt, PassView, StaysLearnt}
use Rattle.mh_handle.specs.Works.{most_held}
use Rattle.mh_more.specs.declared.switches.Switched.{Switched}
use Rattle.mh_more.specs.Several.{holds_of}
use Rattle.mh_attempt.specs.declared.handle.HandleOperand.{HandleOperand}
use Rattle.mh_attempt.specs.Asked.{AsksIfMade}
use Rattle.mh_attempt.specs.AskedTypes.{AsksTypesOrThrows, types_made}
use Rattle.mh_attempt.specs.Recipes.{recipes_made}

-- nothing is refused by a rule
abbrev pub NothingRefused : {A : Type 0} → Result A HandleError → Type 0
NothingRefused (Err (Refused e)) = ⊥
NothingRefused made = Unit {0}

-- the seat has these holds as well
abbrev pub Adds : List HoldView → Work → Work → Type 0
Adds came old new = (asks : List MethodTy) × Exchanges asks [] came old.seat.now new.seat.now

-- the seat has the holds of the handle as well, if it is made
abbrev pub AddsTypes : {E : Type 0} → Work → Work → Result Handle E → Type 0
AddsTypes old new (Ok h) = Adds h.held old new
AddsTypes old new (Err error) = Adds [] old new

-- the same for two handles
abbrev pub AddsBoth : {E : Type 0} → Work → Work → Result (Handle × Handle) E → Type 0
AddsBoth old new (Ok made) = Adds (made.0.held ++ made.1.held) old new
AddsBoth old new (Err error) = Adds [] old new

-- the same for three handles
abbrev pub AddsThree : {E : Type 0} → Work → Work → Result (Handle × Handle × Handle) E → Type 0
AddsThree old new (Ok made) = Adds (made.0.held ++ made.1.held ++ made.2.held) old new
AddsThree old new (Err error) = Adds [] old new

-- the forms of operands that are leaves are asked for, and no others
abbrev pub AsksForms : {A : Type 0} → List HandleOperand → Work → Work → Result A HandleError → Type 0
AsksForms operands old new r = AsksIfMade (recipes_made old.leaves.now operands []) old new r

-- and their types
abbrev pub AsksTheirTypes : {A : Type 0} → List HandleOperand → Work → Work → Result A HandleError → Type 0
AsksTheirTypes operands old new r = AsksTypesOrThrows (types_made old.leaves.now operands []) old new r

-- ---- handles of which the leaves have one recipe

-- the same for a list of handles
abbrev pub AddsAll : {E : Type 0} → Work → Work → Result (List Handle) E → Type 0
AddsAll old new (Ok made) = Adds (holds_of made) old new
AddsAll old new (Err error) = Adds [] old new

-- the same for the handles of a switch
abbrev pub AddsSwitched : {E : Type 0} → Work → Work → Result Switched E → Type 0
AddsSwitched old new (Ok made) = Adds (made.fallback.held ++ holds_of made.cases) old new
AddsSwitched old new (Err error) = Adds [] old new

-- the pass has learnt a form of the recipe
abbrev pub HasLearnt : List Key → PassView → Type 0
HasLearnt key pass = (form : FormView) × IsFormOf key pass form

-- no number was drawn, or one was, because the pass had learnt no form of the recipe
abbrev pub DrawsOnce : List Key → PassView → PassView → Type 0
DrawsOnce key old new = (new.seat ≡ old.seat) ⊎ ((old.seat.room ≤ new.seat.room + 1) × IsUnlearnt key old)

-- if a number was drawn, the pass has learnt a form of the recipe since
abbrev pub LearnsOnce : List Key → PassView → PassView → Type 0
LearnsOnce key old new = (new.seat ≡ old.seat) ⊎ HasLearnt key new

-- Tables and leaves are the same, and the pass has forgotten nothing. At most one number was drawn, for a form of the recipe, and at most this many types were
-- taken.
pub record GoesOnOnce (key : List Key) (holds : ℕ) (old new : Work) : Type 0 where
  pub types : new.types ≡ old.types
  pub lent : new.seat.ghost_name ≡ old.seat.ghost_name
  pub forms : new.forms ≡ old.forms
  pub leaves : new.leaves ≡ old.leaves
  pub borrow : new.pass.ghost_name ≡ old.pass.ghost_name
  pub table : new.pass.now.table ≡ old.pass.now.table
  pub learnt : StaysLearnt old.pass.now new.pass.now
  pub draws : DrawsOnce key old.pass.now new.pass.now
  pub seat : new.seat.now.table ≡ old.seat.now.table
  pub room : old.seat.now.room ≤ new.seat.now.room + holds

-- There is room for two numbers, or for one if the pass has learnt a form of the recipe. There is room for this many types, and for those of one handle.
pub record IsReadyOnce (key : List Key) (holds : ℕ) (w : Work) : Type 0 where
  pub of_table : IsPassOf w.forms.now w.pass.now
  pub numbers : (2 ≤ w.pass.now.seat.room) ⊎ ((1 ≤ w.pass.now.seat.room) × HasLearnt key w.pass.now)
  pub of_types : w.seat.now.table ≡ w.types.now
  pub room : most_held + holds ≤ w.seat.now.room
