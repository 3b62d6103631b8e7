-- Splitting one pass into two, and joining two passes into one.
use Rattle.std.specs.Prelude.{◌≡◌, ℕ, ◌^◌, List, [], ◌++◌, Some, not}
use Rattle.std.specs.List.{filter, list_any}
use Rattle.mh_edit.specs.declared.key.Key.{Key}
use Rattle.mh_handle.specs.Form.{FormView}
use Rattle.mh_handle.specs.Passes.{PassView, StaysLearnt, learnt_of}
use Rattle.mh_handle.specs.Seats.{SeatView, new_seat}
use Rattle.mh_handle.specs.SameRecipes.{same_recipe}

-- how many numbers a pass may draw that was split off
abbrev pub split_room : ℕ
split_room = 2 ^ 32

-- the pass that is split off: it has learnt and asked for the same forms, and has made none
abbrev pub split_pass : PassView → PassView
split_pass pass = record {
  table = pass.table;
  learnt = pass.learnt;
  made = [];
  asked = pass.asked;
  seat = new_seat pass.table split_room;
}

-- the pass with another seat
abbrev pub with_seat : SeatView → PassView → PassView
with_seat seat pass = record { table = pass.table; learnt = pass.learnt; made = pass.made; asked = pass.asked; seat = seat }

-- if both passes have learnt a form of a recipe, it is the same form
abbrev pub DoAgree : PassView → PassView → Type 0
DoAgree pass other = (recipe : List Key) (f g : FormView) → learnt_of pass recipe ≡ Some f → learnt_of other recipe ≡ Some g → f ≡ g

-- the forms among these whose recipe was not asked for
abbrev pub unasked : List FormView → List FormView → List FormView
unasked asked forms = filter (λ f. not (list_any (λ g. same_recipe f.recipe g.recipe) asked)) forms

-- the new pass has learnt, asked for and put into the table what either pass had
pub record KnowsBoth (old other new : PassView) : Type 0 where
  pub mine : StaysLearnt old new
  pub theirs : StaysLearnt other new
  pub asked : new.asked ≡ old.asked ++ unasked old.asked other.asked
  pub made : new.made ≡ old.made ++ other.made
