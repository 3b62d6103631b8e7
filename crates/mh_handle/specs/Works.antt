-- What the calls that make handles require of a thread's `Work`, and how they change it.
use Rattle.std.specs.Prelude.{◌≡◌, ℕ, ◌+◌, ◌*◌, ◌≤◌, List, [], ◌∷◌, Result, Ok, Err}
use denote.Ref.{Bor}
use Rattle.std.specs.Global.{Vec}
use Rattle.mh_base.specs.declared.memory.NoMemory.{NoMemory as NoMemoryValue}
use Rattle.mh_edit.specs.declared.key.Key.{Key}
use Rattle.mh_handle.specs.declared.error.HandleError.{HandleError}
use Rattle.mh_handle.specs.declared.error.HandleError.TheVariants.{NoMemory, FormsFull, TypesFull, Refused}
use Rattle.mh_handle.specs.declared.handle.Handle.{Handle}
use Rattle.mh_handle.specs.declared.work.Work.{Work}
use Rattle.mh_leaf.specs.LeafTable.{LeafTable}
use Rattle.mh_values.specs.declared.class.Class.{Class}
use Rattle.mh_values.specs.declared.types.MethodTy.{MethodTy}
use Rattle.mh_tree.specs.Rows.{TypeOrRefusal}
use Rattle.mh_tree.specs.Tree.{Tree}
use Rattle.mh_intern.specs.Exchanges.{AreHeld, Exchanges, FindsNoSlot}
use Rattle.mh_intern.specs.Held.{times_type}
use Rattle.mh_intern.specs.Views.{HoldView, SeatView}
use Rattle.mh_intern.specs.declared.error.InternError.{InternError}
use Rattle.mh_intern.specs.declared.error.InternError.TheVariants as intern
use Rattle.mh_handle.specs.Form.{FormView}
use Rattle.mh_handle.specs.Stands.{HandleView, Stands}
use Rattle.mh_handle.specs.Passes.{DrawsAtMostOne, GivesForm, IsPassOf, LacksNumber, PutsAtMostOne, StaysLearnt}

-- the leaves of the work
abbrev pub leaves_of : Work → LeafTable
leaves_of w = w.leaves.now

-- the classes of the work's leaves
abbrev pub classes_of : Work → List Class
classes_of w = w.leaves.now.classes

-- the handle stands for the tree over the work's leaves
abbrev pub StandsIn : Work → HandleView → Tree → Type 0
StandsIn w h t = Stands w.leaves.now h t

-- the most types that one handle holds
abbrev pub most_held : ℕ
most_held = 256

-- The pass and the seat are of the work's tables. They have room for that many numbers, and for the types of that many handles.
pub record IsReady (w : Work) (numbers : ℕ) : Type 0 where
  pub of_table : IsPassOf w.forms.now w.pass.now
  pub room : numbers ≤ w.pass.now.seat.room
  pub of_types : w.seat.now.table ≡ w.types.now
  pub holds : most_held * numbers ≤ w.seat.now.room

-- nothing changed except what the seat of types holds and has learnt
pub record IsUnchanged (old new : Work) : Type 0 where
  pub alloc : new.alloc ≡ old.alloc
  pub types : new.types ≡ old.types
  pub lent : new.seat.ghost_name ≡ old.seat.ghost_name
  pub forms : new.forms ≡ old.forms
  pub leaves : new.leaves ≡ old.leaves
  pub borrow : new.pass.ghost_name ≡ old.pass.ghost_name
  pub pass : new.pass.now ≡ old.pass.now

-- Tables and leaves are the same, and the pass and the seat are of the same tables. The pass has forgotten nothing.
-- At most that many numbers were drawn, and the types of at most that many handles were taken.
pub record GoesOn (numbers : ℕ) (old new : Work) : Type 0 where
  pub types : new.types ≡ old.types
  pub lent : new.seat.ghost_name ≡ old.seat.ghost_name
  pub forms : new.forms ≡ old.forms
  pub leaves : new.leaves ≡ old.leaves
  pub borrow : new.pass.ghost_name ≡ old.pass.ghost_name
  pub table : new.pass.now.table ≡ old.pass.now.table
  pub learnt : StaysLearnt old.pass.now new.pass.now
  pub room : old.pass.now.seat.room ≤ new.pass.now.seat.room + numbers
  pub seat : new.seat.now.table ≡ old.seat.now.table
  pub holds : old.seat.now.room ≤ new.seat.now.room + most_held * numbers

-- ---- types

-- the type that a rule gives, if it refuses nothing
abbrev pub types_in : TypeOrRefusal → List MethodTy
types_in (Ok t) = t ∷ []
types_in (Err e) = []

-- How making a handle changes the seat of types. It may ask for the types `asks`, and it consumes handles with the holds `gone`.
-- It adds the holds of the new handle, which may be those that it consumed, or adds none if it fails.
-- A refusal by the rule asks for no type. If no slot was found, the bucket of one of the types is full of other types.
abbrev pub TradesTypes : List MethodTy → List HoldView → Work → Work → Result Handle HandleError → Type 0
TradesTypes asks gone old new (Ok h) = Exchanges asks gone h.held old.seat.now new.seat.now
TradesTypes asks gone old new (Err NoMemory) = Exchanges asks gone [] old.seat.now new.seat.now
TradesTypes asks gone old new (Err (FormsFull drawn)) = Exchanges asks gone [] old.seat.now new.seat.now
TradesTypes asks gone old new (Err (TypesFull bucket)) =
    Exchanges asks gone [] old.seat.now new.seat.now × ((t : MethodTy) × (1 ≤ times_type t asks) × FindsNoSlot bucket t new.seat.now)
TradesTypes asks gone old new (Err (Refused e)) = Exchanges [] gone [] old.seat.now new.seat.now

-- how a request for a type and one edit change the pass; `recipe` is that of the new form
abbrev pub MakesForm : List Key → Work → Work → Result (HoldView × Bor FormView) HandleError → Type 0
MakesForm recipe old new (Ok made) = GivesForm recipe made.1.now old.pass.now new.pass.now
MakesForm recipe old new (Err NoMemory) =
    (new.pass.now.asked ≡ old.pass.now.asked) × DrawsAtMostOne recipe old.pass.now new.pass.now × PutsAtMostOne recipe old.pass.now new.pass.now
MakesForm recipe old new (Err (FormsFull drawn)) = LacksNumber recipe drawn old.pass.now new.pass.now
MakesForm recipe old new (Err (TypesFull bucket)) = new.pass.now ≡ old.pass.now
MakesForm recipe old new (Err (Refused e)) = ⊥

-- how the same request changes the seat: it adds one hold of the type, or none if it fails
abbrev pub TradesForm : MethodTy → Work → Work → Result (HoldView × Bor FormView) HandleError → Type 0
TradesForm t old new (Ok made) = Exchanges (t ∷ []) [] (made.0 ∷ []) old.seat.now new.seat.now
TradesForm t old new (Err (TypesFull bucket)) = Exchanges (t ∷ []) [] [] old.seat.now new.seat.now × FindsNoSlot bucket t new.seat.now
TradesForm t old new (Err e) = Exchanges (t ∷ []) [] [] old.seat.now new.seat.now

-- how a request for one type changes the seat
abbrev pub TradesHold : MethodTy → SeatView → Result HoldView InternError → SeatView → Type 0
TradesHold t old (Ok h) new = Exchanges (t ∷ []) [] (h ∷ []) old new
TradesHold t old (Err intern.NoMemory) new = Exchanges (t ∷ []) [] [] old new
TradesHold t old (Err (intern.TypesFull bucket)) new = Exchanges (t ∷ []) [] [] old new × FindsNoSlot bucket t new

-- how copying one hold changes the seat
abbrev pub TradesCopy : {E : Type 0} → SeatView → Result HoldView E → SeatView → Type 0
TradesCopy old (Ok h) new = Exchanges [] [] (h ∷ []) old new
TradesCopy old (Err e) new = Exchanges [] [] [] old new

-- how copying a handle changes the seat
abbrev pub CopiesTypes : SeatView → Result Handle NoMemoryValue → SeatView → Type 0
CopiesTypes old (Ok h) new = Exchanges [] [] h.held old new
CopiesTypes old (Err e) new = Exchanges [] [] [] old new

-- how copying the holds of a handle changes the seat
abbrev pub TradesPair : {A : Type 0} → SeatView → Result (HoldView × Vec HoldView) A → SeatView → Type 0
TradesPair old (Ok held) new = Exchanges [] [] (held.0 ∷ held.1.items) old new
TradesPair old (Err e) new = Exchanges [] [] [] old new

-- these are holds of the work's seat
abbrev pub HoldsTypes : Work → List HoldView → Type 0
HoldsTypes w holds = AreHeld w.seat.now holds

-- How making a handle by one edit changes the pass: as `Edits` says for the recipe of the handle's form.
-- It differs in the errors. A full table of types leaves the pass as it was, because types are asked for before the form.
-- If memory runs out, the form may have been asked for earlier. A refusal by the rule changes nothing except the seat of types.
abbrev pub Makes : List Key → Work → Work → Result Handle HandleError → Type 0
Makes recipe old new (Ok h) = GivesForm recipe h.form old.pass.now new.pass.now
Makes recipe old new (Err NoMemory) =
    (new.pass.now.asked ≡ old.pass.now.asked) × DrawsAtMostOne recipe old.pass.now new.pass.now × PutsAtMostOne recipe old.pass.now new.pass.now
Makes recipe old new (Err (FormsFull drawn)) = LacksNumber recipe drawn old.pass.now new.pass.now
Makes recipe old new (Err (TypesFull bucket)) = new.pass.now ≡ old.pass.now
Makes recipe old new (Err (Refused e)) = IsUnchanged old new

-- the call is not refused by a rule
abbrev pub IsAccepted : Result Handle HandleError → Type 0
IsAccepted (Err (Refused e)) = ⊥
IsAccepted result = Unit {0}
