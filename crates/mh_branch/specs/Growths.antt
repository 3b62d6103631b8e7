-- What guards and catches add to the form that does nothing, and what gathers add to a handle.
use Rattle.std.specs.Prelude.{◌≡◌, ℕ, ◌+◌, ◌-◌, List, [], ◌∷◌, ◌++◌, length, Option, Some, Result, Ok, Err}
use Rattle.mh_values.specs.declared.class.ClassId.{ClassId}
use Rattle.mh_values.specs.declared.types.Comp.{Comp}
use Rattle.mh_values.specs.declared.types.Ty.{Ty}
use Rattle.mh_values.specs.declared.types.MethodTy.{MethodTy}
use Rattle.mh_values.specs.Array.{item_type}
use Rattle.mh_tree.specs.Rows.{component_of}
use Rattle.mh_intern.specs.Exchanges.{Exchanges}
use Rattle.mh_intern.specs.Views.{HoldView}
use Rattle.mh_form.specs.declared.field.Field.{Field}
use Rattle.mh_form.specs.declared.field.Field.TheVariants as field
use Rattle.mh_form.specs.Erasure.{basic_of, shape_of}
use Rattle.mh_edit.specs.declared.key.Key.{Key}
use Rattle.mh_edit.specs.declared.key.Key.TheVariants as key
use Rattle.mh_handle.specs.declared.growth.Growth.{Growth}
use Rattle.mh_handle.specs.declared.work.Work.{Work}
use Rattle.mh_handle.specs.Parts.{AddsHandle, IsPartOf, PartsView, held_by, no_parts}
use Rattle.mh_handle.specs.Recipe.{at_some}
use Rattle.mh_handle.specs.Stands.{HandleView}

-- the key of a guard of this type, with a test of that type
abbrev pub guard_key : MethodTy → MethodTy → Key
guard_key t test = key.GuardRoot (shape_of t) (length test.params)

-- the key of a catch of this type, with a handler of that type
abbrev pub catch_key : MethodTy → MethodTy → Key
catch_key t handler = key.CatchRoot (shape_of t) (length handler.params - 1)

-- the key of a gather of an array type's items: none if the type is no array
abbrev pub gather_keys : Option Ty → ℕ → List Key
gather_keys array count = at_some (component_of array) (λ c. key.Gather count (basic_of (item_type c)))

-- what a gather into an array of this component adds to a handle: one to its weight, its key, and a field with the component
pub record IsGather (t : HandleView) (c : Comp) (count : ℕ) (by : Growth) : Type 0 where
  pub weight : by.weight ≡ 1 + t.weight
  pub key : by.key ≡ key.Gather count (basic_of (item_type c))
  pub parts : by.parts ≡ record no_parts { fields = field.Comp c ∷ [] }

-- the same for an array type
abbrev pub AddsGather : HandleView → Option Ty → ℕ → Growth → Type 0
AddsGather t array count by = (c : Comp) × (component_of array ≡ Some c) × IsGather t c count by

-- two more parts, one after the other
abbrev pub AddsHandles : HandleView → HandleView → PartsView → PartsView → Type 0
AddsHandles first second old new = (mid : PartsView) × AddsHandle first old mid × AddsHandle second mid new

-- one more class, and a part after it
abbrev pub AddsHandler : ClassId → HandleView → PartsView → PartsView → Type 0
AddsHandler class handler old new = AddsHandle handler (record old { fields = old.fields ++ field.Class class ∷ [] }) new

-- the parts of a guard: the test first, then the target and the fallback
pub record AreGuardParts (test target fallback : HandleView) (parts : PartsView) : Type 0 where
  pub fields : (c b o : Field) × (parts.fields ≡ c ∷ b ∷ o ∷ []) × IsPartOf test c × IsPartOf target b × IsPartOf fallback o
  pub sides : parts.sides ≡ held_by test ++ held_by target ++ held_by fallback
  pub held : parts.held ≡ test.held ++ target.held ++ fallback.held

-- the parts of a catch: the target first, then the class of exceptions, then the handler
pub record AreCatchParts (target : HandleView) (class : ClassId) (handler : HandleView) (parts : PartsView) : Type 0 where
  pub fields : (b h : Field) × (parts.fields ≡ b ∷ field.Class class ∷ h ∷ []) × IsPartOf target b × IsPartOf handler h
  pub sides : parts.sides ≡ held_by target ++ held_by handler
  pub held : parts.held ≡ target.held ++ handler.held

-- How a call that makes parts of handles with these holds changes the seat of types. If it fails, it releases all of them.
abbrev pub TradesParts : {A E : Type 0} → List HoldView → Work → Work → Result A E → Type 0
TradesParts held old new (Ok parts) = new.seat.now ≡ old.seat.now
TradesParts held old new (Err error) = Exchanges [] held [] old.seat.now new.seat.now

-- A handle with a test, a target and a fallback. It weighs one more than all three, holds the types that they hold, and has a field for each.
pub record HasBranches (test target fallback new : HandleView) : Type 0 where
  pub weighed : new.weight ≡ 1 + test.weight + target.weight + fallback.weight
  pub holds : new.sides ≡ held_by test ++ held_by target ++ held_by fallback
  pub fielded : (c b o : Field) × (new.fields ≡ c ∷ b ∷ o ∷ []) × IsPartOf test c × IsPartOf target b × IsPartOf fallback o

-- A handle with a target and a handler. It weighs one more than both, and holds the types that they hold.
-- It has a field for each, and between these one for the class of exceptions.
pub record HasHandler (target : HandleView) (class : ClassId) (handler new : HandleView) : Type 0 where
  pub weighed : new.weight ≡ 1 + target.weight + handler.weight
  pub holds : new.sides ≡ held_by target ++ held_by handler
  pub fielded : (b h : Field) × (new.fields ≡ b ∷ field.Class class ∷ h ∷ []) × IsPartOf target b × IsPartOf handler h
