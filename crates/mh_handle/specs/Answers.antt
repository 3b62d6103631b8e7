-- What a call of a handle gives.
use Rattle.std.specs.Prelude.{◌≡◌, ℕ, List, Option, Some, None}
use Rattle.mh_values.specs.declared.class.Class.{Class}
use Rattle.mh_values.specs.declared.types.Ty.{Ty}
use Rattle.mh_values.specs.declared.calls.LeafCall.{LeafCall}
use Rattle.mh_values.specs.declared.value.Outcome.{Outcome}
use Rattle.mh_values.specs.declared.value.Value.{Value}
use Rattle.mh_values.specs.Computation.{Ran, Gave, Threw, Stuck, found}
use Rattle.mh_leaf.specs.Outcome.{ran_of}
use Rattle.mh_form.specs.declared.slot.Slot.{Slot}
use Rattle.mh_form.specs.Erasure.{typed}
use Rattle.mh_handle.specs.declared.answer.Ended.{Ended}

-- an outcome, the leaf calls in order, and the number of keys in the recipe of the form that ran
pub record AnswerView : Type 0 where
  pub outcome : Outcome
  pub calls : List LeafCall
  pub keys : ℕ

-- the answer of a call in a machine, which has recorded these leaf calls
abbrev pub answer_in : Ended → List LeafCall → AnswerView
answer_in ended calls = record { outcome = ended.outcome; calls = calls; keys = ended.keys }

-- the value of a slot, if it has one
abbrev pub some_value : Option Value → Option (Option Value)
some_value None = None
some_value (Some v) = Some (Some v)

-- the value of a return type whose erasure is this result; a void type has no value
abbrev pub typed_result : List Class → Option Ty → Option Slot → Option (Option Value)
typed_result classes None None = Some None
typed_result classes (Some t) (Some s) = some_value (typed classes t s)
typed_result classes _ _ = None

-- a run whose result is read as a value of the return type
abbrev pub typed_ran : List Class → Option Ty → Ran (Option Slot) → Ran (Option Value)
typed_ran classes t (Gave r calls) = found (typed_result classes t r) (λ v. Gave v calls)
typed_ran classes t (Threw e calls) = Threw e calls
typed_ran classes t Stuck = Stuck

-- the answer of a run of a form with a number of keys
pub record IsAnswer (ran : Ran (Option Value)) (keys : ℕ) (answer : AnswerView) : Type 0 where
  pub ran_is : ran_of answer.outcome answer.calls ≡ ran
  pub keys_are : answer.keys ≡ keys
