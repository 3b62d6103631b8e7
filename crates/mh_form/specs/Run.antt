-- What running a body does: its names in order, each putting one slot at the end of a list that begins with the arguments.
use Rattle.std.specs.Prelude.{ℕ, ◌+◌, pos, Bool, List, [], ◌∷◌, ◌++◌, Option, Some, None, if◌then◌else◌, slice_get, map, take}
use Rattle.std.specs.Option.{option_map}
use Rattle.mh_values.specs.declared.value.Exc.{Exc}
use Rattle.mh_values.specs.declared.calls.LeafCall.{LeafCall}
use Rattle.mh_values.specs.declared.value.Value.TheVariants as value
use Rattle.mh_values.specs.Computation.{Ran, Gave, Threw, and_then, found, guarded, is_caught}
use Rattle.mh_leaf.specs.Ending.{ended_by, turned}
use Rattle.mh_convert.specs.declared.conv.Rules.TheVariants as rules
use Rattle.mh_leaf.specs.LeafTable.{LeafTable}
use Rattle.mh_form.specs.declared.body.FormBody.{FormBody}
use Rattle.mh_form.specs.declared.basic.BasicRet.{BasicRet}
use Rattle.mh_form.specs.declared.name.LoopCounts.{LoopCounts}
use Rattle.mh_form.specs.declared.name.Name.{Name}
use Rattle.mh_form.specs.declared.name.Name.TheVariants.{Get, Call, Link, Select, Guarded, Finally, Switch, Loop, Conv, Cast, Ret, MakeArray, CheckArray, Elem, Join, Raise}
use Rattle.mh_form.specs.declared.slot.Slot.{Slot}
use Rattle.mh_form.specs.declared.slot.Slot.TheVariants as slot
use Rattle.mh_form.specs.declared.outcome.Ran.{Ran as Done}
use Rattle.mh_form.specs.declared.outcome.SlotOutcome.{SlotOutcome}
use Rattle.mh_form.specs.declared.outcome.SlotOutcome.TheVariants.{Return, Throw}
use Rattle.mh_form.specs.declared.field.Bound.{Bound, Row_of-Field, end_of-Field, more_of-Field}
use Rattle.mh_form.specs.declared.field.Field.{Field}
use Rattle.mh_form.specs.declared.field.Field.TheVariants.{Part'}
use Rattle.mh_form.specs.declared.field.Field.TheVariants as field
use Rattle.mh_form.specs.Slots.{bounded_slot, called, case_field, default_slots, filled, given, holds_one, converted, ret_converted, made_array, joined_slots, checked_array, item_in, raised_slot}

-- what runs on a list of slots, after n earlier leaf calls
abbrev pub SlotRun : Type 0
SlotRun = List Slot → ℕ → Ran (Option Slot)

-- What a field stands for: a slot, a leaf, a part, or the exceptions that a class takes. It may also be a conversion, a return conversion, the making of arrays
-- of a component type, or the joining of pieces.
pub data Sense : Type 0 where
  IsSlot : Slot → Sense
  IsLeaf : SlotRun → Sense
  IsPart : SlotRun → Sense
  IsClass : (Exc → Bool) → Sense
  IsConv : (Slot → Ran Slot) → Sense
  IsRet : (Option Slot → Ran (Option Slot)) → Sense
  IsComp : (List Slot → Ran Slot) → Sense
  IsJoined : (List Slot → Ran Slot) → Sense

-- the slot of a field
abbrev pub slot_of : Sense → Option Slot
slot_of (IsSlot s) = Some s
slot_of _ = None

-- the leaf of a field
abbrev pub leaf_of : Sense → Option SlotRun
leaf_of (IsLeaf f) = Some f
leaf_of _ = None

-- the part of a field
abbrev pub part_of : Sense → Option SlotRun
part_of (IsPart f) = Some f
part_of _ = None

-- the class of a field
abbrev pub class_of : Sense → Option (Exc → Bool)
class_of (IsClass test) = Some test
class_of _ = None

-- the conversion of a field
abbrev pub conv_of : Sense → Option (Slot → Ran Slot)
conv_of (IsConv f) = Some f
conv_of _ = None

-- the return conversion of a field
abbrev pub ret_of : Sense → Option (Option Slot → Ran (Option Slot))
ret_of (IsRet f) = Some f
ret_of _ = None

-- the component type of a field
abbrev pub comp_of : Sense → Option (List Slot → Ran Slot)
comp_of (IsComp f) = Some f
comp_of _ = None

-- the pieces of a field, as what they join to
abbrev pub joined_of : Sense → Option (List Slot → Ran Slot)
joined_of (IsJoined f) = Some f
joined_of _ = None

-- a field of a kind, if it is there
abbrev pub of_kind : {A : Type 0} → (Sense → Option A) → Option Sense → Option A
of_kind kind None = None
of_kind kind (Some s) = kind s

-- the field of a number, if it is of the kind that is asked for
abbrev pub field_of : {A : Type 0} → (Sense → Option A) → List Sense → ℕ → Option A
field_of kind senses f = of_kind kind (slice_get senses f)

-- goes on with the field of a number, or is stuck
abbrev pub with_field : {A B : Type 0} → (Sense → Option A) → List Sense → ℕ → (A → Ran B) → Ran B
with_field kind senses f next = found (field_of kind senses f) next

-- a slot before slots, if all are there
abbrev pub picked_more : Option Slot → Option (List Slot) → Option (List Slot)
picked_more (Some s) (Some ss) = Some (s ∷ ss)
picked_more _ _ = None

-- the slots at these places
abbrev pub picked : List Slot → List ℕ → Option (List Slot)
picked slots [] = Some []
picked slots (p ∷ ps) = picked_more (slice_get slots p) (picked slots ps)

-- the result at a place, if there is a place
abbrev pub result_at : Option ℕ → List Slot → Option (Option Slot)
result_at None slots = Some None
result_at (Some p) slots = option_map Some (slice_get slots p)

-- goes on with the result at a place, or with nothing if there is no place
abbrev pub with_result : {B : Type 0} → Option ℕ → List Slot → (Option Slot → Ran B) → Ran B
with_result None slots next = next None
with_result (Some p) slots next = found (slice_get slots p) (λ s. next (Some s))

-- the part in a field, run on these slots
abbrev pub run_field : List Sense → ℕ → List Slot → ℕ → Ran (Option Slot)
run_field senses f slots n = with_field part_of senses f (λ part. part slots n)

-- the part in one field, and if it throws an exception that the test takes, the part in another on the exception and the first arguments
abbrev pub guarded_field : List Sense → ℕ → (Exc → Bool) → ℕ → ℕ → List Slot → ℕ → Ran (Option Slot)
guarded_field senses f test h kept xs n =
    guarded (run_field senses f xs n) test n (λ e k. run_field senses h (slot.L (value.Thrown e) ∷ take kept xs) k)

-- A part, and in any case then its cleanup: on null and the result, or on the exception and the default, and on the first arguments. An exception
-- of the part is thrown after its cleanup.
abbrev pub finally_run : SlotRun → SlotRun → ℕ → BasicRet → List Slot → ℕ → Ran Slot
finally_run part cleanup kept ret xs n =
    ended_by (filled (part xs n)) n
    (λ s k. filled (cleanup (slot.L value.Null ∷ (given ret s ++ take kept xs)) k))
    (λ e k. filled (cleanup (slot.L (value.Thrown e) ∷ (default_slots ret ++ take kept xs)) k))

-- the part in one field, and the cleanup in another
abbrev pub finally_field : List Sense → ℕ → ℕ → ℕ → BasicRet → List Slot → ℕ → Ran Slot
finally_field senses f h kept ret xs n = finally_run (run_field senses f) (run_field senses h) kept ret xs n

-- a turn of a loop: its body on the slot that the turn before gave, if it gives one, on the number, and on the first arguments
abbrev pub turn_of : SlotRun → ℕ → BasicRet → List Slot → ℕ → Slot → ℕ → Ran Slot
turn_of body kept ret xs number s n = filled (body (given ret s ++ (slot.I (pos number) ∷ take kept xs)) n)

-- the iterations of a loop, its start, and then the turns of its body
abbrev pub loop_run : SlotRun → SlotRun → SlotRun → LoopCounts → BasicRet → List Slot → ℕ → Ran Slot
loop_run iterations init body counts ret xs n =
    and_then (filled (iterations (take counts.iterations xs) n)) n (λ s k. bounded_slot s (λ turns.
    and_then (filled (init (take counts.init xs) k)) k (λ v m. turned (turn_of body counts.body ret xs) 0 turns v m)))

-- the iterations in one field, the start in the next, and the body in the third
abbrev pub loop_field : List Sense → ℕ → LoopCounts → BasicRet → List Slot → ℕ → Ran Slot
loop_field senses first counts ret xs n =
    loop_run (run_field senses first) (run_field senses (first + 1)) (run_field senses (first + 2)) counts ret xs n

-- what one name gives
abbrev pub step : Name → List Sense → List Slot → ℕ → Ran Slot
step (Get f) senses slots n = with_field slot_of senses f (λ s. Gave s [])
step (Call f args) senses slots n =
    found (picked slots args) (λ xs. with_field leaf_of senses f (λ leaf. filled (leaf xs n)))
step (Link f args) senses slots n = found (picked slots args) (λ xs. filled (run_field senses f xs n))
step (Select i f g args) senses slots n =
    found (slice_get slots i) (λ s. found (picked slots args) (λ xs.
    filled (run_field senses (if holds_one s then f else g) xs n)))
step (Guarded f c h args kept) senses slots n =
    found (picked slots args) (λ xs. with_field class_of senses c (λ test.
    filled (guarded_field senses f test h kept xs n)))
step (Finally f h args kept ret) senses slots n = found (picked slots args) (λ xs. finally_field senses f h kept ret xs n)
step (Switch i first count args) senses slots n =
    found (slice_get slots i) (λ s. found (case_field first count s) (λ f. found (picked slots args) (λ xs.
    filled (run_field senses f xs n))))
step (Loop first args counts ret) senses slots n = found (picked slots args) (λ xs. loop_field senses first counts ret xs n)
step (Conv f i) senses slots n = with_field conv_of senses f (λ conv. found (slice_get slots i) conv)
step (Cast f i) senses slots n = with_field conv_of senses f (λ conv. found (slice_get slots i) conv)
step (Ret f i) senses slots n = with_field ret_of senses f (λ conv. with_result i slots (λ r. filled (conv r)))
step (MakeArray f args) senses slots n = found (picked slots args) (λ xs. with_field comp_of senses f (λ make. make xs))
step (CheckArray i count) senses slots n = found (slice_get slots i) (λ s. filled (checked_array count s))
step (Elem i k) senses slots n = found (slice_get slots i) (λ s. found (item_in s k) (λ item. Gave item []))
step (Join f args) senses slots n = found (picked slots args) (λ xs. with_field joined_of senses f (λ join. join xs))
step (Raise i) senses slots n = found (slice_get slots i) raised_slot

-- the names in order, and then what follows their last one; a name that throws ends the run
abbrev pub run_names : {B : Type 0} → List Name → List Sense → List Slot → ℕ → (List Slot → ℕ → Ran B) → Ran B
run_names [] senses slots n end = end slots n
run_names (x ∷ xs) senses slots n end =
    and_then (step x senses slots n) n (λ s k. run_names xs senses (slots ++ s ∷ []) k end)

-- the slot at the result's place, or nothing
abbrev pub ended : Option ℕ → List Slot → ℕ → Ran (Option Slot)
ended out slots n = with_result out slots (λ r. Gave r [])

-- a body on fields, given what these stand for
abbrev pub run_body : FormBody → List Sense → SlotRun
run_body body senses slots n = run_names body.names senses slots n (ended body.out)

-- what each field stands for; a part stands for its own run
abbrev mutual
  pub sense : LeafTable → Field → Sense
  sense table (field.Val s) = IsSlot s
  sense table (field.Leaf l) = IsLeaf (called table l)
  sense table (Part' p body shape fields) = IsPart (run_body body.now (senses_of table fields))
  sense table (field.Class c) = IsClass (is_caught table.classes c)
  sense table (field.Conv c) = IsConv (converted rules.AsType table.classes c)
  sense table (field.Ret c) = IsRet (ret_converted rules.AsType table.classes c)
  sense table (field.Explicit c) = IsConv (converted rules.Explicit table.classes c)
  sense table (field.ExplicitRet c) = IsRet (ret_converted rules.Explicit table.classes c)
  sense table (field.Comp c) = IsComp (made_array table.classes c)
  sense table (field.Joined pieces) = IsJoined (joined_slots table.classes pieces)

  pub senses_of : {m : _} → LeafTable → Row_of-Field m → List Sense
  senses_of table end_of-Field = []
  senses_of table (more_of-Field f rest) = sense table f ∷ senses_of table rest

-- a body on fields
abbrev pub run_on : LeafTable → FormBody → List Field → SlotRun
run_on table body fields = run_body body (map (sense table) fields)

-- a body on the fields that it is bound to
abbrev pub run_bound : LeafTable → Bound → SlotRun
run_bound table bound = run_on table bound.body.now bound.fields.items

-- an outcome with the leaf calls that were made
abbrev pub ran_of_outcome : SlotOutcome → List LeafCall → Ran (Option Slot)
ran_of_outcome (Return r) calls = Gave r calls
ran_of_outcome (Throw e) calls = Threw e calls

-- a run of the program as a computation
abbrev pub ran_of_run : Done → Ran (Option Slot)
ran_of_run done = ran_of_outcome done.outcome done.calls

-- what the fields of a bound body stand for
abbrev pub senses_in : LeafTable → Bound → List Sense
senses_in table bound = map (sense table) bound.fields.items
