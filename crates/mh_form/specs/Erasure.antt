-- Erasure: what types and values become in a form, which does not distinguish all of them, and back.
use Rattle.std.specs.Prelude.{ℕ, Bool, true, false, List, [], ◌∷◌, map, slice_get, Option, None, Some, option_map, option_and_then, ℤ, if◌then◌else◌}
use Rattle.std.specs.Option.{option_map_or}
use Rattle.mh_values.specs.declared.class.Class.{Class}
use Rattle.mh_values.specs.declared.types.MethodTy.{MethodTy}
use Rattle.mh_values.specs.declared.types.Primitive.{Primitive}
use Rattle.mh_values.specs.declared.types.Primitive.TheVariants as primitive
use Rattle.mh_values.specs.declared.types.Ty.{Ty}
use Rattle.mh_values.specs.declared.types.Ty.TheVariants as ty
use Rattle.mh_values.specs.declared.value.Num.{Num}
use Rattle.mh_values.specs.declared.value.Value.{Value}
use Rattle.mh_values.specs.declared.value.Value.TheVariants as value
use Rattle.mh_values.specs.Computation.{Ran, mapped}
use Rattle.mh_values.specs.HasType.{has_type}
use Rattle.mh_values.specs.Primitives.{primitive_of, whole, lies_in, number_as}
use Rattle.mh_form.specs.declared.basic.Basic.{Basic}
use Rattle.mh_form.specs.declared.basic.Basic.TheVariants as basic
use Rattle.mh_form.specs.declared.basic.BasicRet.{BasicRet}
use Rattle.mh_form.specs.declared.basic.BasicRet.TheVariants as basic_ret
use Rattle.mh_form.specs.declared.basic.Shape.{Shape}
use Rattle.mh_form.specs.declared.slot.Slot.{Slot}
use Rattle.mh_form.specs.declared.slot.Slot.TheVariants as slot

-- the basic type of a type: long, any other primitive type, or a reference
abbrev pub basic_of : Ty → Basic
basic_of (ty.Prim primitive.J) = basic.J
basic_of (ty.Prim p) = basic.I
basic_of t = basic.L

-- the basic type of a return type
abbrev pub basic_ret_of : Option Ty → BasicRet
basic_ret_of None = basic_ret.V
basic_ret_of (Some t) = basic_ret.Is (basic_of t)

-- a method type with its types erased
abbrev pub shape_of : MethodTy → Shape
shape_of t = record { params = map basic_of t.params; ret = basic_ret_of t.ret }

-- the slot of a number of a primitive type: long has a slot of its own, any other type that of int
abbrev pub number_slot : Primitive → ℤ → Slot
number_slot primitive.Z z = slot.I z
number_slot primitive.B z = slot.I z
number_slot primitive.C z = slot.I z
number_slot primitive.S z = slot.I z
number_slot primitive.I z = slot.I z
number_slot primitive.J z = slot.J z

-- a value with its type erased: a number is the whole number that it is
abbrev pub erased : Value → Slot
erased (value.Prim n) = number_slot (primitive_of n) (whole n)
erased v = slot.L v

-- a result with its type erased
abbrev pub erased_option : Option Value → Option Slot
erased_option None = None
erased_option (Some v) = Some (erased v)

-- a computation with the type of its result erased
abbrev pub erased_ran : Ran (Option Value) → Ran (Option Slot)
erased_ran r = mapped erased_option r

-- the int in a slot
abbrev pub int_in : Slot → Option ℤ
int_in (slot.I n) = Some n
int_in (slot.J n) = None
int_in (slot.L v) = None

-- the long in a slot
abbrev pub long_in : Slot → Option ℤ
long_in (slot.I n) = None
long_in (slot.J n) = Some n
long_in (slot.L v) = None

-- the whole number that a slot of a primitive type has
abbrev pub whole_in : Primitive → Slot → Option ℤ
whole_in primitive.Z s = int_in s
whole_in primitive.B s = int_in s
whole_in primitive.C s = int_in s
whole_in primitive.S s = int_in s
whole_in primitive.I s = int_in s
whole_in primitive.J s = long_in s

-- the number of a primitive type that a slot stands for: the slot lies in the range of the type
abbrev pub number_in : Primitive → Slot → Option Num
number_in p s = option_and_then (number_as p) (whole_in p s)

-- a value, if it has the type
abbrev pub where_typed : List Class → Ty → Value → Option Value
where_typed classes t v = if has_type classes v t then Some v else None

-- the value of a type that a slot stands for
abbrev pub typed : List Class → Ty → Slot → Option Value
typed classes (ty.Prim p) s = option_map value.Prim (number_in p s)
typed classes (ty.Class c) (slot.L v) = where_typed classes (ty.Class c) v
typed classes (ty.Array c) (slot.L v) = where_typed classes (ty.Array c) v
typed classes t s = None

-- whether a slot lies in the range of a type, as the slot of each value of the type does
abbrev pub lies_within : Ty → Slot → Bool
lies_within (ty.Prim p) s = option_map_or (lies_in p) (whole_in p s) false
lies_within (ty.Class c) s = true
lies_within (ty.Array c) s = true

-- a value before values, if all are there
abbrev pub value_and_more : Option Value → Option (List Value) → Option (List Value)
value_and_more (Some v) (Some vs) = Some (v ∷ vs)
value_and_more _ _ = None

-- the values of these types that the slots stand for, one for each
abbrev pub all_typed : List Class → List Ty → List Slot → Option (List Value)
all_typed classes [] [] = Some []
all_typed classes (t ∷ ts) (s ∷ ss) = value_and_more (typed classes t s) (all_typed classes ts ss)
all_typed classes _ _ = None

-- the value of a type that a slot stands for, if there is a slot
abbrev pub typed_slot : List Class → Ty → Option Slot → Option Value
typed_slot classes t None = None
typed_slot classes t (Some s) = typed classes t s

-- the values of these types that the slots at these places stand for, one for each
abbrev pub typed_at : List Class → List Slot → List Ty → List ℕ → Option (List Value)
typed_at classes slots [] [] = Some []
typed_at classes slots (t ∷ ts) (p ∷ ps) = value_and_more (typed_slot classes t (slice_get slots p)) (typed_at classes slots ts ps)
typed_at classes slots _ _ = None
