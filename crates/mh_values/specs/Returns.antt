-- How a call of a return type may end.
use Rattle.std.specs.Prelude.{IsTrue, List, Option, Some, None}
use Rattle.mh_values.specs.declared.class.Class.{Class}
use Rattle.mh_values.specs.declared.types.Ty.{Ty}
use Rattle.mh_values.specs.declared.value.Value.{Value}
use Rattle.mh_values.specs.Class.{is_subclass, throwable_class}
use Rattle.mh_values.specs.Computation.{Ran, Gave, Threw}
use Rattle.mh_values.specs.HasType.{has_type}

-- it returns a value of the type, or nothing if that is void, or throws an exception of a class at or below Throwable; it is never stuck
abbrev pub Returns : List Class → Ran (Option Value) → Option Ty → Type 0
Returns classes (Gave (Some v) calls) (Some t) = IsTrue (has_type classes v t)
Returns classes (Gave None calls) None = Unit {0}
Returns classes (Threw e calls) t = IsTrue (is_subclass classes e.class throwable_class)
Returns classes _ _ = ⊥
