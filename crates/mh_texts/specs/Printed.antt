-- Values, types and exceptions as they are printed.
use Rattle.std.specs.Prelude.{ℕ, List, [], ◌++◌, codes, Option, None, Some}
use Rattle.mh_values.specs.declared.class.Class.{Class}
use Rattle.mh_values.specs.declared.class.ClassId.{ClassId}
use Rattle.mh_values.specs.declared.types.Comp.{Comp}
use Rattle.mh_values.specs.declared.types.Ty.{Ty}
use Rattle.mh_values.specs.declared.types.MethodTy.{MethodTy}
use Rattle.mh_values.specs.declared.value.Cause.{Cause}
use Rattle.mh_values.specs.declared.value.Exc.{Exc}
use Rattle.mh_values.specs.declared.value.Cell.{Cell}
use Rattle.mh_values.specs.declared.value.Value.{Value}
use Rattle.mh_values.specs.Classes.{name_of}
use Rattle.mh_values.specs.TypeText.{class_written, component_written, type_written, return_written, method_type_written}
use Rattle.mh_texts.specs.LiteralText.{object_written, exception_written, item_written, items_written, array_written, value_written}
use Rattle.mh_texts.specs.Text.{escaped, cut, shown_text}

-- a class's name as it is printed
abbrev pub name_text : List Class → ClassId → List ℕ
name_text classes c = escaped (name_of classes c)

-- ---- types

-- a class in a printed type
abbrev pub printed_class : List Class → ClassId → List ℕ
printed_class classes = class_written (name_text classes)

-- the type of an array's items
abbrev pub printed_component : List Class → Comp → List ℕ
printed_component classes = component_written (name_text classes)

-- a type
abbrev pub printed_type : List Class → Ty → List ℕ
printed_type classes = type_written (name_text classes)

-- a return type
abbrev pub printed_return : List Class → Option Ty → List ℕ
printed_return classes = return_written (name_text classes)

-- a method type
abbrev pub printed_method_type : List Class → MethodTy → List ℕ
printed_method_type classes = method_type_written (name_text classes)

-- a method type as it is printed
abbrev pub shown_type : List Class → MethodTy → List ℕ
shown_type classes t = cut (printed_method_type classes t)

-- ---- values

-- an object
abbrev pub object_text : List Class → ClassId → ℕ → List ℕ
object_text classes = object_written (name_text classes)

-- an exception as a value: its class alone
abbrev pub exception_text : List Class → Exc → List ℕ
exception_text classes = exception_written (name_text classes)

-- an item of an array
abbrev pub item_text : List Class → Cell → List ℕ
item_text classes = item_written (name_text classes)

-- items with a comma between them
abbrev pub items_text : List Class → List Cell → List ℕ
items_text classes = items_written (name_text classes)

-- an array
abbrev pub array_text : List Class → Comp → List Cell → List ℕ
array_text classes = array_written (name_text classes)

-- a value, uncut
abbrev pub value_text : List Class → Value → List ℕ
value_text classes = value_written (name_text classes)

-- a value as it is printed
abbrev pub shown_value : List Class → Value → List ℕ
shown_value classes v = cut (value_text classes v)

-- ---- exceptions

-- a class and a message, each cut by itself
abbrev pub said_text : List Class → ClassId → List ℕ → List ℕ
said_text classes c message = cut (name_text classes c) ++ codes " s:" ++ shown_text message

-- a cause after its exception
abbrev pub cause_text : List Class → Option Cause → List ℕ
cause_text classes None = []
cause_text classes (Some cause) = codes " cause " ++ said_text classes cause.class cause.message

-- an exception with its message and its cause, as it is printed
abbrev pub shown_exception : List Class → Exc → List ℕ
shown_exception classes e = said_text classes e.class e.message ++ cause_text classes e.cause
