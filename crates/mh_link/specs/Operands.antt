-- The registers of a script while it runs, and what its operands mean.
use Rattle.std.specs.Prelude.{ℕ, List, [], ◌∷◌, codes, if◌then◌else◌, Option, Some, None, Ok, Err, ok_or, slice_get, option_map}
use Rattle.std.specs.Str.{bytes_eq}
use Rattle.mh_values.specs.declared.class.Class.{Class}
use Rattle.mh_values.specs.declared.types.Ty.{Ty}
use Rattle.mh_values.specs.declared.types.MethodTy.{MethodTy}
use Rattle.mh_values.specs.declared.value.Exc.{Exc}
use Rattle.mh_values.specs.declared.value.Value.{Value}
use Rattle.mh_values.specs.declared.value.Value.TheVariants as values
use Rattle.mh_values.specs.Class.{class_cast_class, wrong_method_type_class}
use Rattle.mh_values.specs.Exception.{saying}
use Rattle.mh_tree.specs.Tree.{Tree, Leaf}
use Rattle.mh_jobs.specs.declared.job.Argument.{Argument}
use Rattle.mh_jobs.specs.declared.job.Argument.TheVariants as argument
use Rattle.mh_jobs.specs.declared.job.BootstrapCall.{BootstrapCall}
use Rattle.mh_script.specs.declared.operand.Register.{Register}
use Rattle.mh_script.specs.declared.operand.Register.TheVariants as register
use Rattle.mh_script.specs.declared.operand.ValueOperand.{ValueOperand}
use Rattle.mh_script.specs.declared.operand.ValueOperand.TheVariants as of_value
use Rattle.mh_script.specs.declared.operand.TypeOperand.{TypeOperand}
use Rattle.mh_script.specs.declared.operand.TypeOperand.TheVariants as of_type
use Rattle.mh_script.specs.declared.operand.MethodTypeOperand.{MethodTypeOperand}
use Rattle.mh_script.specs.declared.operand.MethodTypeOperand.TheVariants as of_method_type
use Rattle.mh_jobs.specs.Names.{type_of_text, method_type_of_text}
use Rattle.mh_jobs.specs.Thrown.{OrThrown, ◌>>=◌, plainly}

-- ---- registers

-- what a register holds: one of four sorts
pub data Content : Type 0 where
  handle : Tree → Content
  value : Value → Content
  method_type : MethodTy → Content
  class : Ty → Content

-- A script while it runs: the call that it answers, the serial of the attempt, and what its lines have assigned so far, the latest first.
pub record Frame : Type 0 where
  pub call : BootstrapCall
  pub serial : ℕ
  pub assigned : List (List ℕ × Content)

-- the content of a static argument's register; a leaf is a method handle
abbrev pub content_of : Argument → Content
content_of (argument.Value v) = value v
content_of (argument.MethodType t) = method_type t
content_of (argument.Class t) = class t
content_of (argument.Leaf l) = handle (Leaf l)

-- what was assigned last under a name
abbrev pub last_assigned : List ℕ → List (List ℕ × Content) → Option Content
last_assigned name [] = None
last_assigned name (a ∷ assigned) = if bytes_eq a.0 name then Some a.1 else last_assigned name assigned

-- what a register holds, if it holds anything
abbrev pub held_in : Frame → Register → Option Content
held_in frame register.SiteType = Some (method_type frame.call.ty)
held_in frame register.SiteName = Some (value (values.Text frame.call.name))
held_in frame (register.Argument n) = option_map content_of (slice_get frame.call.arguments n)
held_in frame (register.Assigned name) = last_assigned name frame.assigned

-- ---- registers of a sort

-- there is no such static argument
abbrev pub no_argument : Exc
no_argument = saying wrong_method_type_class (codes "arguments")

-- a static argument is of another sort
abbrev pub wrong_sort : {A : Type 0} → OrThrown A
wrong_sort = Err (saying class_cast_class (codes "arguments"))

-- What a register holds. In a script that was read, only the register of a static argument may hold nothing.
abbrev pub content : Frame → Register → OrThrown Content
content frame r = ok_or (held_in frame r) no_argument

-- the content, which must be a method handle
abbrev pub as_handle : Content → OrThrown Tree
as_handle (handle t) = Ok t
as_handle _ = wrong_sort

-- the content, which must be a value
abbrev pub as_value : Content → OrThrown Value
as_value (value v) = Ok v
as_value _ = wrong_sort

-- the content, which must be a method type
abbrev pub as_method_type : Content → OrThrown MethodTy
as_method_type (method_type t) = Ok t
as_method_type _ = wrong_sort

-- the content, which must be a class
abbrev pub as_class : Content → OrThrown Ty
as_class (class t) = Ok t
as_class _ = wrong_sort

-- ---- operands

-- the method handle of a register
abbrev pub handle_in : Frame → Register → OrThrown Tree
handle_in frame r = content frame r >>= as_handle

-- a value: a literal, or that of a register
abbrev pub value_in : Frame → ValueOperand → OrThrown Value
value_in frame (of_value.Literal v) = Ok v
value_in frame (of_value.Register r) = content frame r >>= as_value

-- a type, or `None` for void: that of a descriptor, or the class of a register
abbrev pub type_in : List Class → Frame → TypeOperand → OrThrown (Option Ty)
type_in classes frame of_type.Void = Ok None
type_in classes frame (of_type.Descriptor text) = do
  t ← type_of_text plainly classes text
  Ok (Some t)
type_in classes frame (of_type.Register r) = do
  held ← content frame r
  t ← as_class held
  Ok (Some t)

-- a method type: that of a descriptor, or of a register
abbrev pub method_type_in : List Class → Frame → MethodTypeOperand → OrThrown MethodTy
method_type_in classes frame (of_method_type.Descriptor text) = method_type_of_text plainly classes text
method_type_in classes frame (of_method_type.Register r) = content frame r >>= as_method_type
