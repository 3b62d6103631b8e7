-- The value that a script gives a constant: its lines, and its last one (JVMS SE 17, 5.4.3.6).
use Rattle.std.specs.Prelude.{ℕ, ◌%◌, ◌==◌, Bool, true, false, not, ◌&&◌, if◌then◌else◌, List, [], ◌∷◌, codes, pos, Result, Ok, Err, ok_or, slice_get}
use Rattle.std.specs.List.{list_all, list_any}
use Rattle.std.specs.Str.{bytes_eq}
use Rattle.mh_values.specs.declared.class.Class.{Class}
use Rattle.mh_values.specs.declared.types.Ty.{Ty}
use Rattle.mh_values.specs.declared.value.Exc.{Exc}
use Rattle.mh_values.specs.declared.value.Num.TheVariants as num
use Rattle.mh_values.specs.declared.value.Value.{Value}
use Rattle.mh_values.specs.declared.value.Value.TheVariants as values
use Rattle.mh_values.specs.Class.{is_subclass, throwable_class}
use Rattle.mh_values.specs.Exception.{saying}
use Rattle.mh_convert.specs.Conversion.{boxed, fit}
use Rattle.mh_tree.specs.Rows.{illegal}
use Rattle.mh_script.specs.declared.operand.Register.{Register}
use Rattle.mh_script.specs.declared.operand.Register.TheVariants as register
use Rattle.mh_script.specs.declared.operand.ValueOperand.{ValueOperand}
use Rattle.mh_script.specs.declared.operand.ValueOperand.TheVariants as of_value
use Rattle.mh_script.specs.declared.script.End.{End}
use Rattle.mh_script.specs.declared.script.End.TheVariants as end
use Rattle.mh_script.specs.declared.script.Script.{Script}
use Rattle.mh_script.specs.declared.script.Step.{Step}
use Rattle.mh_script.specs.declared.script.Step.TheVariants as step
use Rattle.mh_jobs.specs.declared.constants.ConstBootstrap.{ConstBootstrap}
use Rattle.mh_jobs.specs.declared.job.Argument.{Argument}
use Rattle.mh_jobs.specs.declared.job.Argument.TheVariants as argument
use Rattle.mh_jobs.specs.Names.{class_of}
use Rattle.mh_jobs.specs.Thrown.{OrThrown, ◌>>=◌, ◌>>◌, require, plainly, runtime_class, unsupported}
use Rattle.mh_link.specs.Linked.{called_script}
use Rattle.mh_link.specs.Operands.{no_argument, wrong_sort}

-- ---- scripts that make no method handle

-- a line before the last one that makes none: `let R serial`, or `failmod`
abbrev pub is_plain_step : Step → Bool
is_plain_step (step.Let name op) = false
is_plain_step _ = true

-- a last line that returns none: `raise`, or `value`
abbrev pub is_plain_end : End → Bool
is_plain_end (end.Return h) = false
is_plain_end _ = true

-- a script of such lines
abbrev pub is_plain : Script → Bool
is_plain script = list_all is_plain_step script.steps && is_plain_end script.end

-- a script that makes a method handle gives no constant
abbrev pub no_handles : Exc
no_handles = unsupported (codes "handle")

-- ---- lines

-- such a script while it runs: the constant's name, the static arguments, the serial of the attempt, and the registers that hold it
pub record ConstFrame : Type 0 where
  pub name : List ℕ
  pub arguments : List Argument
  pub serial : ℕ
  pub assigned : List (List ℕ)

-- a static argument that is a value
abbrev pub value_argument : Argument → OrThrown Value
value_argument (argument.Value v) = Ok v
value_argument _ = wrong_sort

-- the value of a register: the name, a static argument, or the serial as a boxed long
abbrev pub value_held : ConstFrame → Register → OrThrown Value
value_held frame register.SiteType = wrong_sort
value_held frame register.SiteName = Ok (values.Text frame.name)
value_held frame (register.Argument n) = ok_or (slice_get frame.arguments n) no_argument >>= value_argument
value_held frame (register.Assigned name) =
    if list_any (λ a. bytes_eq a name) frame.assigned then Ok (values.Boxed (num.J (pos frame.serial))) else Err no_argument

-- the value of an operand
abbrev pub const_value : ConstFrame → ValueOperand → OrThrown Value
const_value frame (of_value.Literal v) = Ok v
const_value frame (of_value.Register r) = value_held frame r

-- a line before the last one
abbrev pub const_stepped : Step → ConstFrame → OrThrown ConstFrame
const_stepped (step.Let name op) frame = Err no_handles
const_stepped (step.Serial name) frame = Ok (record frame { assigned = name ∷ frame.assigned })
const_stepped (step.FailMod modulus remainder) frame = do
  require (not (frame.serial % modulus == remainder)) (saying runtime_class (codes "failmod"))
  Ok frame

-- the last line
abbrev pub const_ended : List Class → End → ConstFrame → OrThrown Value
const_ended classes (end.Return h) frame = Err no_handles
const_ended classes (end.Raise class message) frame = do
  c ← class_of plainly classes class
  require (is_subclass classes c throwable_class) (illegal (codes "raise"))
  Err (saying c message)
const_ended classes (end.Value v) frame = const_value frame v

-- the lines that are left of a script; the first that throws ends it
abbrev pub const_ran : List Class → List Step → End → ConstFrame → OrThrown Value
const_ran classes [] e frame = const_ended classes e frame
const_ran classes (s ∷ steps) e frame = const_stepped s frame >>= const_ran classes steps e

-- ---- values

-- a value that was made to be one of the constant's type, boxed again; one that cannot be throws as it does, with a message of its own
abbrev pub boxed_again : Result Value Exc → OrThrown Value
boxed_again (Ok v) = Ok (boxed v)
boxed_again (Err e) = Err (saying e.class (codes "constant"))

-- a value as one of the constant's type
abbrev pub fitted : List Class → Ty → Value → OrThrown Value
fitted classes t v = boxed_again (fit classes v t)

-- the value that the script of a call gives in the attempt of a serial, from these static arguments
abbrev pub script_value : List Class → List Script → ConstBootstrap → ℕ → List Argument → OrThrown Value
script_value classes scripts call serial arguments = do
  script ← called_script scripts call.script
  require (is_plain script) no_handles
  v ← const_ran classes script.steps script.end (record { name = call.name; arguments = arguments; serial = serial; assigned = [] })
  fitted classes call.ty v
