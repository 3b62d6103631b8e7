-- What an attempt links at a call site: it runs a script's lines over registers, and how they end is recorded (JVMS SE 17, 5.4.3.6).
use Rattle.std.specs.Prelude.{ℕ, ◌%◌, ◌==◌, ◌<◌, not, List, [], ◌∷◌, codes, length, pos, Ok, Err, ok_or, slice_get}
use Rattle.mh_values.specs.declared.class.Class.{Class}
use Rattle.mh_values.specs.declared.types.MethodTy.{MethodTy}
use Rattle.mh_values.specs.declared.value.Exc.{Exc}
use Rattle.mh_values.specs.declared.value.Num.TheVariants as num
use Rattle.mh_values.specs.declared.value.Value.TheVariants as values
use Rattle.mh_values.specs.declared.value.Value.{Value}
use Rattle.mh_values.specs.Class.{is_subclass, throwable_class, class_cast_class, illegal_argument_class}
use Rattle.mh_values.specs.Computation.{Threw}
use Rattle.mh_values.specs.Exception.{bare, saying}
use Rattle.mh_values.specs.Same.{is_same_method_type}
use Rattle.mh_leaf.specs.LeafTable.{LeafTable}
use Rattle.mh_tree.specs.Tree.{Tree}
use Rattle.mh_tree.specs.Rows.{illegal, mismatch}
use Rattle.mh_tree.specs.Typing.{type_of, held}
use Rattle.mh_tree.specs.Meaning.{Done, mean}
use Rattle.mh_jobs.specs.declared.job.BootstrapCall.{BootstrapCall}
use Rattle.mh_jobs.specs.declared.job.Method.{Method}
use Rattle.mh_jobs.specs.declared.job.Method.TheVariants as method
use Rattle.mh_script.specs.declared.script.End.{End}
use Rattle.mh_script.specs.declared.script.End.TheVariants as end
use Rattle.mh_script.specs.declared.script.Script.{Script}
use Rattle.mh_script.specs.declared.script.Step.{Step}
use Rattle.mh_script.specs.declared.script.Step.TheVariants as step
use Rattle.mh_script.specs.declared.scripts.ScriptId.{ScriptId}
use Rattle.mh_jobs.specs.Names.{class_of}
use Rattle.mh_link.specs.Concatenation.{concat_of}
use Rattle.mh_link.specs.Operands.{Content, handle, value, Frame, handle_in}
use Rattle.mh_link.specs.Operations.{node_of}
use Rattle.mh_jobs.specs.Thrown.{OrThrown, ◌>>=◌, ◌>>◌, require, plainly, recorded, runtime_class}

-- ---- lines

-- the frame after a register is assigned
abbrev pub assigning : List ℕ → Content → Frame → Frame
assigning name content frame = record frame { assigned = (name, content) ∷ frame.assigned }

-- the frame after a line that is not the last one
abbrev pub stepped : LeafTable → Step → Frame → OrThrown Frame
stepped leaves (step.Let name op) frame = do
  t ← node_of leaves frame op
  Ok (assigning name (handle t) frame)
stepped leaves (step.Serial name) frame = Ok (assigning name (value (values.Boxed (num.J (pos frame.serial)))) frame)
stepped leaves (step.FailMod modulus remainder) frame = do
  require (not (frame.serial % modulus == remainder)) (saying runtime_class (codes "failmod"))
  Ok frame

-- what the last line answers: a target, whose type must be the site's, or an exception. A line that gives the value of a constant gives no target
abbrev pub ended : LeafTable → End → Frame → OrThrown Tree
ended leaves (end.Return h) frame = do
  t ← handle_in frame h
  own ← type_of leaves t
  require (is_same_method_type own frame.call.ty) (mismatch leaves.classes own frame.call.ty)
  Ok t
ended leaves (end.Raise class message) frame = do
  c ← class_of plainly leaves.classes class
  require (is_subclass leaves.classes c throwable_class) (illegal (codes "raise"))
  Err (saying c message)
ended leaves (end.Value v) frame = Err (saying class_cast_class (codes "value"))

-- what the rest of a script answers; the first line that throws ends it
abbrev pub ran : LeafTable → List Step → End → Frame → OrThrown Tree
ran leaves [] e frame = ended leaves e frame
ran leaves (s ∷ steps) e frame = stepped leaves s frame >>= ran leaves steps e

-- ---- attempts

-- the script with a number; a job's number always has one
abbrev pub called_script : List Script → ScriptId → OrThrown Script
called_script scripts id = ok_or (slice_get scripts id.0) (bare illegal_argument_class)

-- a script before its first line, in the attempt of a serial number
abbrev pub at_start : BootstrapCall → ℕ → Frame
at_start call serial = record { call = call; serial = serial; assigned = [] }

-- if a script stands for the bootstrap method, that script is there
abbrev pub IsThere : List Script → Method → Type 0
IsThere scripts (method.Script id) = id.0 < length scripts
IsThere scripts method.Concat = Unit {0}

-- the target that a call of a bootstrap method returns, in the attempt with a serial number, or the exception that it throws
abbrev pub method_target : LeafTable → List Script → ℕ → BootstrapCall → Method → OrThrown Tree
method_target leaves scripts serial call (method.Script id) = do
  script ← called_script scripts id
  ran leaves script.steps script.end (at_start call serial)
method_target leaves scripts serial call method.Concat = concat_of leaves.classes call

-- the target of a call of a bootstrap method
abbrev pub target_of : LeafTable → List Script → ℕ → BootstrapCall → OrThrown Tree
target_of leaves scripts serial call = method_target leaves scripts serial call call.method

-- the target of an attempt to answer a call, or the exception that it throws
abbrev pub outcome : LeafTable → List Script → OrThrown BootstrapCall → ℕ → OrThrown Tree
outcome leaves scripts call serial = call >>= target_of leaves scripts serial

-- what is recorded at a site: the target of all calls, or the error that all throw
pub data Linked : Type 0 where
  Target : Tree → Linked
  Error : Exc → Linked

-- an outcome as it is recorded
abbrev pub linkage : List Class → OrThrown Tree → Linked
linkage classes (Ok t) = Target t
linkage classes (Err e) = Error (recorded classes e)

-- what the attempt with a serial number links for a call
abbrev pub linked : LeafTable → List Script → OrThrown BootstrapCall → ℕ → Linked
linked leaves scripts call serial = linkage leaves.classes (outcome leaves scripts call serial)

-- a call of a site: it calls the target, or throws the recorded error without a leaf call
abbrev pub site_call : LeafTable → Linked → List Value → Done
site_call leaves (Target t) args = mean leaves t args 0
site_call leaves (Error e) args = Threw e []

-- the types that a linked target holds; an error holds none
abbrev pub held_by : LeafTable → Linked → List MethodTy
held_by leaves (Target t) = held leaves t
held_by leaves (Error e) = []
