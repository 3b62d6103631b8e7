-- The registers of a constant's script, after its lines.
use Rattle.std.specs.Prelude.{◌≡◌, ℕ, List, [], codes, Ok}
use Rattle.mh_values.specs.declared.class.Class.{Class}
use Rattle.mh_values.specs.declared.value.Exc.{Exc}
use Rattle.mh_values.specs.declared.value.Value.{Value}
use Rattle.mh_values.specs.Class.{is_subclass, throwable_class}
use Rattle.mh_values.specs.Exception.{saying}
use Rattle.mh_tree.specs.Rows.{illegal}
use Rattle.mh_script.specs.declared.script.Script.{Script}
use Rattle.mh_jobs.specs.declared.job.Argument.{Argument}
use Rattle.mh_jobs.specs.Names.{class_of}
use Rattle.mh_jobs.specs.Thrown.{OrThrown, ◌>>=◌, ◌>>◌, plainly, require}
use Rattle.mh_link.specs.ConstScripts.{ConstFrame, const_ran, fitted, is_plain, no_handles}
use Rattle.mh_link.specs.Resolved.{resolved}
use Rattle.mh_condy.specs.declared.ended.Attempt.{Attempt}
use Rattle.mh_condy.specs.Lines.{frame_after}
use Rattle.mh_condy.specs.Nodes.{found_in}

-- these are the static arguments of an attempt, all resolved
abbrev pub AreGiven : {J : Type 0} → Attempt J → List Argument → Type 0
AreGiven attempt arguments = resolved (found_in attempt.pass.now.known) attempt.call.now.arguments ≡ Ok arguments

-- the frame before the first line
abbrev pub start_of : {J : Type 0} → Attempt J → List Argument → ConstFrame
start_of attempt arguments = record { name = attempt.call.now.name; arguments = arguments; serial = attempt.serial; assigned = [] }

-- the frame before the last line of a script
abbrev pub frame_of : {J : Type 0} → Attempt J → Script → List Argument → ConstFrame
frame_of attempt script arguments = frame_after script.steps (start_of attempt arguments)

-- an exception of a class, which must be at or below `Throwable`, with a message
abbrev pub raised : List Class → List ℕ → List ℕ → OrThrown Exc
raised classes class message = do
  c ← class_of plainly classes class
  require (is_subclass classes c throwable_class) (illegal (codes "raise"))
  Ok (saying c message)

-- the value that a script gives
abbrev pub scripted_value : {J : Type 0} → Attempt J → Script → List Argument → OrThrown Value
scripted_value attempt script arguments = do
  require (is_plain script) no_handles
  v ← const_ran attempt.classes.now script.steps script.end (start_of attempt arguments)
  fitted attempt.classes.now attempt.call.now.ty v
