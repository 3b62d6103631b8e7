-- For proofs: no clause of a public function reaches these definitions.
-- The lines of a constant's script, which make no method handle.
use Rattle.std.specs.Prelude.{ℕ, ◌%◌, ◌==◌, Bool, false, not, List, [], ◌∷◌, codes, Ok, Err, ok_or, slice_get}
use Rattle.std.specs.List.{list_any}
use Rattle.std.specs.Str.{bytes_eq}
use Rattle.mh_values.specs.declared.value.Value.{Value}
use Rattle.mh_values.specs.Exception.{saying}
use Rattle.mh_script.specs.declared.script.Step.{Step}
use Rattle.mh_script.specs.declared.script.Step.TheVariants as step
use Rattle.mh_jobs.specs.declared.job.Argument.{Argument}
use Rattle.mh_jobs.specs.Thrown.{OrThrown, ◌>>=◌, ◌>>◌, require, runtime_class}
use Rattle.mh_link.specs.ConstScripts.{ConstFrame, no_handles, value_argument}
use Rattle.mh_link.specs.Operands.{no_argument}

-- a line that throws, or not
abbrev pub line_passes : ℕ → Step → OrThrown (Unit {0})
line_passes serial (step.Let name op) = Err no_handles
line_passes serial (step.Serial name) = Ok tt
line_passes serial (step.FailMod modulus remainder) = require (not (serial % modulus == remainder)) (saying runtime_class (codes "failmod"))

-- lines up to the first that throws
abbrev pub lines_pass : ℕ → List Step → OrThrown (Unit {0})
lines_pass serial [] = Ok tt
lines_pass serial (s ∷ steps) = line_passes serial s >> lines_pass serial steps

-- a line assigns the register of a name
abbrev pub assigns : List ℕ → Step → Bool
assigns name (step.Serial register) = bytes_eq register name
assigns name s = false

-- some line does
abbrev pub is_assigned : List Step → List ℕ → Bool
is_assigned steps name = list_any (assigns name) steps

-- the static argument of a number, which must be a value
abbrev pub argument_at : List Argument → ℕ → OrThrown Value
argument_at arguments n = ok_or (slice_get arguments n) no_argument >>= value_argument

-- the frame after lines that assign registers
abbrev pub frame_after : List Step → ConstFrame → ConstFrame
frame_after [] frame = frame
frame_after (step.Let name op ∷ steps) frame = frame_after steps frame
frame_after (step.Serial name ∷ steps) frame = frame_after steps (record frame { assigned = name ∷ frame.assigned })
frame_after (step.FailMod modulus remainder ∷ steps) frame = frame_after steps frame
