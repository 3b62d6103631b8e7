-- What a dynamic constant is, given the serial of each constant (JVMS SE 17, 5.4.3.6).
use Rattle.std.specs.Prelude.{ℕ, zero, suc, List, codes, Option, None, Ok, Err, option_map, ok_or, slice_get, is_some}
use Rattle.std.specs.Option.{option_flatten}
use Rattle.mh_values.specs.declared.class.Class.{Class}
use Rattle.mh_values.specs.declared.class.ClassId.{ClassId}
use Rattle.mh_values.specs.declared.value.Exc.{Exc}
use Rattle.mh_values.specs.declared.value.Value.{Value}
use Rattle.mh_values.specs.Class.{class_at}
use Rattle.mh_values.specs.Exception.{saying}
use Rattle.mh_jobs.specs.declared.constants.ConstBootstrap.{ConstBootstrap}
use Rattle.mh_jobs.specs.declared.job.Argument.{Argument}
use Rattle.mh_jobs.specs.Thrown.{OrThrown, ◌>>=◌, ◌>>◌, require, recorded}
use Rattle.mh_jobs.specs.Given.{Found}
use Rattle.mh_link.specs.Resolved.{resolved}
use Rattle.mh_link.specs.ConstScripts.{script_value}
use Rattle.mh_link.specs.Named.{Constants}
use Rattle.mh_link.specs.Depth.{depth, most_depth}

-- for each constant the serial of the attempt that resolves it, if one does
abbrev pub Serials : Type 0
Serials = List (Option ℕ)

-- the serial of a constant
abbrev pub serial_at : Serials → ℕ → Option ℕ
serial_at table c = option_flatten (slice_get table c)

-- `java/lang/StackOverflowError`
abbrev pub stack_overflow_class : ClassId
stack_overflow_class = class_at 27

-- a constant that has no depth
abbrev pub too_deep : Exc
too_deep = saying stack_overflow_class (codes "constant depth")

-- an outcome as it is recorded
abbrev pub as_recorded : List Class → OrThrown Value → OrThrown Value
as_recorded classes (Ok v) = Ok v
as_recorded classes (Err e) = Err (recorded classes e)

-- the value that the script of a call gives in the attempt of a serial, from these static arguments
abbrev pub call_value : Constants → ConstBootstrap → ℕ → List Argument → OrThrown Value
call_value run call serial arguments = script_value run.leaves.classes run.scripts call serial arguments

-- the outcome of the attempt of a serial at a constant, given what is known of constants
abbrev pub const_outcome : Constants → Found → ℕ → ℕ → OrThrown Value
const_outcome run known c serial = do
  require (is_some (depth run c)) too_deep
  job ← ok_or (slice_get run.jobs c) too_deep
  call ← job.call
  arguments ← resolved known call.arguments
  call_value run call serial arguments

-- what is recorded of it
abbrev pub const_under : Constants → Found → ℕ → ℕ → OrThrown Value
const_under run known c serial = as_recorded run.leaves.classes (const_outcome run known c serial)

-- what constants are by these serials, if their depth is at most this
unfoldable pub values : Constants → Serials → ℕ → Found
values run table zero c = None
values run table (suc n) c = option_map (λ serial. const_under run (λ d. values run table n d) c serial) (serial_at table c)

-- what constants are by these serials
abbrev pub values_of : Constants → Serials → Found
values_of run table c = values run table most_depth c
