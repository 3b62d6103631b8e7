-- For proofs: no clause of a public function reaches these definitions.
-- The static arguments of an attempt, given what its pass has learnt of constants.
use Rattle.std.specs.Prelude.{◌≡◌, ℕ, ◌+◌, ◌<◌, ◌≤◌, List, [], ◌∷◌, length, slice_get, All, Option, None, Some, Ok, Err}
use Rattle.mh_values.specs.declared.value.Exc.{Exc}
use Rattle.mh_values.specs.declared.value.Value.{Value}
use Rattle.mh_jobs.specs.declared.constants.ConstBootstrap.{ConstBootstrap}
use Rattle.mh_jobs.specs.declared.constants.ConstJob.{ConstJob}
use Rattle.mh_jobs.specs.declared.job.Argument.{Argument}
use Rattle.mh_jobs.specs.declared.unresolved.Part.{Part}
use Rattle.mh_jobs.specs.declared.unresolved.Part.TheVariants.{Known, Constant}
use Rattle.mh_jobs.specs.declared.unresolved.StaticArguments.{StaticArguments}
use Rattle.mh_jobs.specs.Thrown.{OrThrown, ◌>>=◌}
use Rattle.mh_link.specs.Named.{Constants}
use Rattle.mh_link.specs.Asking.{asked_by}
use Rattle.mh_link.specs.Constants.{call_value, const_outcome}
use Rattle.mh_link.specs.Depth.{rank}
use Rattle.mh_jobs.specs.Given.{Found}
use Rattle.mh_link.specs.Resolved.{asked, resolved, resolved_parts}
use Rattle.mh_condy.specs.declared.attempt.Asked.{Asked}
use Rattle.mh_condy.specs.declared.thrown.Failure.{Failure}
use Rattle.mh_condy.specs.Nodes.{Knows, Nodes, found_in, unknown}
use Rattle.mh_condy.specs.Passes.{PassView}
use Rattle.mh_condy.specs.Recorded.{ConstView, FindingView, constants_of, found_of}
use Rattle.mh_condy.specs.Resolving.{GoesOnResolving}
use Rattle.mh_condy.specs.Told.{Tells}
use Rattle.mh_condy.specs.Trails.{GoesBeside, trail_of}

-- the constants among parts are constants of the run, and have a rank below a number
abbrev pub AreUnder : Constants → ℕ → List Part → Type 0
AreUnder run under [] = Unit {0}
AreUnder run under (Known a ∷ parts) = AreUnder run under parts
AreUnder run under (Constant c ∷ parts) = (rank run c < under) × (c < length run.jobs) × AreUnder run under parts

-- the arguments are all there; or what is thrown in place of one
abbrev pub ResolvesTo : Found → StaticArguments → Option Exc → Type 0
ResolvesTo found arguments None = (given : List Argument) × (resolved found arguments ≡ Ok given)
ResolvesTo found arguments (Some e) = resolved found arguments ≡ Err e

-- the outcome of a call in the attempt of a serial
abbrev pub call_outcome : Constants → Found → ConstBootstrap → ℕ → OrThrown Value
call_outcome run found call serial = resolved found call.arguments >>= call_value run call serial

-- what was found of the constants among arguments, up to the first that is an error, is known; and how the arguments end
pub record WasAsked (known : Nodes) (arguments : StaticArguments) (a : Asked) : Type 0 where
  pub constants : constants_of a.findings.items ≡ asked (found_in known) arguments.parts
  pub knows : All (Knows known) a.findings.items
  pub resolves : ResolvesTo (found_in known) arguments a.thrown

-- the constants among arguments were gone through, up to the first that is an error
pub record AreAsked (run : Constants) (arguments : StaticArguments) (old new : PassView) (a : Asked) : Type 0 where
  pub goes : GoesBeside run (asked (found_in new.known) arguments.parts) (trail_of old) (trail_of new)
  pub was : WasAsked new.known arguments a

-- the attempt of a serial has made this of a constant, after the constants that it looks at were gone through: what it has found of them is known
pub record HasMade (run : Constants) (c serial : ℕ) (old new : PassView) (made : ConstView) : Type 0 where
  pub number : made.job.number ≡ c
  pub drawn : made.serial ≡ serial
  pub knows : All (Knows new.known) made.under
  pub goes : GoesBeside run (constants_of made.under) (trail_of old) (trail_of new)

-- the attempt at a job's constant looks at no constant, and throws this
pub record IsUnasked (run : Constants) (job : ConstJob) (serial : ℕ) (failure : Failure) : Type 0 where
  pub named : slice_get run.jobs job.number ≡ Some job
  pub asked : asked_by run (found_of []) job.number ≡ []
  pub outcome : Tells (Err failure) (const_outcome run (found_of []) job.number serial)

-- the constants among parts
abbrev pub constants_among : List Part → List ℕ
constants_among [] = []
constants_among (Known a ∷ parts) = constants_among parts
constants_among (Constant c ∷ parts) = c ∷ constants_among parts

-- these parts were gone through: none was an error, what was found of the constants among them is known, and there is room for those under a rank
pub record HaveGiven (run : Constants) (under : ℕ) (parts : List Part) (findings : List FindingView) (old now : PassView) : Type 0 where
  pub on : GoesOnResolving old now
  pub goes : GoesBeside run (constants_among parts) (trail_of old) (trail_of now)
  pub constants : constants_of findings ≡ constants_among parts
  pub knows : All (Knows now.known) findings
  pub given : List Argument
  pub resolves : resolved_parts (found_in now.known) None parts ≡ Ok given
  pub room : unknown (rank run) under now.known ≤ now.seat.room
  -- at most as many serials were drawn as such constants became known
  pub drawn : unknown (rank run) under now.known + old.seat.room ≤ unknown (rank run) under old.known + now.seat.room

-- the part at a place is this constant, or is known
abbrev pub IsPartAt : List Part → ℕ → Option ℕ → Type 0
IsPartAt parts at (Some c) = slice_get parts at ≡ Some (Constant c)
IsPartAt parts at None = (a : Argument) × (slice_get parts at ≡ Some (Known a))
