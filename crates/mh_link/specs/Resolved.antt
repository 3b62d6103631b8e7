-- The static arguments of a bootstrap method, some of which are constants (JVMS SE 17, 5.4.3.6).
use Rattle.mh_jobs.specs.declared.job.Argument.TheVariants as argument
use Rattle.mh_jobs.specs.declared.job.Argument.{Argument}
use Rattle.mh_jobs.specs.declared.job.BootstrapCall.{BootstrapCall}
use Rattle.mh_jobs.specs.declared.job.Job.{Job}
use Rattle.mh_jobs.specs.declared.sites.Bootstrap.{Bootstrap}
use Rattle.mh_jobs.specs.declared.unresolved.Part.TheVariants.{Known, Constant}
use Rattle.mh_jobs.specs.declared.unresolved.Part.{Part}
use Rattle.mh_jobs.specs.declared.unresolved.StaticArguments.{StaticArguments}
use Rattle.std.specs.Prelude.{ℕ, if◌then◌else◌, List, [], ◌∷◌, ◌≡◌, codes, Option, Some, None, Ok, Err, is_ok}
use Rattle.mh_values.specs.declared.value.Exc.{Exc}
use Rattle.mh_values.specs.declared.value.Value.{Value}
use Rattle.mh_jobs.specs.Given.{Given, Found}
use Rattle.mh_jobs.specs.Thrown.{OrThrown, ◌>>=◌, unsupported}

-- a constant as an argument; it is unsupported if nothing is known of it
abbrev pub taken : Option (OrThrown Value) → OrThrown Value
taken (Some value) = value
taken None = Err (unsupported (codes "constant"))

-- what stands after the last part
abbrev pub at_end : Option Exc → OrThrown (List Argument)
at_end None = Ok []
at_end (Some e) = Err e

-- parts in order, and then what is thrown at their end; the first error ends all
abbrev pub resolved_parts : Found → Option Exc → List Part → OrThrown (List Argument)
resolved_parts known thrown [] = at_end thrown
resolved_parts known thrown (Known a ∷ parts) = do
  others ← resolved_parts known thrown parts
  Ok (a ∷ others)
resolved_parts known thrown (Constant c ∷ parts) = do
  value ← taken (known c)
  others ← resolved_parts known thrown parts
  Ok (argument.Value value ∷ others)

-- the static arguments, given what is known of constants
abbrev pub resolved : Found → StaticArguments → OrThrown (List Argument)
resolved known arguments = resolved_parts known arguments.thrown arguments.parts

-- the call of a bootstrap method at a site, given what is known of constants
abbrev pub call_under : Found → OrThrown Bootstrap → OrThrown BootstrapCall
call_under known call = do
  bootstrap ← call
  arguments ← resolved known bootstrap.arguments
  Ok (record { method = bootstrap.method; name = bootstrap.name; ty = bootstrap.ty; arguments = arguments })

-- the call of the bootstrap method at a job's site, where of the constants is recorded what a run is given
abbrev pub call_at : Given → Job → OrThrown BootstrapCall
call_at given job = call_under given.values job.call

-- the constants that are looked at to resolve parts, in order: up to the first that is an error
abbrev pub asked : Found → List Part → List ℕ
asked known [] = []
asked known (Known a ∷ parts) = asked known parts
asked known (Constant c ∷ parts) = c ∷ (if is_ok (taken (known c)) then asked known parts else [])

-- the static arguments of a site's call
abbrev pub arguments_of_site : OrThrown Bootstrap → OrThrown StaticArguments
arguments_of_site (Ok bootstrap) = Ok bootstrap.arguments
arguments_of_site (Err e) = Err e

-- two tables know the same of each of these constants
abbrev pub Agree : Found → Found → List ℕ → Type 0
Agree known other [] = Unit {0}
Agree known other (c ∷ cs) = (known c ≡ other c) × Agree known other cs
