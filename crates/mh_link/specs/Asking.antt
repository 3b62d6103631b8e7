-- Which constants are asked, and in which order.
use Rattle.std.specs.Prelude.{ℕ, zero, suc, if◌then◌else◌, List, [], ◌∷◌, Ok, Err, slice_get, is_some}
use Rattle.std.specs.List.{flat_map}
use Rattle.std.specs.Option.{option_map_or}
use Rattle.mh_jobs.specs.declared.constants.ConstJob.{ConstJob}
use Rattle.mh_jobs.specs.declared.job.Job.{Job}
use Rattle.mh_jobs.specs.declared.unresolved.StaticArguments.{StaticArguments}
use Rattle.mh_jobs.specs.Thrown.{OrThrown}
use Rattle.mh_jobs.specs.Given.{Found}
use Rattle.mh_link.specs.Resolved.{arguments_of_site, asked}
use Rattle.mh_link.specs.Named.{Constants, arguments_of_call}
use Rattle.mh_link.specs.Depth.{depth, most_depth}
use Rattle.mh_link.specs.Constants.{Serials, values_of}
use Rattle.mh_link.specs.Places.{first_places}

-- the constants that a call with these static arguments looks at itself; an exception in its place looks at none
abbrev pub asked_of_call : Found → OrThrown StaticArguments → List ℕ
asked_of_call known (Ok arguments) = asked known arguments.parts
asked_of_call known (Err e) = []

-- the constants that the call of a site's job looks at itself
abbrev pub asked_at : Found → Job → List ℕ
asked_at known job = asked_of_call known (arguments_of_site job.call)

-- the constants that the call of a job looks at itself
abbrev pub asked_of_job : Found → ConstJob → List ℕ
asked_of_job known job = asked_of_call known (arguments_of_call job.call)

-- the constants that a constant looks at itself: none if it has no depth
abbrev pub asked_by : Constants → Found → ℕ → List ℕ
asked_by run known c =
    if is_some (depth run c) then option_map_or (asked_of_job known) (slice_get run.jobs c) [] else []

-- all constants below one, this many steps deep: each that it looks at, directly followed by all below that
unfoldable pub below : (ℕ → List ℕ) → ℕ → ℕ → List ℕ
below own zero c = []
below own (suc n) c = flat_map (λ d. d ∷ below own n d) (own c)

-- these numbers, each directly followed by all that stands below it
abbrev pub with_below : (ℕ → List ℕ) → ℕ → List ℕ → List ℕ
with_below own n cs = flat_map (λ c. c ∷ below own n c) cs

-- the constants that a call asks: each that it looks at, directly followed by those that this one asks itself; a repeat is left out
abbrev pub asks : Constants → Serials → OrThrown StaticArguments → List ℕ
asks run table call =
    first_places [] (with_below (asked_by run (values_of run table)) most_depth (asked_of_call (values_of run table) call))

-- the constants that several calls ask, those of one call after those of another
abbrev pub asked_by_all : Constants → Serials → List (OrThrown StaticArguments) → List ℕ
asked_by_all run table calls = flat_map (asks run table) calls
