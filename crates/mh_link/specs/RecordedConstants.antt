-- What is recorded of constants, each by a maker of its own.
use Rattle.std.specs.Prelude.{◌≡◌, ℕ, Some, None, MatchOption}
use Rattle.mh_jobs.specs.Given.{Found}
use Rattle.mh_link.specs.Resolved.{Agree}
use Rattle.mh_link.specs.Named.{Constants}
use Rattle.mh_link.specs.Constants.{Serials, serial_at, const_under}
use Rattle.mh_link.specs.Asking.{asked_by}

-- a table of what was recorded, each under what its maker found of the constants that it asked, which are what is in the table
pub record IsRecorded (run : Constants) (found : Found) (c serial : ℕ) : Type 0 where
  pub under : Found
  pub is : found c ≡ Some (const_under run under c serial)
  pub asked : Agree under found (asked_by run under c)

-- each constant with a serial is recorded so, and no other has a value
abbrev pub AreRecorded : Constants → Serials → Found → Type 0
AreRecorded run table found = (c : ℕ) → MatchOption (serial_at table c) (found c ≡ None) (λ serial. IsRecorded run found c serial)
