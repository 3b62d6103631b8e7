-- What is recorded, each under what its maker found, is what constants are by the serials.
use Rattle.std.proofs.Common.{◌≡◌, ◌∙◌, ap, ℕ, Option, Some, None}
use Rattle.std.specs.Prelude.{option_map, MatchOption}
use Rattle.mh_jobs.specs.Given.{Found}
use Rattle.mh_link.specs.Named.{Constants, AreConstJobs}
use Rattle.mh_link.specs.Constants.{Serials, serial_at, const_under, values_of}
use Rattle.mh_link.specs.RecordedConstants.{AreRecorded, IsRecorded}
use Rattle.mh_link.proofs.constants.Asked.{under-same}
use Rattle.mh_link.proofs.constants.FixedPoint.{only}

pub recorded-are : (run : Constants) → AreConstJobs run → (table : Serials) (found : Found) → AreRecorded run table found →
    (c : ℕ) → found c ≡ values_of run table c
recorded-are run named table found recorded = only run named table found (λ c. solves c (serial_at table c) (recorded c))
  where
    solves : (c : ℕ) (o : Option ℕ) → MatchOption o (found c ≡ None) (λ serial. IsRecorded run found c serial) →
        found c ≡ option_map (λ serial. const_under run found c serial) o
    solves c None none = none
    solves c (Some s) r = r.is ∙ ap (λ v. Some v) ((under-same run r.under found c r.asked).0 s)
