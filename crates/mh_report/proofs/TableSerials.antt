-- What is recorded at sites and of constants tells by which attempts they are linked and resolved.
use Rattle.std.proofs.Common.{◌≡◌, refl, ap, ◌∙◌, ℕ, ◌+◌, [], ◌∷◌, Option, None, Some, option_map}
use Rattle.mh_jobs.specs.Given.{Given, Found}
use Rattle.mh_link.specs.Constants.{values_of}
use Rattle.mh_link.specs.Named.{Constants, run_of}
use Rattle.mh_report.specs.declared.table.ConstRow.{ConstRow}
use Rattle.mh_report.specs.declared.table.Recorded.{Recorded}
use Rattle.mh_report.specs.Recorded.{recorded, recorded_at, recorded_from, row_of, row_serials, rows, rows_from, serials_of}
use Rattle.mh_report.specs.Results.{Serials}

entry-serial : (given : Given) (site : ℕ) (serial : Option ℕ) → option_map (λ (r : Recorded). r.serial) (option_map (recorded_at given site) serial) ≡ serial
entry-serial given site None = refl
entry-serial given site (Some serial) = refl

from-serials : (given : Given) (site : ℕ) (table : Serials) → serials_of (recorded_from given site table) ≡ table
from-serials given site [] = refl
from-serials given site (serial ∷ table) =
    ap (λ s. s ∷ serials_of (recorded_from given (site + 1) table)) (entry-serial given site serial) ∙
    ap (λ rest. serial ∷ rest) (from-serials given (site + 1) table)

pub recorded-serials : (given : Given) (table : Serials) → serials_of (recorded given table) ≡ table
recorded-serials given table = from-serials given 0 table

-- ---- dynamic constants

row-serial : (run : Constants) (known : Found) (c : ℕ) (serial : Option ℕ) →
    option_map (λ (r : ConstRow). r.serial) (option_map (row_of run known c) serial) ≡ serial
row-serial run known c None = refl
row-serial run known c (Some serial) = refl

from-rows : (run : Constants) (known : Found) (c : ℕ) (table : Serials) → row_serials (rows_from run known c table) ≡ table
from-rows run known c [] = refl
from-rows run known c (serial ∷ table) =
    ap (λ s. s ∷ row_serials (rows_from run known (c + 1) table)) (row-serial run known c serial) ∙
    ap (λ rest. serial ∷ rest) (from-rows run known (c + 1) table)

pub rows-serials : (given : Given) (table : Serials) → row_serials (rows given table) ≡ table
rows-serials given table = from-rows (run_of given) (values_of (run_of given) table) 0 table
