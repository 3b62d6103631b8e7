-- What a run writes.
use Rattle.std.specs.Prelude.{ℕ, List, length, Option}
use Rattle.mh_jobs.specs.Given.{Given, nothing_known}
use Rattle.mh_link.specs.Sites.{with_serials}
use Rattle.mh_plan.specs.Limits.{calls_in}
use Rattle.mh_report.specs.declared.attempt.Attempt.{Attempt}
use Rattle.mh_report.specs.declared.table.ConstRow.{ConstRow}
use Rattle.mh_report.specs.declared.table.Recorded.{Recorded}
use Rattle.mh_report.specs.Forms.{forms}
use Rattle.mh_report.specs.Recorded.{recorded, rows, types}
use Rattle.mh_report.specs.Results.{Result, Serials, results_of}
use Rattle.mh_report.specs.Text.{report_text}
use Rattle.mh_main.specs.declared.program.Output.{Output}
use Rattle.mh_main.specs.declared.program.Output.TheVariants.{Report, Line}
use Rattle.mh_main.specs.declared.program.Program.{Program}
use Rattle.mh_main.specs.Sums.{sum_line, sum_of}

-- what a run of the program is given before anything is linked
abbrev pub given_of : Program → Given
given_of p = record { leaves = p.leaves; scripts = p.scripts; jobs = p.jobs; constants = p.constants; values = nothing_known }

-- the same, where constants are what they are by these serials
abbrev pub given_by : Program → Serials → Given
given_by p constants = with_serials constants (given_of p)

-- what is written of a run, by what is asked for: the report, or the line of a number
abbrev pub written_as : Output → Program → List (Option Recorded) → List (Option ConstRow) → List (List Result) → ℕ → ℕ → ℕ → List ℕ
written_as Report p table constants threads attempts forms types = report_text p.leaves.classes table constants threads attempts forms types
written_as (Line number) p table constants threads attempts forms types =
    sum_line number (length p.jobs) (calls_in p.plan) (sum_of threads) forms types

-- what is written of a run, by what is recorded at its sites and of its constants, the results of its calls, and how many attempts to link sites, forms and
-- types there are
abbrev pub written : Program → List (Option Recorded) → List (Option ConstRow) → List (List Result) → ℕ → ℕ → ℕ → List ℕ
written p table constants threads attempts forms types = written_as p.output p table constants threads attempts forms types

-- the text of a run, with the table of its sites, that of its constants, and the attempts that linked the sites
abbrev pub text : Program → Serials → Serials → List Attempt → List ℕ
text p table constants attempts =
    let given = given_by p constants in
    written p (recorded given table) (rows given constants) (results_of given table p.plan) (length attempts) (forms given p.plan attempts)
    (types given table)
