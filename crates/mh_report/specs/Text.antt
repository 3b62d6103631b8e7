-- The report on a run.
use Rattle.std.specs.Prelude.{ℕ, ◌+◌, List, [], ◌∷◌, ◌++◌, codes, Option, None, Some, Ok, Err}
use Rattle.std.specs.List.{flat_map}
use Rattle.std.specs.Fmt.{decimal}
use Rattle.mh_values.specs.declared.calls.LeafCall.{LeafCall}
use Rattle.mh_values.specs.declared.value.Outcome.{Outcome}
use Rattle.mh_values.specs.declared.value.Outcome.TheVariants.{Return, Throw}
use Rattle.mh_values.specs.declared.value.Value.{Value}
use Rattle.mh_values.specs.Computation.{Gave, Threw, Stuck}
use Rattle.mh_values.specs.declared.class.Class.{Class}
use Rattle.mh_jobs.specs.Thrown.{OrThrown}
use Rattle.mh_texts.specs.Printed.{shown_value, shown_type, shown_exception}
use Rattle.mh_report.specs.declared.table.ConstRow.{ConstRow}
use Rattle.mh_report.specs.declared.table.Recorded.{Recorded}
use Rattle.mh_report.specs.declared.table.Shown.{Shown}
use Rattle.mh_report.specs.declared.table.Shown.TheVariants as shown
use Rattle.mh_report.specs.Results.{Result}

-- the byte that ends a line
abbrev pub lf : List ℕ
lf = 10 ∷ []

-- what was linked at a site: the target's type, or the error
abbrev pub linked_text : List Class → Shown → List ℕ
linked_text classes (shown.Linked t) = codes "linked " ++ shown_type classes t
linked_text classes (shown.Error e) = codes "error " ++ shown_exception classes e

-- what is recorded at a site, or `none`
abbrev pub recorded_text : List Class → Option Recorded → List ℕ
recorded_text classes None = codes "none"
recorded_text classes (Some r) = codes "serial " ++ decimal r.serial ++ codes " " ++ linked_text classes r.shown

-- the line of a site
abbrev pub site_text : List Class → ℕ → Option Recorded → List ℕ
site_text classes site entry = codes "site " ++ decimal site ++ codes " " ++ recorded_text classes entry ++ lf

-- the lines of the sites from this number on
abbrev pub sites_text : List Class → ℕ → List (Option Recorded) → List ℕ
sites_text classes site [] = []
sites_text classes site (entry ∷ table) = site_text classes site entry ++ sites_text classes (site + 1) table

-- the value of a dynamic constant, or its error
abbrev pub constant_value_text : List Class → OrThrown Value → List ℕ
constant_value_text classes (Ok value) = codes "value " ++ shown_value classes value
constant_value_text classes (Err e) = codes "error " ++ shown_exception classes e

-- what is recorded of a constant, or `none`
abbrev pub row_text : List Class → Option ConstRow → List ℕ
row_text classes None = codes "none"
row_text classes (Some row) = codes "serial " ++ decimal row.serial ++ codes " " ++ constant_value_text classes row.value

-- the line of a constant
abbrev pub constant_text : List Class → ℕ → Option ConstRow → List ℕ
constant_text classes c entry = codes "constant " ++ decimal c ++ codes " " ++ row_text classes entry ++ lf

-- the lines of the constants from this number on
abbrev pub constants_text : List Class → ℕ → List (Option ConstRow) → List ℕ
constants_text classes c [] = []
constants_text classes c (entry ∷ rows) = constant_text classes c entry ++ constants_text classes (c + 1) rows

-- the value that was returned, or `void`
abbrev pub returned_text : List Class → Option Value → List ℕ
returned_text classes None = codes "void"
returned_text classes (Some value) = shown_value classes value

-- the numbers of the leaves, with spaces between, or a dash if there are none
abbrev pub calls_text : List LeafCall → List ℕ
calls_text [] = codes "-"
calls_text (call ∷ calls) = decimal call.leaf.0 ++ flat_map (λ next. codes " " ++ decimal next.leaf.0) calls

-- how a call ended: what it returned, or what it threw
abbrev pub outcome_text : List Class → Outcome → List ℕ
outcome_text classes (Return value) = codes "returns " ++ returned_text classes value
outcome_text classes (Throw exc) = codes "throws " ++ shown_exception classes exc

-- the line of a call; each call of a plan has a result
abbrev pub result_line : List Class → Result → List ℕ
result_line classes (Gave value calls) = outcome_text classes (Return value) ++ codes " calls " ++ calls_text calls ++ lf
result_line classes (Threw exc calls) = outcome_text classes (Throw exc) ++ codes " calls " ++ calls_text calls ++ lf
result_line classes Stuck = []

-- the lines of the calls of a thread
abbrev pub results_text : List Class → List Result → List ℕ
results_text classes results = flat_map (λ result. result_line classes result) results

-- the lines of a thread
abbrev pub thread_text : List Class → ℕ → List Result → List ℕ
thread_text classes n results = codes "thread " ++ decimal n ++ lf ++ results_text classes results

-- the lines of the threads from this number on
abbrev pub threads_text : List Class → ℕ → List (List Result) → List ℕ
threads_text classes n [] = []
threads_text classes n (results ∷ threads) = thread_text classes n results ++ threads_text classes (n + 1) threads

-- the last line: how many attempts were made, how many forms, and how many types the targets hold
abbrev pub summary_text : ℕ → ℕ → ℕ → List ℕ
summary_text attempts forms types = codes "attempts " ++ decimal attempts ++ codes " forms " ++ decimal forms ++ codes " types " ++ decimal types ++ lf

-- the report: the sites, the constants, the threads, and the last line
abbrev pub report_text : List Class → List (Option Recorded) → List (Option ConstRow) → List (List Result) → ℕ → ℕ → ℕ → List ℕ
report_text classes table constants threads attempts forms types =
    sites_text classes 0 table ++ constants_text classes 0 constants ++ threads_text classes 0 threads ++ summary_text attempts forms types
