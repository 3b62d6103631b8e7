-- The records of the call sites of a run.
use Rattle.std.specs.Prelude.{ℕ, ◌+◌, List, [], ◌∷◌, ◌++◌, map, Option, option_map, Ok, Err}
use Rattle.std.specs.Option.{option_map_or}
use Rattle.std.specs.Set.{distinct_count}
use Rattle.mh_values.specs.declared.types.MethodTy.{MethodTy}
use Rattle.mh_values.specs.Same.{is_same_method_type}
use Rattle.mh_leaf.specs.LeafTable.{LeafTable}
use Rattle.mh_tree.specs.Rows.{TypeOrRefusal}
use Rattle.mh_tree.specs.Typing.{type_of}
use Rattle.mh_jobs.specs.Given.{Given, Found}
use Rattle.mh_link.specs.Constants.{const_under, values_of}
use Rattle.mh_link.specs.Named.{Constants, run_of}
use Rattle.mh_link.specs.Linked as link
use Rattle.mh_link.specs.Linked.{held_by}
use Rattle.mh_link.specs.Sites.{linked_at}
use Rattle.mh_report.specs.declared.table.ConstRow.{ConstRow}
use Rattle.mh_report.specs.declared.table.Recorded.{Recorded}
use Rattle.mh_report.specs.declared.table.Shown.{Shown}
use Rattle.mh_report.specs.declared.table.Shown.TheVariants as shown
use Rattle.mh_report.specs.Results.{Serials}

-- a target, shown by its type; the target of an attempt always has one
abbrev pub target_shown : TypeOrRefusal → Shown
target_shown (Ok t) = shown.Linked t
target_shown (Err e) = shown.Error e

-- what is linked, as a report shows it: the target's type, or the error
abbrev pub shown_of : LeafTable → link.Linked → Shown
shown_of leaves (link.Target t) = target_shown (type_of leaves t)
shown_of leaves (link.Error e) = shown.Error e

-- what the attempt with a serial number records at a site
abbrev pub recorded_at : Given → ℕ → ℕ → Recorded
recorded_at given site serial = record { serial = serial; shown = shown_of given.leaves (linked_at given site serial) }

-- what is recorded at the sites from this number on, if these attempts linked them
abbrev pub recorded_from : Given → ℕ → Serials → List (Option Recorded)
recorded_from given site [] = []
recorded_from given site (serial ∷ table) = option_map (recorded_at given site) serial ∷ recorded_from given (site + 1) table

-- what is recorded at each site, if these attempts linked them
abbrev pub recorded : Given → Serials → List (Option Recorded)
recorded given table = recorded_from given 0 table

-- for each site the serial of the attempt that linked it
abbrev pub serials_of : List (Option Recorded) → Serials
serials_of entries = map (λ entry. option_map (λ r. r.serial) entry) entries

-- ---- dynamic constants

-- what the attempt with a serial number records of a constant, where constants are what they are known to be
abbrev pub row_of : Constants → Found → ℕ → ℕ → ConstRow
row_of run known c serial = record { serial = serial; value = const_under run known c serial }

-- what is recorded of the constants from this number on, if these attempts resolved them
abbrev pub rows_from : Constants → Found → ℕ → Serials → List (Option ConstRow)
rows_from run known c [] = []
rows_from run known c (serial ∷ table) = option_map (row_of run known c) serial ∷ rows_from run known (c + 1) table

-- what is recorded of each constant, if these attempts resolved them
abbrev pub rows : Given → Serials → List (Option ConstRow)
rows given table = rows_from (run_of given) (values_of (run_of given) table) 0 table

-- for each constant the serial of the attempt that resolved it
abbrev pub row_serials : List (Option ConstRow) → Serials
row_serials entries = map (λ entry. option_map (λ row. row.serial) entry) entries

-- ---- types

-- the types that the target recorded at a site holds
abbrev pub held_at : Given → ℕ → Option ℕ → List MethodTy
held_at given site serial = option_map_or (λ s. held_by given.leaves (linked_at given site s)) serial []

-- the types that the targets recorded at the sites from this number on hold
abbrev pub held_from : Given → ℕ → Serials → List MethodTy
held_from given site [] = []
held_from given site (serial ∷ table) = held_at given site serial ++ held_from given (site + 1) table

-- how many different types the recorded targets hold
abbrev pub types : Given → Serials → ℕ
types given table = distinct_count is_same_method_type (held_from given 0 table)
