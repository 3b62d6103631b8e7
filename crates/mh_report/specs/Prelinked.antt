-- The forms and the types that a run can need whose call sites are all linked before its calls, by workers.
use Rattle.std.specs.Prelude.{ℕ, zero, suc, ◌+◌, ◌*◌, List, ◌++◌, length}
use Rattle.std.specs.List.{flat_map, range_with_len}
use Rattle.std.specs.Set.{distinct_count}
use Rattle.mh_values.specs.declared.types.MethodTy.{MethodTy}
use Rattle.mh_edit.specs.declared.key.Key.{Key}
use Rattle.mh_handle.specs.SameRecipes.{same_recipe}
use Rattle.mh_jobs.specs.Given.{Given}
use Rattle.mh_plan.specs.declared.call.Call.{Call}
use Rattle.mh_link.specs.Sites.{with_serials}
use Rattle.mh_report.specs.Forms.{const_tables, draws_needed, plan_edits, sites_edits}
use Rattle.mh_report.specs.Types.{all_types, plan_types, sites_types}

-- all call sites of a run
abbrev pub all_sites : Given → List ℕ
all_sites given = range_with_len 0 (length given.jobs)

-- The recipes that a run with workers can ask for: those of its calls, and of attempts to link any site, where each dynamic constant has any serial.
-- Each site is attempted once, by the worker that takes it. So no serial exceeds the number of sites. Each worker attempts each constant at most once.
abbrev pub edits_with : Given → ℕ → List (List Call) → List (List Key)
edits_with given workers threads =
    plan_edits given.leaves threads
    ++ flat_map (λ table. sites_edits (with_serials table given) (length given.jobs) (all_sites given)) (const_tables given workers)

-- how many forms it can need: the number of different recipes that it can ask for
abbrev pub needed_with : Given → ℕ → List (List Call) → ℕ
needed_with given workers threads = distinct_count same_recipe (edits_with given workers threads)

-- how many form numbers its threads and its workers can draw: each of them at most one for each form that the run can need
abbrev pub draws_with : Given → ℕ → List (List Call) → ℕ
draws_with given workers threads = (length threads + workers) * needed_with given workers threads

-- the types that it can need: those of the leaves that it calls, and of the nodes that attempts to link any site make
abbrev pub types_with : Given → ℕ → List (List Call) → List MethodTy
types_with given workers threads =
    plan_types given.leaves threads
    ++ flat_map (λ table. sites_types (with_serials table given) (length given.jobs) (all_sites given)) (const_tables given workers)

-- ---- with or without workers

-- how many form numbers a run with this many workers can draw
abbrev pub draws_by : Given → ℕ → List (List Call) → ℕ
draws_by given zero threads = draws_needed given threads
draws_by given (suc more) threads = draws_with given (suc more) threads

-- the types that it can need
abbrev pub types_by : Given → ℕ → List (List Call) → List MethodTy
types_by given zero threads = all_types given threads
types_by given (suc more) threads = types_with given (suc more) threads
