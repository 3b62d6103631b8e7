-- How many keys the forms have that calls run.
use Rattle.std.specs.Prelude.{ℕ, List, map}
use Rattle.std.specs.Option.{option_map_or}
use Rattle.mh_tree.specs.Tree as tree
use Rattle.mh_astype.specs.Calls.{exact_keys, generic_keys}
use Rattle.mh_jobs.specs.Given.{Given}
use Rattle.mh_attempt.specs.Linkage.{site_keys}
use Rattle.mh_plan.specs.declared.call.Call.{Call}
use Rattle.mh_plan.specs.declared.call.Call.TheVariants.{Exact, Generic, Indy}
use Rattle.mh_report.specs.Results.{Serials, serial_at}

-- The keys of the form that a call runs if sites are linked by these attempts. They are those of the leaf, of its use as the type of a generic call, or of the
-- site's target. There are none if the call throws before a form runs.
abbrev pub keys_of : Given → Serials → Call → ℕ
keys_of given table (Exact leaf ty args) = exact_keys given.leaves (tree.Leaf leaf) ty
keys_of given table (Generic leaf ty args) = generic_keys given.leaves (tree.Leaf leaf) ty
keys_of given table (Indy site args) = option_map_or (λ serial. site_keys given site serial) (serial_at table site) 0

-- the same of the calls of one thread, in order
abbrev pub thread_keys : Given → Serials → List Call → List ℕ
thread_keys given table calls = map (λ call. keys_of given table call) calls

-- the same of the calls of each thread
abbrev pub plan_keys : Given → Serials → List (List Call) → List (List ℕ)
plan_keys given table threads = map (λ calls. thread_keys given table calls) threads
