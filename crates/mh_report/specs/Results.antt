-- The result of each call of a plan.
use Rattle.std.specs.Prelude.{ℕ, List, map, Option, slice_get}
use Rattle.std.specs.Option.{option_flatten, option_map_or}
use Rattle.mh_values.specs.declared.value.Value.{Value}
use Rattle.mh_values.specs.Computation.{Ran, Stuck}
use Rattle.mh_leaf.specs.Outcome.{ran_of}
use Rattle.mh_tree.specs.Tree as tree
use Rattle.mh_tree.specs.Meaning.{exact, generic}
use Rattle.mh_handle.specs.declared.answer.Answer.{Answer}
use Rattle.mh_jobs.specs.Given.{Given}
use Rattle.mh_link.specs.Linked.{site_call}
use Rattle.mh_link.specs.Sites.{linked_at}
use Rattle.mh_plan.specs.declared.call.Call.{Call}
use Rattle.mh_plan.specs.declared.call.Call.TheVariants.{Exact, Generic, Indy}

-- how a call ended: its value or exception, and its leaf calls
abbrev pub Result : Type 0
Result = Ran (Option Value)

-- for each site the serial of the attempt that linked it, if it is linked
abbrev pub Serials : Type 0
Serials = List (Option ℕ)

-- the serial of the attempt that linked a site, if it is linked
abbrev pub serial_at : Serials → ℕ → Option ℕ
serial_at table site = option_flatten (slice_get table site)

-- The result of a call, if these attempts linked the sites. A call of a leaf depends on none of them.
-- A call of a site that is not linked is stuck; a run links each site that its calls name.
abbrev pub result_of : Given → Serials → Call → Result
result_of given table (Exact leaf ty args) = exact given.leaves (tree.Leaf leaf) ty args 0
result_of given table (Generic leaf ty args) = generic given.leaves (tree.Leaf leaf) ty args 0
result_of given table (Indy site args) =
    option_map_or (λ serial. site_call given.leaves (linked_at given site serial) args) (serial_at table site) Stuck

-- the results of one thread's calls, in order
abbrev pub thread_results : Given → Serials → List Call → List Result
thread_results given table calls = map (λ call. result_of given table call) calls

-- the results of each thread
abbrev pub results_of : Given → Serials → List (List Call) → List (List Result)
results_of given table threads = map (λ calls. thread_results given table calls) threads

-- the result that an answer has
abbrev pub result_said : Answer → Result
result_said answer = ran_of answer.outcome answer.calls

-- the results that the answers of one thread have
abbrev pub thread_said : List Answer → List Result
thread_said answers = map (λ answer. result_said answer) answers

-- the results that the answers of each thread have
abbrev pub results_said : List (List Answer) → List (List Result)
results_said threads = map (λ answers. thread_said answers) threads

-- how many keys the forms have that the calls of one thread ran
abbrev pub thread_keys_said : List Answer → List ℕ
thread_keys_said answers = map (λ answer. answer.keys) answers

-- how many keys the forms have that the calls of each thread ran
abbrev pub keys_said : List (List Answer) → List (List ℕ)
keys_said threads = map (λ answers. thread_keys_said answers) threads
