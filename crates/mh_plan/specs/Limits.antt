-- How large a plan is.
use Rattle.std.specs.Prelude.{ℕ, ◌+◌, ◌≤◌, List, [], ◌∷◌, length}
use Rattle.mh_plan.specs.declared.call.Call.{Call}
use Rattle.mh_plan.specs.Plan.{most_threads, most_calls}

-- how many calls all threads make together
abbrev pub calls_in : List (List Call) → ℕ
calls_in [] = 0
calls_in (calls ∷ threads) = length calls + calls_in threads

-- a plan has at most as many threads, and as many calls together, as it may have
pub record IsWithinLimits (threads : List (List Call)) : Type 0 where
  pub few_threads : length threads ≤ most_threads
  pub few_calls : calls_in threads ≤ most_calls
