-- What is said of all workers together.
use Rattle.std.specs.Prelude.{◌≡◌, ℕ, ◌<◌, ◌≤◌, List, flat_map, All, None}
use Rattle.std.specs.declared.option.Option.{Option}
use Rattle.mh_seats.specs.Room.{times}
use Rattle.mh_prelink.specs.declared.worked.Worked.{Worked}
use Rattle.mh_prelink.specs.Lanes.{HaveWorked}
use Rattle.mh_prelink.specs.Steps.{Did}

module _ {P E : Type 0} where
  -- the lists of all workers, one after the other
  abbrev pub all_taken : List (Worked P E) → List ℕ
  all_taken ws = flat_map (λ w. w.taken) ws

  -- no worker stopped
  abbrev pub NoneStopped : List (Worked P E) → Type 0
  NoneStopped ws = All (λ w. w.stop ≡ None) ws

  -- each worker comes from the pass at its place; no number was taken twice, and if none stopped, each number below the count was taken
  pub record AllLinked (step : P → ℕ → Option E → P → Type 0) (has : P → ℕ → Type 0) (count : ℕ) (before : List P) (after : List (Worked P E)) : Type 0 where
    pub did : HaveWorked (Did step has) before after
    pub below : All (λ x. x < count) (all_taken after)
    pub once : (x : ℕ) → times x (all_taken after) ≤ 1
    pub every : NoneStopped after → (x : ℕ) → x < count → times x (all_taken after) ≡ 1
