-- Which calls of files and texts in memory fail.
use Rattle.std.specs.Prelude.{◌≡◌, ℕ, ◌+◌, ◌-◌, ◌^◌, ◌==◌, min, Bool, List}
use Rattle.std.specs.List.{list_any}

-- the call of this number is one of those that are to fail
abbrev pub is_listed : List ℕ → ℕ → Bool
is_listed fail call = list_any (λ listed. listed == call) fail

-- a call was counted, and the list of calls that are to fail is the same; a count stays at 2 ^ 64 - 1 once it has reached it
pub record CountsCall (calls_before calls_now : ℕ) (fail_before fail_now : List ℕ) : Type 0 where
  pub counted : calls_now ≡ min (calls_before + 1) (2 ^ 64 - 1)
  pub listed : fail_now ≡ fail_before
