-- Conditions, each with the error if it does not hold.
use Rattle.std.specs.Prelude.{Bool, true, false, Option, None, Some, Result, Err}

-- goes on if a condition holds, and has the error if it does not
abbrev pub provided : {A E : Type 0} → Bool → E → Result A E → Result A E
provided true error next = next
provided false error next = Err error

-- goes on with what is there, and has the error if nothing is
abbrev pub provided_some : {A B E : Type 0} → Option A → E → (A → Result B E) → Result B E
provided_some (Some a) error next = next a
provided_some None error next = Err error
