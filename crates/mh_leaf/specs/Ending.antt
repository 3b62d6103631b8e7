-- What runs in any case at the end of a computation, what is done in turns, and what a number picks.
use Rattle.std.specs.Prelude.{ℕ, zero, suc, ℤ, pos, negsuc, nat_le, [], codes, if◌then◌else◌}
use Rattle.mh_values.specs.declared.value.Exc.{Exc}
use Rattle.mh_values.specs.Class.{internal_error_class}
use Rattle.mh_values.specs.Computation.{Ran, Gave, Threw, Stuck, after, and_then, raised}
use Rattle.mh_values.specs.Exception.{saying}

-- throws the exception after what ran because of it, unless that threw another one
abbrev pub rethrown : {A : Type 0} → Exc → Ran A → Ran A
rethrown e (Gave a calls) = Threw e calls
rethrown e (Threw d calls) = Threw d calls
rethrown e Stuck = Stuck

-- After a result the first of two runs, on the result. After an exception the second runs, and then the exception is thrown.
-- In both, n is raised by the calls that were made.
abbrev pub ended_by : {A B : Type 0} → Ran A → ℕ → (A → ℕ → Ran B) → (Exc → ℕ → Ran B) → Ran B
ended_by (Gave a calls) n on_result on_exception = after calls (on_result a (raised n calls))
ended_by (Threw e calls) n on_result on_exception = after calls (rethrown e (on_exception e (raised n calls)))
ended_by Stuck n on_result on_exception = Stuck

-- this many turns, each on its number and on what the turn before gave; the numbers go up by one
abbrev pub turned : {A : Type 0} → (ℕ → A → ℕ → Ran A) → ℕ → ℕ → A → ℕ → Ran A
turned body number zero a n = Gave a []
turned body number (suc left) a n = and_then (body number a n) n (λ b k. turned body (suc number) left b k)

-- the turns of a loop that ends before a number: none if that is negative
abbrev pub turns_to : ℤ → ℕ
turns_to (pos m) = m
turns_to (negsuc m) = 0

-- the most turns of one loop
abbrev pub most_turns : ℕ
most_turns = 64

-- goes on with the turns of a loop that ends before a number, unless they are too many
abbrev pub bounded : {B : Type 0} → ℤ → (ℕ → Ran B) → Ran B
bounded end next =
    if nat_le (turns_to end) most_turns then next (turns_to end) else Threw (saying internal_error_class (codes "loop")) []

-- what a number from 0 on picks; a negative number picks the other
abbrev pub picked_by : {A : Type 0} → ℤ → (ℕ → A) → A → A
picked_by (pos k) pick other = pick k
picked_by (negsuc k) pick other = other
