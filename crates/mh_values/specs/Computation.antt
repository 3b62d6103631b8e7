-- What a computation gives that runs leaves: a result or an exception, with the leaf calls that it made, in order.
use Rattle.std.specs.Prelude.{ℕ, ◌+◌, ◌%◌, ◌^◌, List, [], ◌∷◌, ◌++◌, ◌≡◌, Bool, take, drop, Option, None, Some, if◌then◌else◌}
use Rattle.mh_values.specs.declared.class.Class.{Class}
use Rattle.mh_values.specs.declared.class.ClassId.{ClassId}
use Rattle.mh_values.specs.declared.value.Exc.{Exc}
use Rattle.mh_values.specs.declared.calls.LeafCall.{LeafCall}
use Rattle.mh_values.specs.Class.{is_subclass}

-- It gave a result, it threw an exception, or it is stuck. It is stuck if it lacks something that it needs, such as a place that does not exist.
pub data Ran (A : Type 0) : Type 0 where
  Gave : A → List LeafCall → Ran A
  Threw : Exc → List LeafCall → Ran A
  Stuck : Ran A

-- one leaf call more, in a count of 32 bits
abbrev pub next_count : ℕ → ℕ
next_count n = (n + 1) % (2 ^ 32)

-- the count after these leaf calls
abbrev pub raised : ℕ → List LeafCall → ℕ
raised n [] = n
raised n (call ∷ calls) = raised (next_count n) calls

-- these leaf calls come before those of what runs later
abbrev pub after : {A : Type 0} → List LeafCall → Ran A → Ran A
after calls (Gave a more) = Gave a (calls ++ more)
after calls (Threw e more) = Threw e (calls ++ more)
after calls Stuck = Stuck

-- what runs from n on, and then what runs on its result, with n raised by the calls that were made
abbrev pub and_then : {A B : Type 0} → Ran A → ℕ → (A → ℕ → Ran B) → Ran B
and_then (Gave a calls) n next = after calls (next a (raised n calls))
and_then (Threw e calls) n next = Threw e calls
and_then Stuck n next = Stuck

-- goes on with what was found, or is stuck
abbrev pub found : {A B : Type 0} → Option A → (A → Ran B) → Ran B
found None next = Stuck
found (Some a) next = next a

-- what a computation gives, with a function applied
abbrev pub mapped : {A B : Type 0} → (A → B) → Ran A → Ran B
mapped f (Gave a calls) = Gave (f a) calls
mapped f (Threw e calls) = Threw e calls
mapped f Stuck = Stuck

-- an exception that the test takes goes to the handler, with n raised by the calls that were made
abbrev pub guarded : {A : Type 0} → Ran A → (Exc → Bool) → ℕ → (Exc → ℕ → Ran A) → Ran A
guarded (Gave a calls) test n handler = Gave a calls
guarded (Threw e calls) test n handler = if test e then after calls (handler e (raised n calls)) else Threw e calls
guarded Stuck test n handler = Stuck

-- an exception of the class or of one below it
abbrev pub is_caught : List Class → ClassId → Exc → Bool
is_caught classes class e = is_subclass classes e.class class

-- the second does what the first does, unless the first is stuck
abbrev pub Refines : {B : Type 0} → Ran B → Ran B → Type 0
Refines (Gave b calls) y = Gave b calls ≡ y
Refines (Threw e calls) y = Threw e calls ≡ y
Refines Stuck y = Unit {0}

-- a list with these items in place of a number of its own, from a place on
abbrev pub spliced : {A : Type 0} → ℕ → ℕ → List A → List A → List A
spliced place taken given xs = take place xs ++ (given ++ drop (place + taken) xs)
