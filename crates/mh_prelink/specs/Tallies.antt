-- The rule of the deque: what was put in weighs as much as what was taken and what it holds, whatever weights numbers have.
use Rattle.std.specs.Prelude.{◌≡◌, ℕ, ◌+◌, ◌-◌, ◌<◌, ◌≤◌, List, [], ◌++◌, length, sum_by, All}
use lib.ListN.{get_elem?}
use mathlib.Core.Option.{some}
use Rattle.mh_prelink.specs.declared.tally.Tally.{Tally}

-- a view: its parts of the right to know all, what it has put in, and what it has taken
abbrev pub tally : ℕ → List ℕ → List ℕ → Tally
tally parts put taken = record { parts = parts; put = put; taken = taken }

-- how many parts there are
abbrev pub whole : ℕ
whole = 1024

-- these numbers weigh the same, whatever weights numbers have
abbrev pub WeighSame : List ℕ → List ℕ → Type 0
WeighSame xs ys = (h : ℕ → ℕ) → sum_by h xs ≡ sum_by h ys

-- a view without a part has put in and taken nothing
abbrev pub IsIdle : Tally → Type 0
IsIdle v = v.parts ≡ 0 → (v.put ≡ []) × (v.taken ≡ [])

-- The rule. The views have all parts. What they have put in weighs as much as what they have taken and what the deque holds together. That is below the bound,
-- and no more numbers were put in than it says.
pub record Balanced (bound : ℕ) (items : List ℕ) (views : List Tally) : Type 0 where
  pub parts : sum_by (λ v. v.parts) views ≡ whole
  pub weighed : (h : ℕ → ℕ) → sum_by (λ v. sum_by h v.put) views ≡ sum_by (λ v. sum_by h v.taken) views + sum_by h items
  pub below : All (λ x. x < bound) items
  pub few : sum_by (λ v. length v.put) views ≤ bound
  pub idle : (port : ℕ) (v : Tally) → get_elem? views port ≡ some v → IsIdle v

-- these numbers were put in
abbrev pub PutIn : Tally → List ℕ → Tally → Type 0
PutIn v xs w = w ≡ tally v.parts (v.put ++ xs) v.taken

-- these numbers were taken: they are below the bound, and the view has taken no more than it says
pub record Took (bound : ℕ) (v : Tally) (xs : List ℕ) (w : Tally) : Type 0 where
  pub now : w ≡ tally v.parts v.put (v.taken ++ xs)
  pub below : All (λ x. x < bound) xs
  pub few : length w.taken ≤ bound

-- if the deque is empty, the view that has all parts has taken what was put in
abbrev pub NoneLeft : Tally → Type 0
NoneLeft v = v.parts ≡ whole → WeighSame v.put v.taken

-- what was put in weighs as much as what was taken and what is left together
abbrev pub Weighed : Tally → List ℕ → Type 0
Weighed v items = (h : ℕ → ℕ) → sum_by h v.put ≡ sum_by h v.taken + sum_by h items

-- the view after a part was cut off for a thief
abbrev pub kept_back : Tally → Tally
kept_back v = tally (v.parts - 1) v.put v.taken

-- the view of a new thief
abbrev pub of_thief : Tally
of_thief = tally 1 [] []

-- one view with all that two had
abbrev pub both_tallies : Tally → Tally → Tally
both_tallies v w = tally (v.parts + w.parts) (v.put ++ w.put) (v.taken ++ w.taken)
