-- A counter between any two steps, and what each kind of step says.
use Rattle.std.specs.Prelude.{◌≡◌, ℕ, ◌+◌, ◌-◌, ◌<◌, ◌≤◌, ◌&&◌, List, [], ◌∷◌, ◌++◌, length, cond, sum_by, slice_index, All}
use lib.Dec.{leb}
use Rattle.atomic_table.specs.Table.{State, Me, Step}
use Rattle.mh_seats.specs.Room.{limit, times}
use Rattle.mh_tickets.specs.declared.drawn.Drawn.{Drawn}

-- 1 for the numbers from 1 to n, and otherwise 0
abbrev pub once_up_to : ℕ → ℕ → ℕ
once_up_to n x = cond (leb 1 x && leb x n) 1 0

-- the numbers are 1 to their count, each once
abbrev pub EachOnce : List ℕ → Type 0
EachOnce numbers = (x : ℕ) → times x numbers ≡ once_up_to (length numbers) x

-- no number is in the list twice
abbrev pub AreDistinct : List ℕ → Type 0
AreDistinct numbers = (x : ℕ) → times x numbers ≤ 1

-- a view: numbers, and how many more may be drawn
abbrev pub drawn : List ℕ → ℕ → Drawn
drawn numbers room = record { numbers = numbers; room = room }

-- how many numbers a view has
abbrev pub count_of : Drawn → ℕ
count_of v = length v.numbers

-- the room and the count of the numbers of a view
abbrev pub held_by : Drawn → ℕ
held_by v = v.room + length v.numbers

-- The rule. The word is the number that was drawn last. Each number up to it is in one view, once, and no other number is in any. The rooms and counts of all
-- views together are the limit.
pub record Kept (s : State (Unit {0}) Drawn) : Type 0 where
  pub one_word : length s.words ≡ 1
  pub each_once : (x : ℕ) → sum_by (λ v. times x v.numbers) s.views ≡ once_up_to (slice_index s.words 0) x
  pub last : sum_by count_of s.views ≡ slice_index s.words 0
  pub whole : sum_by held_by s.views ≡ limit

-- a draw that found this number as the one drawn last: it gives the next
pub record Drew (v : Drawn) (last : ℕ) (w : Drawn) : Type 0 where
  pub now : w ≡ drawn (v.numbers ++ (last + 1) ∷ []) (v.room - 1)
  pub fits : last < limit
  pub greater : All (λ n. n ≤ last) v.numbers
  pub next : held_by v ≡ limit → last ≡ length v.numbers
  pub all : held_by w ≡ limit → EachOnce w.numbers

-- a look, which changes nothing
pub record Looked (v w : Drawn) : Type 0 where
  pub same : w ≡ v
  pub distinct : AreDistinct v.numbers
  pub all : held_by v ≡ limit → EachOnce v.numbers

-- a step that draws
abbrev pub draws : Step (Unit {0}) → Me (Unit {0}) Drawn → ℕ → Me (Unit {0}) Drawn → Type 0
draws _ m last m' = Drew m.0 last m'.0 × (m'.1 ≡ m.1)

-- a step that looks
abbrev pub looks : Step (Unit {0}) → Me (Unit {0}) Drawn → ℕ → Me (Unit {0}) Drawn → Type 0
looks _ m _ m' = Looked m.0 m'.0 × (m'.1 ≡ m.1)

-- the view after a split, which has this much less room
abbrev pub without : ℕ → Drawn → Drawn
without room v = drawn v.numbers (v.room - room)

-- one view with all that two had
abbrev pub joined_views : Drawn → Drawn → Drawn
joined_views v w = drawn (v.numbers ++ w.numbers) (v.room + w.room)
