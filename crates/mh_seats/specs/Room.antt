-- The room of the seats of a table, and how often a number is in a list.
use Rattle.std.specs.Prelude.{ℕ, ◌^◌, ◌==◌, List, count_by}

-- the room that all seats of a table have together
abbrev pub limit : ℕ
limit = 2 ^ 62

-- how often a number is in a list
abbrev pub times : ℕ → List ℕ → ℕ
times x xs = count_by (λ y. y == x) xs
