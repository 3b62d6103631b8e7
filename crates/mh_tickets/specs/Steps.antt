-- Seats of a counter, and how a step changes them.
use Rattle.std.specs.Prelude.{◌≡◌}
use Rattle.atomic_table.specs.Seated.{TableId}

-- a counter: one word
abbrev pub IsCounter : TableId → Type 0
IsCounter table = (table.words ≡ 1) × (table.slots ≡ 0)

-- a seat of this table is one of this counter
abbrev pub IsOfCounter : TableId → TableId → Type 0
IsOfCounter seat table = (seat ≡ table) × (table.words ≡ 1)
