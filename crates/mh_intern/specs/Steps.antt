-- Seats of the two tables, and how a step changes them.
use Rattle.std.specs.Prelude.{◌≡◌, ℕ, ◌+◌, ◌≤◌, List, length}
use Rattle.atomic_table.specs.Seated.{TableId}
use Rattle.mh_intern.specs.declared.holding.Entry.{Entry}
use Rattle.mh_intern.specs.Buckets.{buckets, slots}

-- a table of holders: a word for each slot of a type
abbrev pub IsTableOfHolders : TableId → Type 0
IsTableOfHolders table = (table.words ≡ slots) × (table.slots ≡ 0)

-- a table of claims: a word and a place for a keeper for each bucket
abbrev pub IsTableOfClaims : TableId → Type 0
IsTableOfClaims table = (table.words ≡ buckets) × (table.slots ≡ buckets)

-- a seat of this table is one of this table of holders
abbrev pub IsOfHolders : TableId → TableId → Type 0
IsOfHolders seat table = (seat ≡ table) × (table.words ≡ slots)

-- a seat of this table is one of this table of claims
abbrev pub IsOfClaims : TableId → TableId → Type 0
IsOfClaims seat table = (seat ≡ table) × (table.words ≡ buckets) × (table.slots ≡ buckets)

-- a request takes one room with it, and some room is left
abbrev pub MayAsk : ℕ → List Entry → Type 0
MayAsk room holds = (1 ≤ room) × (2 ≤ room + length holds)
