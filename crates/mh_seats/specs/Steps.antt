-- How a step changes a seat.
use Rattle.std.specs.Prelude.{◌≡◌, []}
use Rattle.atomic_table.specs.Seated.{TableId}
use Rattle.atomic_table.specs.declared.shared.Seat.{Seat}

-- the seat stays at its table and keeps what it carries, and its view changes in this way
abbrev pub Moves : {S V : Type 0} → (V → V) → Seat S V → Seat S V → Type 0
Moves change old new = (new.table_id ≡ old.table_id) × (new.me ≡ (change old.me.0, old.me.1))

-- a seat of this table that carries nothing and has this view
abbrev pub Begins : {S V : Type 0} → V → TableId → Seat S V → Type 0
Begins view table new = (new.table_id ≡ table) × (new.me ≡ (view, []))
