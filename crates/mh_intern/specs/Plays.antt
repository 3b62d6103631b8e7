-- What each kind of step on a word of the table of holders says.
use Rattle.std.specs.Prelude.{◌≡◌, ℕ, ◌<◌, ◌≤◌, List, All}
use Rattle.atomic_table.specs.Table.{Me, Step}
use Rattle.mh_values.specs.declared.types.MethodTy.{MethodTy}
use Rattle.mh_intern.specs.declared.holding.Entry.{Entry}
use Rattle.mh_intern.specs.declared.holding.Holding.{Holding}
use Rattle.mh_intern.specs.Held.{on_slot, weight, asks, uses, IsFull}
use Rattle.mh_seats.specs.Room.{limit}
use Rattle.mh_intern.specs.Lists.{Agrees}
use Rattle.mh_intern.specs.Kinds.{held_more, held_less, kept_more, kept_asked, kept_less, counted_more, after_read, after_raise}

-- what a seat of the table of holders knows and carries
abbrev pub HMe : Type 0
HMe = Me (Unit {0}) Holding

-- a caller has one hold more
abbrev pub dups : Entry → Step (Unit {0}) → HMe → ℕ → HMe → Type 0
dups e _ m _ m' = (m'.0 ≡ held_more e m.0) × (m'.1 ≡ m.1)

-- a caller has one hold less
abbrev pub releases : Entry → Step (Unit {0}) → HMe → ℕ → HMe → Type 0
releases e _ m _ m' = (m'.0 ≡ held_less e m.0) × (m'.1 ≡ m.1)

-- a caller keeps one hold more, of what is counted
abbrev pub keeps_more : Entry → Step (Unit {0}) → HMe → ℕ → HMe → Type 0
keeps_more e _ m _ m' = (m'.0 ≡ kept_more e m.0) × (m'.1 ≡ m.1)

-- the same, after the type was asked for
abbrev pub keeps_asked : Entry → Step (Unit {0}) → HMe → ℕ → HMe → Type 0
keeps_asked e _ m _ m' = (m'.0 ≡ kept_asked e m.0) × (m'.1 ≡ m.1)

-- a caller keeps one hold less, and as many as before are counted
abbrev pub keeps_less : Entry → Step (Unit {0}) → HMe → ℕ → HMe → Type 0
keeps_less e _ m _ m' = (m'.0 ≡ kept_less e m.0) × (m'.1 ≡ m.1)

-- so many holds more are counted
abbrev pub counts : ℕ → Entry → Step (Unit {0}) → HMe → ℕ → HMe → Type 0
counts n e _ m _ m' = (m'.0 ≡ counted_more n e m.0) × (m'.1 ≡ m.1)

-- a slot was read, and n found; one that is not zero has an entry
pub record WasRead (k n : ℕ) (v w : Holding) : Type 0 where
  pub now : w ≡ after_read k n v
  pub used : ¬ (n ≡ 0) → 0 < on_slot k v.entries

-- a keeper has read a slot
abbrev pub reads : Step (Unit {0}) → HMe → ℕ → HMe → Type 0
reads st m n m' = WasRead st.word n m.0 m'.0 × (m'.1 ≡ m.1)

-- a keeper has raised a word, and has this list
abbrev pub raises : Entry → List Entry → Step (Unit {0}) → HMe → ℕ → HMe → Type 0
raises e entries _ m _ m' = (m'.0 ≡ after_raise e entries m.0) × (m'.1 ≡ m.1)

-- a look that changes nothing: the holds agree, and the view with all the room has asked for all that it uses
pub record Looked (v w : Holding) : Type 0 where
  pub same : w ≡ v
  pub agrees : Agrees v.holds
  pub full : All IsFull v.full
  pub most : weight v ≤ limit
  pub asked : weight v ≡ limit → (t : MethodTy) → 0 < uses t v → 0 < asks t v

-- a look, which says what the rule says of the view
abbrev pub looks : Step (Unit {0}) → HMe → ℕ → HMe → Type 0
looks _ m _ m' = Looked m.0 m'.0 × (m'.1 ≡ m.1)
