-- What a token holds that shows the value of a cell.
use Rattle.std.specs.Prelude.{◌≡◌, ℕ, Some}
use base.Fml.{Fml, fres}
use denote.RattleType.{RattleType}
use Rattle.once_cell.specs.Once.{mark}
use Rattle.once_cell.specs.declared.race.note.Note.{Note}

-- the cell of this name has this value for good
abbrev pub shows_value : (R : RattleType) → ℕ → R.Denot → Fml
shows_value R γ x = fres γ (mark R γ x)

-- a note that stays as it is says that its cell has this value
abbrev pub NoteShows : {T : Type 0} → Note T → Note T → ℕ → T → Type 0
NoteShows old new cell value = (new ≡ old) × (cell ≡ old.cell) × (old.known ≡ Some value)
