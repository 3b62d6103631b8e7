-- What a lane needs, and what it has afterwards.
use Rattle.std.specs.Prelude.{◌≤◌}
use Rattle.mh_handle.specs.Passes.{IsPassOf}
use Rattle.mh_handle_tests.specs.declared.racing.Forms.{Forms}
use Rattle.mh_handle_tests.specs.declared.racing.Lane.{Lane}

-- the pass is of the table, and has room for the edits
abbrev pub CanRun : Forms → Lane → Type 0
CanRun forms lane = IsPassOf forms.table.now lane.pass × (200 ≤ lane.pass.seat.room)

-- the pass is of the table
abbrev pub HasRun : Forms → Lane → Type 0
HasRun forms lane = IsPassOf forms.table.now lane.pass
