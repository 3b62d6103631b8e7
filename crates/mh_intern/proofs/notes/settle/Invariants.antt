use Rattle.std.proofs.Common.{◌≡◌, drop, []}
use Rattle.mh_intern.specs.Notes.{IsNoted, as_kept}
use Rattle.mh_intern.proofs.notes.settle.Given as goal

abbrev pub invariant-loop-note : goal.invariant-loop-note
invariant-loop-note l = record {
  table : l.seat.table_id ≡ l.fn.seat.table_id;
  free : l.seat.me.1 ≡ l.fn.seat.me.1;
  noted : IsNoted l.seat.me.0 (drop l.note-index l.notes);
  room : (as_kept l.seat.me.0).room ≡ (as_kept l.fn.seat.me.0).room;
  others : l.seat.me.0 ≡ record l.fn.seat.me.0 { holds = l.seat.me.0.holds; room = l.seat.me.0.room };
}

abbrev pub ghosts-count_more : goal.ghosts-count_more
ghosts-count_more a = record { hold = a.hold.now; count = a.count; entries = [] }
