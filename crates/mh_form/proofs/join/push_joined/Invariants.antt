use Rattle.std.proofs.Common.{◌≡◌, ◌≢◌, ◌++◌, None, drop}
use Rattle.std.specs.Prelude.{option_map}
use Rattle.mh_form.specs.Joins.{joined_text_at}
use Rattle.mh_form.proofs.join.push_joined.Given as goal

-- the texts that are left are there, and with what is written they are the whole
abbrev pub invariant-loop-piece : goal.invariant-loop-piece
invariant-loop-piece l = record {
  there : joined_text_at l.classes l.slots (drop l.piece-index l.pieces) l.left ≢ None;
  whole : option_map (λ t. l.chars.items ++ t) (joined_text_at l.classes l.slots (drop l.piece-index l.pieces) l.left)
      ≡ option_map (λ t. l.initial.chars.items ++ t) (joined_text_at l.classes l.slots l.pieces l.fn.places);
}
