use Rattle.std.proofs.Common.{◌≡◌, ◌≢◌, ◌+◌, ◌≤◌, ℕ, List, None, drop, length}
use Rattle.std.specs.Prelude.{option_map}
use Rattle.mh_values.specs.ValueLimits.{most_characters}
use Rattle.mh_form.specs.Joins.{joined_text_at}
use Rattle.mh_form.proofs.join.joined_length.Given as goal

-- the texts that are left are there, and the length so far and theirs are the whole
abbrev pub invariant-loop-piece : goal.invariant-loop-piece
invariant-loop-piece l = record {
  few : l.all ≤ most_characters;
  there : joined_text_at l.classes l.slots (drop l.piece-index l.pieces) l.left ≢ None;
  whole : option_map (λ (t : List ℕ). l.all + length t) (joined_text_at l.classes l.slots (drop l.piece-index l.pieces) l.left)
      ≡ option_map (λ (t : List ℕ). length t) (joined_text_at l.classes l.slots l.pieces l.fn.places);
}
