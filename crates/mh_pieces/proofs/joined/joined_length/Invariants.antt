use Rattle.std.proofs.Common.{◌≡◌, ◌+◌, ◌≤◌, length, drop}
use Rattle.mh_values.specs.ValueLimits.{most_characters}
use Rattle.mh_pieces.specs.Joined.{joined_text}
use Rattle.mh_pieces.proofs.joined.joined_length.Given as goal

-- the length so far and that of what is left are the whole
abbrev pub invariant-loop-piece : goal.invariant-loop-piece
invariant-loop-piece l = record {
  few : l.all ≤ most_characters;
  whole : l.all + length (joined_text l.classes (drop l.piece-index l.pieces) l.left) ≡ length (joined_text l.classes l.pieces l.fn.args);
}
