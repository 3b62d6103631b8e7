use Rattle.std.proofs.Common.{◌≡◌, ◌++◌, flat_map, take}
use Rattle.mh_drawing.specs.Fields.{piece_text}
use Rattle.mh_drawing.proofs.field.push_pieces.Given as goal

abbrev pub invariant-loop-piece : goal.invariant-loop-piece
invariant-loop-piece l = l.text.items ≡ l.initial.text.items ++ flat_map (piece_text l.classes) (take l.piece-index l.pieces)
