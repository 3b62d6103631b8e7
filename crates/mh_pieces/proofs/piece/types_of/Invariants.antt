use Rattle.std.proofs.Common.{◌≡◌, take}
use Rattle.mh_pieces.specs.Joined.{arg_types}
use Rattle.mh_pieces.proofs.piece.types_of.Given as goal

abbrev pub invariant-loop-piece : goal.invariant-loop-piece
invariant-loop-piece l = l.types ≡ arg_types (take l.piece-index l.pieces)
