use Rattle.std.proofs.Common.{◌≡◌, ◌++◌, drop}
use Rattle.mh_pieces.specs.Joined.{joined_text}
use Rattle.mh_pieces.proofs.joined.push_joined.Given as goal

-- what is written and what is left are the whole
abbrev pub invariant-loop-piece : goal.invariant-loop-piece
invariant-loop-piece l =
    l.chars.items ++ joined_text l.classes (drop l.piece-index l.pieces) l.left ≡ l.initial.chars.items ++ joined_text l.classes l.pieces l.fn.args
