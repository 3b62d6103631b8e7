use Rattle.mh_pieces.proofs.Joins.{written_next}
use Rattle.mh_pieces.proofs.joined.push_joined.Goals as goal

pub loop-piece-preserved : goal.loop-piece-preserved
loop-piece-preserved c =
    written_next c.args.classes.now c.args.pieces.now c.loop-piece.piece-index c.piece-item.result c.loop-piece.left.now c.args_after-left.result.now
    c.loop-piece.chars.items _ _ c.loop-piece-test.true c.piece-item.is c.in_ok-push_piece.ensures c.args_after-left.ensures c.loop-piece.invariant
