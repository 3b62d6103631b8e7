use Rattle.mh_form.proofs.Joins.{piece-there, rest-there, written-next}
use Rattle.mh_form.proofs.join.push_joined.Goals as goal

pub push_piece-requires : goal.push_piece-requires
push_piece-requires c =
    piece-there c.args.classes.now c.args.slots.now c.args.pieces.now c.loop-piece.piece-index c.piece-item.result c.loop-piece.left.now
    c.loop-piece-test.true c.piece-item.is c.loop-piece.invariant.there

pub loop-piece-preserved : goal.loop-piece-preserved
loop-piece-preserved c =
    record {
      there = rest-there c.args.classes.now c.args.slots.now c.args.pieces.now c.loop-piece.piece-index c.piece-item.result c.loop-piece.left.now _
          c.loop-piece-test.true c.piece-item.is c.args_after-left.ensures c.loop-piece.invariant.there;
      whole = written-next c.args.classes.now c.args.slots.now c.args.pieces.now c.loop-piece.piece-index c.piece-item.result c.loop-piece.left.now _
          c.loop-piece.chars.items _ _ c.loop-piece-test.true c.piece-item.is c.args_after-left.ensures c.in_ok-push_piece.ensures c.loop-piece.invariant.whole;
    }
