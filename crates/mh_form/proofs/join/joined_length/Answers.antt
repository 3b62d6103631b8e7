use Rattle.std.proofs.Common.{arith}
use Rattle.mh_form.specs.Joins.{joined_text_at}
use Rattle.mh_form.proofs.Joins.{length-next, long-at, piece-there, rest-there, short-at}
use Rattle.mh_form.proofs.join.joined_length.Goals as goal

pub piece_length-more-requires : goal.piece_length-more-requires
piece_length-more-requires c =
    piece-there c.args.classes.now c.args.slots.now c.args.pieces.now c.loop-piece.piece-index c.piece-item.result c.loop-piece.left.now
    c.loop-piece-test.true c.piece-item.is c.loop-piece.invariant.there

pub loop-piece-preserved : goal.loop-piece-preserved
loop-piece-preserved c =
    record {
      few = omega (arith, c.loop-piece.invariant.few, c.if-more-room.false);
      there = rest-there c.args.classes.now c.args.slots.now c.args.pieces.now c.loop-piece.piece-index c.piece-item.result c.loop-piece.left.now _
          c.loop-piece-test.true c.piece-item.is c.args_after-left.ensures c.loop-piece.invariant.there;
      whole = length-next c.args.classes.now c.args.slots.now c.args.pieces.now c.loop-piece.piece-index c.piece-item.result c.loop-piece.left.now _
          c.loop-piece.all c.piece_length-more.result _ c.loop-piece-test.true c.piece-item.is c.args_after-left.ensures c.piece_length-more.ensures
          (omega (arith, c.loop-piece.invariant.few, c.if-more-room.false)) c.loop-piece.invariant.whole;
    }

pub returns-then-more-room : goal.returns-then-more-room
returns-then-more-room c =
    long-at c.args.classes.now c.args.slots.now c.args.pieces.now c.loop-piece.piece-index c.piece-item.result c.loop-piece.left.now
    c.loop-piece.all c.piece_length-more.result (joined_text_at c.args.classes.now c.args.slots.now c.args.pieces.now c.args.places.now)
    c.loop-piece-test.true c.piece-item.is c.requires c.piece_length-more.ensures
    (omega (arith, c.loop-piece.invariant.few, c.if-more-room.true)) c.loop-piece.invariant.whole

pub returns : goal.returns
returns c =
    short-at c.args.classes.now c.args.slots.now c.args.pieces.now c.loop-piece.piece-index c.loop-piece.left.now c.loop-piece.all
    (joined_text_at c.args.classes.now c.args.slots.now c.args.pieces.now c.args.places.now) c.loop-piece-test.false c.loop-piece.invariant.few
    c.loop-piece.invariant.whole
