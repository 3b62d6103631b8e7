use Rattle.std.proofs.Common.{refl, arith}
use Rattle.mh_pieces.specs.Joined.{args_after, joined_text}
use Rattle.mh_pieces.proofs.Joins.{length_next, length_end, no_short_length, some_short_length}
use Rattle.mh_pieces.proofs.joined.joined_length.Goals as goal

pub loop-piece-preserved : goal.loop-piece-preserved
loop-piece-preserved c =
    let so_far = c.loop-piece.invariant in
    let next = length_next c.args.classes.now c.args.pieces.now c.loop-piece.piece-index c.piece-item.result c.loop-piece.left.now c.args_after-left.result.now
    c.loop-piece-test.true c.piece-item.is c.args_after-left.ensures in
    record {
      few = omega (arith, so_far.few, c.if-more-room.false);
      whole = omega (arith, so_far.few, so_far.whole, next, c.piece_length-more.ensures, c.if-more-room.false);
    }

pub returns-then-more-room : goal.returns-then-more-room
returns-then-more-room c =
    let so_far = c.loop-piece.invariant in
    let piece = c.piece-item.result in
    let next = length_next c.args.classes.now c.args.pieces.now c.loop-piece.piece-index piece c.loop-piece.left.now (args_after piece c.loop-piece.left.now)
    c.loop-piece-test.true c.piece-item.is refl in
    no_short_length (joined_text c.args.classes.now c.args.pieces.now c.args.args.now)
    (omega (arith, so_far.few, so_far.whole, next, c.piece_length-more.ensures, c.if-more-room.true))

pub returns : goal.returns
returns c =
    let so_far = c.loop-piece.invariant in
    let rest = length_end c.args.classes.now c.args.pieces.now c.loop-piece.piece-index c.loop-piece.left.now c.loop-piece-test.false in
    some_short_length (joined_text c.args.classes.now c.args.pieces.now c.args.args.now) c.loop-piece.all (omega (arith, so_far.whole, rest)) so_far.few
