use Rattle.std.proofs.Common.{◌≡◌, ◌<◌, length, arith, min, ◌∙◌}
use Rattle.std.proofs.lemmas.List.{append-nil, length-take}
use Rattle.mh_outside.proofs.Pieces.{IsFront-piece, IsWhole-from_front}
use Rattle.mh_outside.proofs.whole.read_piece.Goals as goal

pub returns-in_ok-extend_from_slice-in-Ok-clause-front : goal.returns-in_ok-extend_from_slice-in-Ok-clause-front
returns-in_ok-extend_from_slice-in-Ok-clause-front g c =
    let at : c.len.result ≡ length c.args.bytes.now.items = omega arith in
    IsFront-piece _ _ _ _ _ _ _ at c.in-Ok.ensures.count c.in_ok-extend_from_slice-in-Ok.ensures.items c.in-Ok.ensures.bytes

pub returns-in_ok-extend_from_slice-in-Ok-clause-end : goal.returns-in_ok-extend_from_slice-in-Ok-clause-end
returns-in_ok-extend_from_slice-in-Ok-clause-end g c = λ none.
    let at : c.len.result ≡ length c.args.bytes.now.items = omega arith in
    let long : length c.read.new.buf ≡ min c.min-room.result 16384 = simp length-take at c.read.auto.buf in
    let room : 0 < length c.read.new.buf = omega (arith, long, c.min-room.ensures) in
    let same : c.extend_from_slice.new.self.items ≡ c.args.bytes.now.items = rw none at c.in_ok-extend_from_slice-in-Ok.ensures.items ∙ append-nil _ in
    IsWhole-from_front _ _ _ _ _ _ at room same c.in-Ok.ensures.bytes none
