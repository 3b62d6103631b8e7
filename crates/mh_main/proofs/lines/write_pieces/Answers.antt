use Rattle.std.proofs.Common.{◌<◌, ℕ, List, length, arith, Bor}
use Rattle.std.proofs.lemmas.Result.{err_from_is_err_and}
use Rattle.mh_main.proofs.Pieces.{AppendsPart-at}
use Rattle.mh_main.proofs.lines.write_pieces.Goals as goal

pub returns-in_err-write_whole-clause-part : goal.returns-in_err-write_whole-clause-part
returns-in_err-write_whole-clause-part g c =
    let in_range : c.loop-at.at < length c.args.pieces.now = omega arith in
    let failed = err_from_is_err_and c.from_residual.result c.from_residual.ensures.1 in
    rw failed.1 (AppendsPart-at (λ (p : Bor (List ℕ)). p.now) _ _ _ c.args.pieces.now c.loop-at.at _ in_range c.loop-at.invariant.written
    c.in_err-write_whole.ensures.part)
