use Rattle.std.proofs.Common.{◌<◌, ℕ, length, arith}
use Rattle.std.proofs.lemmas.Result.{err_from_is_err_and}
use Rattle.mh_main.proofs.Pieces.{AppendsPart-at}
use Rattle.std.specs.declared.alloc.Global.{Global}
use Rattle.std.specs.declared.vec.Vec.{Vec}
use Rattle.mh_main.proofs.lines.write_parts.Goals as goal

pub returns-in_err-write_whole-clause-part : goal.returns-in_err-write_whole-clause-part
returns-in_err-write_whole-clause-part g c =
    let in_range : c.loop-at.at < length c.args.parts.now = omega arith in
    let failed = err_from_is_err_and c.from_residual.result c.from_residual.ensures.1 in
    rw failed.1 (AppendsPart-at (λ (p : Vec ℕ Global). p.items) _ _ _ c.args.parts.now c.loop-at.at _ in_range c.loop-at.invariant.written
    (rw c.index-parts-at.is at (rw c.deref.ensures.value at c.in_err-write_whole.ensures.part)))
