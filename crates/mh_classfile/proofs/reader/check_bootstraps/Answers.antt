use Rattle.std.proofs.Common.{None, arith}
use Rattle.std.proofs.lemmas.Result.{err_from_is_err_and}
use Rattle.mh_class_pool.specs.References.{each}
use Rattle.mh_class_pool.proofs.Each.{each_next, each_stops, each_done}
use Rattle.mh_classfile.specs.File.{has_bootstrap}
use Rattle.mh_classfile.proofs.reader.check_bootstraps.Goals as goal

pub returns-in_err-check_bootstrap : goal.returns-in_err-check_bootstrap
returns-in_err-check_bootstrap c =
    let p = err_from_is_err_and c.from_residual.result c.from_residual.ensures.1 in
    let pool = c.args.pool.now in
    let f = has_bootstrap c.args.count in
    rw (p.1, p.2) (each_stops f pool c.loop-index.index None (each f pool) _ (omega arith) c.in_err-check_bootstrap.ensures c.loop-index.invariant)

pub loop-index-preserved : goal.loop-index-preserved
loop-index-preserved c = each_next (has_bootstrap c.args.count) c.args.pool.now c.loop-index.index None _ (omega arith) c.in_ok-check_bootstrap.ensures
    c.loop-index.invariant

pub returns : goal.returns
returns c = each_done (has_bootstrap c.args.count) c.args.pool.now c.loop-index.index _ (omega arith) c.loop-index.invariant
