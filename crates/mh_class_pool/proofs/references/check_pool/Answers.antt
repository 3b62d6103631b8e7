use Rattle.std.proofs.Common.{None, arith}
use Rattle.std.proofs.lemmas.Result.{err_from_is_err_and}
use Rattle.mh_class_pool.specs.References.{good_slot, good_references}
use Rattle.mh_class_pool.proofs.Each.{each_next, each_stops, each_done}
use Rattle.mh_class_pool.proofs.references.check_pool.Goals as goal

pub returns-in_err-check_index : goal.returns-in_err-check_index
returns-in_err-check_index c =
    let p = err_from_is_err_and c.from_residual-in_err-check_index.result c.from_residual-in_err-check_index.ensures.1 in
    let pool = c.args.pool.now in
    rw (p.1, p.2) (each_stops (good_slot pool) pool c.loop-index.index None (good_references pool) _ (omega arith) c.in_err-check_index.ensures.finds
    c.loop-index.invariant.so_far)

pub loop-index-preserved : goal.loop-index-preserved
loop-index-preserved c = record {
  so_far = each_next (good_slot c.args.pool.now) c.args.pool.now c.loop-index.index None _ (omega arith) c.in_ok-check_index.ensures.finds
      c.loop-index.invariant.so_far;
  marked = c.in_ok-check_index.ensures.marked;
}

pub returns : goal.returns
returns c = each_done (good_slot c.args.pool.now) c.args.pool.now c.loop-index.index _ (omega arith) c.loop-index.invariant.so_far
