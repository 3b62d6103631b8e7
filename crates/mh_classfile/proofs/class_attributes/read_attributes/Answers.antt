use Rattle.std.proofs.lemmas.Result.{err_from_is_err_and}
use Rattle.mh_class_bytes.proofs.Moves.{moves_again}
use Rattle.mh_class_bytes.proofs.Repeated.{repeated_next, repeated_stops, repeated_done}
use Rattle.mh_class_pool.proofs.Failing.{fails_on}
use Rattle.mh_classfile.specs.Rows.{closed_of}
use Rattle.mh_classfile.specs.Bootstraps.{class_attribute}
use Rattle.mh_classfile.proofs.class_attributes.read_attributes.Goals as goal

pub returns-in_err-found : goal.returns-in_err-found
returns-in_err-found c =
    let p = err_from_is_err_and c.from_residual.result c.from_residual.ensures.1 in
    record {
      gives = record {
        found = rw (p.1, p.2) (fails_on _ _ _ (λ f e. repeated_stops (class_attribute c.args.pool.now) c.args.count c.loop.counter (closed_of c.loop.found)
            c.loop.cursor f _ c.loop-test.true e c.loop.invariant.so_far) c.in_err-found.ensures.gives.found);
        moves = moves_again c.loop.invariant.moves c.in_err-found.ensures.gives.moves;
      };
    }

pub loop-preserved : goal.loop-preserved
loop-preserved c = record {
  so_far = repeated_next (class_attribute c.args.pool.now) c.args.count c.loop.counter (closed_of c.loop.found) (closed_of c.in_ok-found.found) c.loop.cursor
      c.read_class_attribute.new.cursor _ c.loop-test.true c.in_ok-found.ensures.gives.found c.loop.invariant.so_far;
  moves = moves_again c.loop.invariant.moves c.in_ok-found.ensures.gives.moves;
}

pub returns : goal.returns
returns c = record {
  gives = record {
    found = repeated_done (class_attribute c.args.pool.now) c.args.count c.loop.counter (closed_of c.loop.found) c.loop.cursor _ c.loop-test.false
        c.loop.invariant.so_far;
    moves = c.loop.invariant.moves;
  };
}
