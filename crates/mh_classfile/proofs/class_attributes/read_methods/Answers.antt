use Rattle.std.proofs.Common.{arith}
use Rattle.std.proofs.lemmas.Result.{err_from_is_err_and}
use Rattle.mh_class_bytes.specs.Format.{listed}
use Rattle.mh_class_bytes.proofs.Moves.{moves_again}
use Rattle.mh_class_bytes.proofs.Repeated.{repeated_next, repeated_stops, repeated_done}
use Rattle.mh_class_pool.proofs.Failing.{fails_on}
use Rattle.mh_classfile.specs.Bootstraps.{bootstrap}
use Rattle.mh_classfile.proofs.class_attributes.read_methods.Goals as goal

pub returns-in_err-read_bootstrap : goal.returns-in_err-read_bootstrap
returns-in_err-read_bootstrap c =
    let p = err_from_is_err_and c.from_residual.result c.from_residual.ensures.1 in
    record {
      gives = record {
        found = rw (p.1, p.2) (fails_on _ _ _ (λ f e. repeated_stops (listed (bootstrap c.args.pool.now)) c.args.count c.loop.counter c.loop.methods.closed
            c.loop.cursor f _ c.loop-test.true e c.loop.invariant.so_far) c.in_err-read_bootstrap.ensures.gives.found);
        moves = moves_again c.loop.invariant.moves c.in_err-read_bootstrap.ensures.gives.moves;
      };
    }

pub loop-preserved : goal.loop-preserved
loop-preserved c = record {
  so_far = repeated_next (listed (bootstrap c.args.pool.now)) c.args.count c.loop.counter c.loop.methods.closed c.read_bootstrap.new.methods.closed
      c.loop.cursor c.read_bootstrap.new.cursor _ c.loop-test.true c.in_ok-read_bootstrap.ensures.gives.found c.loop.invariant.so_far;
  begun = c.in_ok-read_bootstrap.ensures.begun;
  few = omega (arith, c.in_ok-read_bootstrap.ensures.count, c.loop.invariant.few);
  moves = moves_again c.loop.invariant.moves c.in_ok-read_bootstrap.ensures.gives.moves;
}

pub returns : goal.returns
returns c = record {
  gives = record {
    found = repeated_done (listed (bootstrap c.args.pool.now)) c.args.count c.loop.counter c.loop.methods.closed c.loop.cursor _ c.loop-test.false
        c.loop.invariant.so_far;
    moves = c.loop.invariant.moves;
  };
}
