use Rattle.std.proofs.Common.{◌∙◌}
use Rattle.std.proofs.lemmas.Result.{err_from_is_err_and}
use Rattle.mh_class_bytes.proofs.Moves.{moves_again}
use Rattle.mh_class_bytes.proofs.Repeated.{repeated_next, repeated_stops, repeated_done}
use Rattle.mh_class_pool.proofs.Failing.{fails_on}
use Rattle.mh_classfile.specs.Members.{method_attribute}
use Rattle.mh_classfile.proofs.members.read_attributes.Goals as goal

pub returns-in_err-seen-clause-gives : goal.returns-in_err-seen-clause-gives
returns-in_err-seen-clause-gives c =
    let p = err_from_is_err_and c.from_residual.result c.from_residual.ensures.1 in
    let gives = rw c.loop.invariant.room at c.in_err-seen.ensures.gives.found in
    record {
      found = rw (p.1, p.2) (fails_on _ _ _ (λ f e. repeated_stops (method_attribute c.args.pool.now c.args.method c.args.sites.now.room) c.args.count
          c.loop.counter (c.loop.seen, c.loop.sites.sites) c.loop.cursor f _ c.loop-test.true e c.loop.invariant.so_far) gives);
      moves = moves_again c.loop.invariant.moves c.in_err-seen.ensures.gives.moves;
    }

pub loop-preserved : goal.loop-preserved
loop-preserved c =
    let reads = rw c.loop.invariant.room at c.in_ok-seen.ensures.gives.found in
    record {
      so_far = repeated_next (method_attribute c.args.pool.now c.args.method c.args.sites.now.room) c.args.count c.loop.counter
          (c.loop.seen, c.loop.sites.sites) (c.in_ok-seen.seen, c.read_attribute.new.sites.sites) c.loop.cursor c.read_attribute.new.cursor _ c.loop-test.true
          reads c.loop.invariant.so_far;
      room = c.in_ok-seen.ensures.room ∙ c.loop.invariant.room;
      moves = moves_again c.loop.invariant.moves c.in_ok-seen.ensures.gives.moves;
    }

pub returns-clause-gives : goal.returns-clause-gives
returns-clause-gives c = record {
  found = repeated_done (method_attribute c.args.pool.now c.args.method c.args.sites.now.room) c.args.count c.loop.counter
      (c.loop.seen, c.loop.sites.sites) c.loop.cursor _ c.loop-test.false c.loop.invariant.so_far;
  moves = c.loop.invariant.moves;
}
