use Rattle.std.proofs.lemmas.Result.{err_from_is_err_and}
use Rattle.mh_class_bytes.proofs.Moves.{moves_again}
use Rattle.mh_class_bytes.proofs.Repeated.{repeated_next, repeated_stops, repeated_done}
use Rattle.mh_classfile.specs.Members.{field}
use Rattle.mh_classfile.proofs.members.pass_fields.Goals as goal

pub returns-in_err-pass_field : goal.returns-in_err-pass_field
returns-in_err-pass_field c =
    let p = err_from_is_err_and c.from_residual.result c.from_residual.ensures.1 in
    record {
      reads = record {
        found = rw (p.1, p.2) (repeated_stops (λ (u : Unit {0}). field c.args.pool.now) c.args.count c.loop.counter tt c.loop.cursor _ _ c.loop-test.true
            c.in_err-pass_field.ensures.reads.found c.loop.invariant.so_far);
        moves = moves_again c.loop.invariant.moves c.in_err-pass_field.ensures.reads.moves;
      };
    }

pub loop-preserved : goal.loop-preserved
loop-preserved c = record {
  so_far = repeated_next (λ (u : Unit {0}). field c.args.pool.now) c.args.count c.loop.counter tt tt c.loop.cursor c.pass_field.new.cursor _ c.loop-test.true
      c.in_ok-pass_field.ensures.reads.found c.loop.invariant.so_far;
  moves = moves_again c.loop.invariant.moves c.in_ok-pass_field.ensures.reads.moves;
}

pub returns : goal.returns
returns c = record {
  reads = record {
    found = repeated_done (λ (u : Unit {0}). field c.args.pool.now) c.args.count c.loop.counter tt c.loop.cursor _ c.loop-test.false
        c.loop.invariant.so_far;
    moves = c.loop.invariant.moves;
  };
}
