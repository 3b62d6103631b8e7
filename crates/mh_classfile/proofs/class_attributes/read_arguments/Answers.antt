use Rattle.std.proofs.Common.{◌≡◌, ◌∙◌, ◌++◌, ◌∷◌, [], length, ap, arith}
use Rattle.std.proofs.lemmas.List.{length_push}
use Rattle.std.proofs.lemmas.Result.{err_from_is_err_and}
use Rattle.mh_class_bytes.specs.Format.{listed}
use Rattle.mh_class_bytes.proofs.Moves.{moves_again}
use Rattle.mh_class_bytes.proofs.Repeated.{repeated_next, repeated_stops, repeated_done, listed_next, listed_stops}
use Rattle.mh_class_pool.specs.declared.entry.Kind.TheVariants.{Argument}
use Rattle.mh_class_pool.specs.declared.fault.ClassKind.TheVariants.{BadBootstraps}
use Rattle.mh_classfile.specs.Members.{named_index}
use Rattle.mh_classfile.proofs.class_attributes.read_arguments.Goals as goal

pub returns-in_err-argument-clause-gives : goal.returns-in_err-argument-clause-gives
returns-in_err-argument-clause-gives c =
    let p = err_from_is_err_and c.from_residual.result c.from_residual.ensures.1 in
    let one = named_index BadBootstraps c.args.pool.now Argument in
    record {
      found = rw (p.1, p.2) (repeated_stops (listed one) c.args.count c.loop.counter c.loop.methods.begun c.loop.cursor _ _ c.loop-test.true
          (listed_stops one c.loop.methods.begun c.loop.cursor _ c.in_err-argument.ensures.reads.found) c.loop.invariant.so_far);
      moves = moves_again c.loop.invariant.moves c.in_err-argument.ensures.reads.moves;
    }

pub loop-preserved : goal.loop-preserved
loop-preserved c =
    let one = named_index BadBootstraps c.args.pool.now Argument in
    let pushed : c.push.new.self.begun ≡ c.loop.methods.begun ++ c.in_ok-argument.argument ∷ [] = c.in_ok-push.ensures.begun in
    let step = listed_next one c.loop.methods.begun c.in_ok-argument.argument c.loop.cursor c.read_index.new.cursor c.in_ok-argument.ensures.reads.found in
    record {
      so_far = rw pushed (repeated_next (listed one) c.args.count c.loop.counter c.loop.methods.begun (c.loop.methods.begun ++ c.in_ok-argument.argument ∷ [])
          c.loop.cursor c.read_index.new.cursor _ c.loop-test.true step c.loop.invariant.so_far);
      closed = c.in_ok-push.ensures.closed ∙ c.loop.invariant.closed;
      count = omega (arith, ap length pushed, length_push c.loop.methods.begun c.in_ok-argument.argument, c.loop.invariant.count);
      moves = moves_again c.loop.invariant.moves c.in_ok-argument.ensures.reads.moves;
    }

pub returns-clause-gives : goal.returns-clause-gives
returns-clause-gives c = record {
  found = repeated_done (listed (named_index BadBootstraps c.args.pool.now Argument)) c.args.count c.loop.counter c.loop.methods.begun
      c.loop.cursor _ c.loop-test.false c.loop.invariant.so_far;
  moves = c.loop.invariant.moves;
}
