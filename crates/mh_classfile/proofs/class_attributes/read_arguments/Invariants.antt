use Rattle.std.proofs.Common.{◌≡◌, ◌-◌, length}
use Rattle.mh_class_bytes.specs.Bytes.{MovesOn}
use Rattle.mh_class_bytes.specs.Format.{reads, repeated, listed, times}
use Rattle.mh_class_pool.specs.declared.entry.Kind.TheVariants.{Argument}
use Rattle.mh_class_pool.specs.declared.fault.ClassKind.TheVariants.{BadBootstraps}
use Rattle.mh_classfile.specs.Members.{named_index}
use Rattle.mh_classfile.proofs.class_attributes.read_arguments.Given as goal

abbrev pub invariant-loop : goal.invariant-loop
invariant-loop l = record {
  so_far : reads (repeated (listed (named_index BadBootstraps l.pool Argument)) (l.count - l.counter) l.methods.begun) l.cursor ≡ reads
      (times (named_index BadBootstraps l.pool Argument) l.count) l.fn.cursor;
  closed : l.methods.closed ≡ l.fn.methods.closed;
  count : length l.methods.begun ≡ l.counter;
  moves : MovesOn l.fn.cursor l.cursor;
}
