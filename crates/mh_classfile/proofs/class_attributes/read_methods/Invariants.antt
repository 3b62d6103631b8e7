use Rattle.std.proofs.Common.{◌≡◌, ◌≤◌, ◌-◌, [], length}
use Rattle.mh_class_bytes.specs.Bytes.{MovesOn}
use Rattle.mh_class_bytes.specs.Format.{reads, repeated, listed, times}
use Rattle.mh_classfile.specs.Bootstraps.{bootstrap}
use Rattle.mh_classfile.proofs.class_attributes.read_methods.Given as goal

abbrev pub invariant-loop : goal.invariant-loop
invariant-loop l = record {
  so_far : reads (repeated (listed (bootstrap l.pool)) (l.count - l.counter) l.methods.closed) l.cursor ≡ reads (times (bootstrap l.pool) l.count) l.fn.cursor;
  begun : l.methods.begun ≡ [];
  few : length l.methods.closed ≤ l.counter;
  moves : MovesOn l.fn.cursor l.cursor;
}
