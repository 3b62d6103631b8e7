use Rattle.std.proofs.Common.{◌≡◌, ◌-◌, None}
use Rattle.mh_class_bytes.specs.Bytes.{MovesOn}
use Rattle.mh_class_bytes.specs.Format.{reads, repeated}
use Rattle.mh_classfile.specs.Rows.{closed_of}
use Rattle.mh_classfile.specs.Bootstraps.{class_attribute}
use Rattle.mh_classfile.proofs.class_attributes.read_attributes.Given as goal

abbrev pub invariant-loop : goal.invariant-loop
invariant-loop l = record {
  so_far : reads (repeated (class_attribute l.pool) (l.count - l.counter) (closed_of l.found)) l.cursor ≡ reads (repeated (class_attribute l.pool) l.count None)
      l.fn.cursor;
  moves : MovesOn l.fn.cursor l.cursor;
}
