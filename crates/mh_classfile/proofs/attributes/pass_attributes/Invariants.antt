use Rattle.std.proofs.Common.{◌≡◌, ◌-◌}
use Rattle.mh_class_bytes.specs.Bytes.{MovesOn}
use Rattle.mh_class_bytes.specs.Format.{reads}
use Rattle.mh_classfile.specs.Members.{rows}
use Rattle.mh_classfile.specs.Members.{attribute}
use Rattle.mh_classfile.proofs.attributes.pass_attributes.Given as goal

abbrev pub invariant-loop : goal.invariant-loop
invariant-loop l = record {
  so_far : reads (rows (attribute l.short l.pool) (l.count - l.counter)) l.cursor ≡ reads (rows (attribute l.short l.pool) l.count)
      l.fn.cursor;
  moves : MovesOn l.fn.cursor l.cursor;
}
