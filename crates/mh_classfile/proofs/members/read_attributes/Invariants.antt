use Rattle.std.proofs.Common.{◌≡◌, ◌-◌, false}
use Rattle.mh_class_bytes.specs.Bytes.{MovesOn}
use Rattle.mh_class_bytes.specs.Format.{reads, repeated}
use Rattle.mh_classfile.specs.Members.{method_attribute}
use Rattle.mh_classfile.proofs.members.read_attributes.Given as goal

abbrev pub invariant-loop : goal.invariant-loop
invariant-loop l = record {
  so_far : reads (repeated (method_attribute l.pool l.method l.fn.sites.room) (l.count - l.counter) (l.seen, l.sites.sites)) l.cursor ≡ reads
      (repeated (method_attribute l.pool l.method l.fn.sites.room) l.count (false, l.fn.sites.sites)) l.fn.cursor;
  room : l.sites.room ≡ l.fn.sites.room;
  moves : MovesOn l.fn.cursor l.cursor;
}
