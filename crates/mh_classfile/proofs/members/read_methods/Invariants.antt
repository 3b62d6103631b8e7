use Rattle.std.proofs.Common.{◌≡◌, ◌-◌}
use Rattle.mh_class_bytes.specs.Bytes.{MovesOn}
use Rattle.mh_class_bytes.specs.Format.{reads, repeated}
use Rattle.mh_classfile.specs.Members.{method}
use Rattle.mh_classfile.proofs.members.read_methods.Given as goal

abbrev pub invariant-loop : goal.invariant-loop
invariant-loop l = record {
  so_far : reads (repeated (method l.pool l.fn.sites.room) (l.count - l.counter) l.sites.sites) l.cursor ≡ reads (repeated (method l.pool l.fn.sites.room)
      l.count l.fn.sites.sites) l.fn.cursor;
  room : l.sites.room ≡ l.fn.sites.room;
  moves : MovesOn l.fn.cursor l.cursor;
}
