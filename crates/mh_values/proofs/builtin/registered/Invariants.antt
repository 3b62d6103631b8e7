use Rattle.std.proofs.Common.{◌≡◌, drop, take, IsTrue}
use Rattle.mh_values.specs.Builtin.{classes_of_rows, may_follow_each}
use Rattle.mh_values.specs.Classes.{AreOrdered}
use Rattle.mh_values.proofs.builtin.registered.Given as goal

abbrev pub invariant-loop-name : goal.invariant-loop-name
invariant-loop-name l = record {
  done : l.registry ≡ classes_of_rows (take l.name-index l.rows);
  ordered : AreOrdered l.registry;
  left : IsTrue (may_follow_each l.registry (classes_of_rows (drop l.name-index l.rows)));
}
