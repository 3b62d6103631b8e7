use Rattle.std.proofs.Common.{◌≡◌, drop}
use Rattle.mh_class_pool.specs.References.{each, good_slot, good_references, AreDescriptors}
use Rattle.mh_class_pool.proofs.references.check_pool.Given as goal

abbrev pub invariant-loop-index : goal.invariant-loop-index
invariant-loop-index l = record {
  so_far : each (good_slot l.pool) (drop l.index l.pool) ≡ good_references l.pool;
  marked : AreDescriptors l.pool l.marked.items;
}
