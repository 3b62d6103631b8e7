use Rattle.std.proofs.Common.{◌≡◌, drop}
use Rattle.mh_class_pool.specs.References.{each}
use Rattle.mh_classfile.specs.File.{has_bootstrap}
use Rattle.mh_classfile.proofs.reader.check_bootstraps.Given as goal

abbrev pub invariant-loop-index : goal.invariant-loop-index
invariant-loop-index l = each (has_bootstrap l.count) (drop l.index l.pool) ≡ each (has_bootstrap l.count) l.pool
