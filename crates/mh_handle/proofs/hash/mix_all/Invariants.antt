use Rattle.std.proofs.Common.{◌≡◌, ◌<◌, drop}
use Rattle.mh_handle.specs.Hashes.{all_mixed, hash_limit}
use Rattle.mh_handle.proofs.hash.mix_all.Given as goal

abbrev pub invariant-loop-item : goal.invariant-loop-item
invariant-loop-item g l = (all_mixed g.T.Hashed.part l.all (drop l.item-index l.items) ≡ all_mixed g.T.Hashed.part l.fn.hash l.items) × (l.all < hash_limit)
