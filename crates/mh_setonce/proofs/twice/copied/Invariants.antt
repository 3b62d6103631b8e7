use Rattle.std.proofs.Common.{◌≡◌, ◌≤◌, length, take, vec_len, vec_capacity}
use Rattle.mh_setonce.proofs.twice.copied.Given as goal

abbrev pub invariant-loop-one : goal.invariant-loop-one
invariant-loop-one g l = (l.copy.items ≡ take l.one-index l.from) × (vec_len l.copy ≡ l.one-index) × (length l.from ≤ vec_capacity l.copy)
