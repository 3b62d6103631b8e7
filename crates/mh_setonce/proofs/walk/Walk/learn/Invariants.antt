use Rattle.std.proofs.Common.{◌≡◌}
use Rattle.mh_setonce.specs.Walks.{StartsWith, Distinct}
use Rattle.mh_setonce.proofs.walk.Walk.learn.Given as goal

abbrev pub invariant-loop : goal.invariant-loop
invariant-loop g l = (l.self.chain ≡ l.initial.self.chain) × StartsWith l.self.nodes l.initial.self.nodes × Distinct g.V.Keyed.key_of l.self.nodes
