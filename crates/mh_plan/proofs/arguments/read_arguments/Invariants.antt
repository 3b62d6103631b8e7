use Rattle.std.proofs.Common.{◌≡◌, map, drop}
use Rattle.mh_plan.specs.Plan.{arguments_of}
use Rattle.mh_plan.proofs.ReadOn.{read_on}
use Rattle.mh_plan.proofs.arguments.read_arguments.Given as goal

abbrev pub invariant-loop-i : goal.invariant-loop-i
invariant-loop-i l =
    arguments_of l.classes (map (λ t. t.now) l.tokens) l.types ≡ read_on l.values (arguments_of l.classes (map (λ t. t.now) (drop l.i l.tokens))
    (drop l.i l.types))
