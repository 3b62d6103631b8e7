use Rattle.std.proofs.Common.{◌≡◌, [], map, drop}
use Rattle.mh_base.specs.Lines.{built_from}
use Rattle.mh_plan.specs.Plan.{line_meaning}
use Rattle.mh_plan.proofs.calls.read_lines.Given as goal

abbrev pub invariant-loop-line : goal.invariant-loop-line
invariant-loop-line l =
    built_from (line_meaning l.of.leaves.now l.of.jobs.now) 1 [] (map (λ x. x.now) l.lines)
    ≡ built_from (line_meaning l.of.leaves.now l.of.jobs.now) l.number l.threads.items (map (λ x. x.now) (drop l.line-index l.lines))
