use Rattle.std.proofs.Common.{◌≡◌, map, drop}
use Rattle.mh_base.specs.Lines.{built_from}
use Rattle.mh_plan.specs.Plan.{line_counted, none_counted}
use Rattle.mh_plan.proofs.counting.check_lines.Given as goal

abbrev pub invariant-loop-line : goal.invariant-loop-line
invariant-loop-line l = built_from line_counted 1 none_counted (map (λ x. x.now) l.lines) ≡ built_from line_counted l.number l.counts
    (map (λ x. x.now) (drop l.line-index l.lines))
