use Rattle.std.proofs.Common.{◌≡◌, map, drop}
use Rattle.mh_base.specs.Lines.{built_from}
use Rattle.mh_leaves.specs.Manifest.{line_meaning}
use Rattle.mh_leaves.proofs.manifest.read_lines.Given as goal

abbrev pub invariant-loop-line : goal.invariant-loop-line
invariant-loop-line l = built_from line_meaning 1 l.fn.leaves (map (λ x. x.now) l.lines) ≡ built_from line_meaning l.number l.leaves
    (map (λ x. x.now) (drop l.line-index l.lines))
