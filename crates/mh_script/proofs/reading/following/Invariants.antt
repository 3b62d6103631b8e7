use Rattle.std.proofs.Common.{◌≡◌, map, drop}
use Rattle.mh_script.specs.Scripts.{following}
use Rattle.mh_script.proofs.reading.following.Given as goal

abbrev pub invariant-loop-line : goal.invariant-loop-line
invariant-loop-line l = following (map (λ x. x.now) l.lines) ≡ following (map (λ x. x.now) (drop l.line-index l.lines))
