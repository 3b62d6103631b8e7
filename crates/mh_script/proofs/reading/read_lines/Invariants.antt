use Rattle.std.proofs.Common.{◌≡◌, map, drop}
use Rattle.mh_script.specs.Limits.{MayStand}
use Rattle.mh_script.specs.Scripts.{scripts_from}
use Rattle.mh_script.proofs.reading.read_lines.Given as goal

abbrev pub invariant-loop-at : goal.invariant-loop-at
invariant-loop-at l =
    (scripts_from l.classes 1 l.fn.start (map (λ x. x.now) l.lines) ≡ scripts_from l.classes l.number l.reading (map (λ x. x.now) (drop l.at l.lines)))
    × MayStand l.reading.stage
