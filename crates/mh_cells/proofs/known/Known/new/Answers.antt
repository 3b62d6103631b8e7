use Rattle.std.proofs.Common.{ap, arith}
use Rattle.mh_cells.proofs.PlacedValues.{new-learnt, new-values}
use Rattle.mh_cells.proofs.known.Known.new.Goals as goal

pub invariant_of-result : goal.invariant_of-result
invariant_of-result g c =
    new-learnt g.V.Keyed.key_of c.args.cells.now c.loop.learnt.items c.loop.counter c.loop.invariant.0
    (omega (arith, c.loop-test.false, c.loop.auto.counter-end, c.len-count.ensures))

pub returns : goal.returns
returns g c = ap (λ vs. record { cells = c.args.cells.now; values = vs })
    (new-values c.args.cells.now c.loop.learnt.items c.loop.counter c.loop.invariant.0
    (omega (arith, c.loop-test.false, c.loop.auto.counter-end, c.len-count.ensures)))
