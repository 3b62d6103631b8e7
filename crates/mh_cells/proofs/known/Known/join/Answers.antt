use Rattle.std.proofs.Common.{subst, sym, arith}
use Rattle.mh_cells.specs.Learning.{AreLearnt}
use Rattle.mh_cells.proofs.Joining.{joined-learnt, joined-mine, joined-only, joined-theirs, joining-next, of-one-cell}
use Rattle.mh_cells.proofs.known.Known.join.Goals as goal

pub join-requires : goal.join-requires
join-requires g c =
    let one = rw (← c.other.view_is) at c.requires in
    of-one-cell c.self.inside.learnt.items c.other.inside.learnt.items g.V.Keyed.key_of c.self.inside.cells.now c.other.inside.cells.now
    c.self.invariant c.other.invariant (rw (← c.self.view_is) at one) c.loop-at.self-inside.learnt.items c.loop-at.others.items c.loop-at.at
    c.loop-at.invariant.1 (omega (arith, c.loop-at-test.true, c.len-at-end.ensures)) c.index_mut.result.now c.take.result c.index_mut.ensures.value
    (rw (← c.take.ensures.value) at c.index_mut-in-loop-at.ensures.value)

pub loop-at-preserved : goal.loop-at-preserved
loop-at-preserved g c =
    let one = rw (← c.other.view_is) at c.requires in (
      c.loop-at.invariant.0,
      joining-next c.self.inside.learnt.items c.other.inside.learnt.items g.V.Keyed.key_of c.self.inside.cells.now c.other.inside.cells.now
          c.self.invariant c.other.invariant (rw (← c.self.view_is) at one) c.loop-at.self-inside.learnt.items c.loop-at.others.items c.loop-at.at
          c.loop-at.invariant.1 (omega (arith, c.loop-at-test.true, c.len-at-end.ensures)) c.index_mut.result.now c.take.result
          c.join.new.learnt c.take.new.self c.index_mut.ensures.value (rw (← c.take.ensures.value) at c.index_mut-in-loop-at.ensures.value) c.join.ensures,
    )

pub invariant_of-self : goal.invariant_of-self
invariant_of-self g c =
    let one = rw (← c.other.view_is) at c.requires in
    subst (λ cs. AreLearnt g.V.Keyed.key_of cs c.loop-at.self-inside.learnt.items) (sym c.loop-at.invariant.0)
    (joined-learnt c.self.inside.learnt.items c.other.inside.learnt.items g.V.Keyed.key_of c.self.inside.cells.now c.other.inside.cells.now
    c.self.invariant c.other.invariant (rw (← c.self.view_is) at one) c.loop-at.self-inside.learnt.items c.loop-at.others.items c.loop-at.at
    c.loop-at.invariant.1 (omega (arith, c.loop-at-test.false, c.len-at-end.ensures)))

pub returns-clause-cells : goal.returns-clause-cells
returns-clause-cells g c = rw (← c.self.view_is) c.loop-at.invariant.0

pub returns-clause-mine : goal.returns-clause-mine
returns-clause-mine g c =
    let one = rw (← c.other.view_is) at c.requires in
    rw (← c.self.view_is)
    (joined-mine c.self.inside.learnt.items c.other.inside.learnt.items g.V.Keyed.key_of c.self.inside.cells.now c.other.inside.cells.now
    c.self.invariant c.other.invariant (rw (← c.self.view_is) at one) c.loop-at.self-inside.learnt.items c.loop-at.others.items c.loop-at.at
    c.loop-at.invariant.1 (omega (arith, c.loop-at-test.false, c.len-at-end.ensures)))

pub returns-clause-theirs : goal.returns-clause-theirs
returns-clause-theirs g c =
    let one = rw (← c.other.view_is) at c.requires in
    rw (← c.other.view_is)
    (joined-theirs c.self.inside.learnt.items c.other.inside.learnt.items g.V.Keyed.key_of c.self.inside.cells.now c.other.inside.cells.now
    c.self.invariant c.other.invariant (rw (← c.self.view_is) at one) c.loop-at.self-inside.learnt.items c.loop-at.others.items c.loop-at.at
    c.loop-at.invariant.1 (omega (arith, c.loop-at-test.false, c.len-at-end.ensures)))

pub returns-clause-only : goal.returns-clause-only
returns-clause-only g c =
    let one = rw (← c.other.view_is) at c.requires in
    rw (← c.self.view_is, ← c.other.view_is)
    (joined-only c.self.inside.learnt.items c.other.inside.learnt.items g.V.Keyed.key_of c.self.inside.cells.now c.other.inside.cells.now
    c.self.invariant c.other.invariant (rw (← c.self.view_is) at one) c.loop-at.self-inside.learnt.items c.loop-at.others.items c.loop-at.at
    c.loop-at.invariant.1 (omega (arith, c.loop-at-test.false, c.len-at-end.ensures)))
