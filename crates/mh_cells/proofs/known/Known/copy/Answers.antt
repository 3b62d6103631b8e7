use Rattle.std.proofs.Common.{◌≡◌, ◌∙◌, sym, ap₂, subst, arith}
use Rattle.std.proofs.lemmas.List.{take_all}
use Rattle.mh_cells.specs.Learning.{AreLearnt, values_of}
use Rattle.mh_cells.proofs.known.Known.copy.Given as given
use Rattle.mh_cells.proofs.known.Known.copy.Goals as goal

-- all were copied
all : (g : given.Over) (c : goal.After-loop-at g) → c.loop-at.learnt.items ≡ c.self.inside.learnt.items
all g c = c.loop-at.invariant.2
    ∙ take_all c.loop-at.at c.self.inside.learnt.items (omega (arith, c.loop-at-test.false, c.len-count.ensures))

pub invariant_of-self : goal.invariant_of-self
invariant_of-self g c =
    let key = g.V.Keyed.key_of in
    subst (λ cs. AreLearnt key cs c.loop-at.self-inside.learnt.items) (sym c.loop-at.invariant.0)
    (subst (AreLearnt key c.self.inside.cells.now) (sym c.loop-at.invariant.1) c.self.invariant)

pub invariant_of-result : goal.invariant_of-result
invariant_of-result g c =
    let key = g.V.Keyed.key_of in
    subst (λ cs. AreLearnt key cs c.loop-at.learnt.items) (sym c.loop-at.invariant.0)
    (subst (AreLearnt key c.self.inside.cells.now) (sym (all g c)) c.self.invariant)

pub returns-clause-same : goal.returns-clause-same
returns-clause-same g c = ap₂ (λ cs ls. record { cells = cs; values = values_of ls }) c.loop-at.invariant.0 c.loop-at.invariant.1 ∙ c.self.view_is

pub returns-clause-copy : goal.returns-clause-copy
returns-clause-copy g c = ap₂ (λ cs ls. record { cells = cs; values = values_of ls }) c.loop-at.invariant.0 (all g c) ∙ c.self.view_is
