use Rattle.std.proofs.Common.{sym, ◌∙◌, ap, Some}
use Rattle.mh_cells.proofs.PlacedValues.{kept-learnt, kept-learns, kept-value}
use Rattle.mh_cells.proofs.known.Known.keep.Goals as goal

pub invariant_of-self : goal.invariant_of-self
invariant_of-self g c =
    kept-learnt g.V.Keyed.key_of c.self.inside.cells.now c.self.inside.learnt.items c.args.at c.args.one c.self.invariant
    (rw (← c.self.view_is) at c.requires.name) (ap g.V.Keyed.key_of (sym c.node-node.ensures) ∙ c.has_key.ensures.0 c.if-not-has_key.false)

pub returns-clause-learns : goal.returns-clause-learns
returns-clause-learns g c = rw (← c.self.view_is)
    (kept-learns g.V.Keyed.key_of c.self.inside.cells.now c.self.inside.learnt.items c.args.at c.args.one c.self.invariant
    (rw (← c.self.view_is) at c.requires.name) (rw (← c.self.view_is) at c.requires.new))

pub returns-clause-found : goal.returns-clause-found
returns-clause-found g c = (
  kept-value g.V.Keyed.key_of c.self.inside.cells.now c.self.inside.learnt.items c.args.at c.args.one c.self.invariant
      (rw (← c.self.view_is) at c.requires.name)
      ∙ ap Some (sym c.node-node.ensures),
  c.has_key.ensures.0 c.if-not-has_key.false,
)
