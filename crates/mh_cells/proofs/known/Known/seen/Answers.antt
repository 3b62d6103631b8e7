use Rattle.std.proofs.Common.{sym, ◌∙◌, ap, Some}
use Rattle.std.proofs.lemmas.Option.{slice_get_read}
use Rattle.mh_cells.proofs.PlacedValues.{finds-value, value-here}
use Rattle.mh_cells.proofs.known.Known.seen.Goals as goal

pub returns-in-Some : goal.returns-in-Some
returns-in-Some g c =
    let here = slice_get_read c.self.inside.learnt.items _ c.args.at c.index.result.now (sym c.self.invariant.count)
    (rw (← c.self.view_is) at c.requires) c.index.ensures ∙ ap Some c.in-Some.is in
    let found = finds-value g.V.Keyed.key_of c.self.inside.cells.now c.self.inside.learnt.items c.args.at c.in-Some.one c.self.invariant here in
    rw (← c.self.view_is) (found.0 ∙ ap Some (sym c.node.ensures), ap g.V.Keyed.key_of c.node.ensures ∙ found.1)

pub returns-in-None : goal.returns-in-None
returns-in-None g c =
    let here = slice_get_read c.self.inside.learnt.items _ c.args.at c.index.result.now (sym c.self.invariant.count)
    (rw (← c.self.view_is) at c.requires) c.index.ensures in
    rw (← c.self.view_is) (value-here c.self.inside.learnt.items c.args.at _ (here ∙ ap Some c.in-None.is))
