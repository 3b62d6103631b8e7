use Rattle.std.proofs.Common.{◌∙◌, ap}
use Rattle.mh_drawn.proofs.AllLinked.{all-linked, stops-linking}
use Rattle.mh_drawn.proofs.tables.link.Goals as goal

pub stop_of-requires-clause-forms : goal.stop_of-requires-clause-forms
stop_of-requires-clause-forms g c = c.in-Err.ensures.of.forms ∙ ap (λ forms. forms.now) c.in-Err.ensures.lent.forms

pub stop_of-requires-clause-types : goal.stop_of-requires-clause-types
stop_of-requires-clause-types g c = c.in-Err.ensures.of.types ∙ ap (λ types. types.now) c.in-Err.ensures.lent.types

pub stop_of-requires-clause-stopped : goal.stop_of-requires-clause-stopped
stop_of-requires-clause-stopped g c =
    let linked = c.link_all-linkages.new in
    stops-linking g.J.Run.given c.requires.constants linked.w.pass.now linked.w.seat.now linked.asked c.settle.ensures.is
    c.in_ok-settle.ensures.put c.in-Err.error c.in-Err.ensures.stopped

pub returns-in-Ok-clause-linked : goal.returns-in-Ok-clause-linked
returns-in-Ok-clause-linked g c =
    let linked = c.link_all-linkages.new in
    all-linked g.J.Run.given c.requires.constants linked.w.pass.now linked.w.seat.now linked.asked c.settle.ensures.is
    c.in_ok-settle.ensures.put c.in-Ok.linkages c.in-Ok.ensures.linked c.in-Ok.ensures.linkages
