use Rattle.mh_drawn.proofs.Full.{full-forms, full-types}
use Rattle.mh_drawn.proofs.tables.stop_of.Goals as goal

pub returns-in-Ok : goal.returns-in-Ok
returns-in-Ok g c asked =
    full-forms g.J.Run.given c.args.seats.now.forms c.look_at_forms.new.pass c.args.seats.now.types c.in-FormsFull.drawn
    (rw c.in-FormsFull.is at c.requires.stopped) c.look_at_forms.ensures.numbers c.in-Ok.ensures.room c.in-Ok.ensures.known

pub returns-in-TypesFull : goal.returns-in-TypesFull
returns-in-TypesFull g c asked =
    full-types g.J.Run.given c.args.seats.now.forms c.args.seats.now.types c.look_at_types.new.seat c.in-TypesFull.bucket
    (rw c.in-TypesFull.is at c.requires.stopped) c.look_at_types.ensures.same c.look_at_types.ensures.known
