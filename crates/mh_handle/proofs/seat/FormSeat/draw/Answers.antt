use Rattle.mh_handle.proofs.passes.Numbers.{drawn-of}
use Rattle.mh_handle.proofs.seat.FormSeat.draw.Goals as goal

pub returns : goal.returns
returns c =
    rw (← c.self.view_is) (drawn-of c.self.inside.table.value c.draw.result c.self.inside.tickets c.draw.new.seat
    c.draw.ensures.draws c.draw.ensures.known)
