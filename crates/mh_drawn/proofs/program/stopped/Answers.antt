use Rattle.mh_drawn.proofs.program.stopped.Goals as goal

pub returns : goal.returns
returns c = (c.stop_status.ensures, c.in_ok-stop_line.ensures)
