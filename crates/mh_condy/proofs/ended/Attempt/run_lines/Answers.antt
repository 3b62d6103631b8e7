use Rattle.std.proofs.Common.{sym, subst}
use Rattle.mh_condy.specs.Frames.{start_of}
use Rattle.mh_condy.specs.Told.{Tells}
use Rattle.mh_condy.proofs.Scripting.{ran-ends, ran-fails}
use Rattle.mh_condy.proofs.ended.Attempt.run_lines.Goals as goal

pub returns-in-Err : goal.returns-in-Err
returns-in-Err g c arguments given =
    ran-fails c.args.self.now.classes.now c.args.script.now.steps c.args.script.now.end (start_of c.args.self.now arguments) c.in-Err.failure
    (rw c.as_slice.ensures at c.in-Err.ensures)

pub returns-in-Ok : goal.returns-in-Ok
returns-in-Ok g c arguments given =
    subst (λ m. Tells c.run_end.result m)
    (sym (ran-ends c.args.self.now.classes.now c.args.script.now.steps c.args.script.now.end (start_of c.args.self.now arguments)
    (rw c.as_slice.ensures at c.in-Ok.ensures)))
    (c.run_end.ensures arguments given)
