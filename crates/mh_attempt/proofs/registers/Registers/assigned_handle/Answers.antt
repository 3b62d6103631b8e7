use Rattle.mh_attempt.proofs.registers.Registers.assigned_handle.Goals as goal

pub returns-clause-kept : goal.returns-clause-kept
returns-clause-kept c seat kept = c.as_handle.ensures.kept seat (c.in_ok-held.ensures.kept seat kept)
