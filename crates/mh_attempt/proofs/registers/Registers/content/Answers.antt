use Rattle.mh_attempt.proofs.registers.Registers.content.Goals as goal

pub returns-in-Argument-clause-kept : goal.returns-in-Argument-clause-kept
returns-in-Argument-clause-kept c seat kept = c.argument.ensures.kept seat

pub returns-in-Assigned-clause-kept : goal.returns-in-Assigned-clause-kept
returns-in-Assigned-clause-kept c seat kept = c.assigned.ensures.kept seat kept
