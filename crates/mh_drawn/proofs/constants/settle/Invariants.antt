use Rattle.mh_drawn.proofs.OwnConstants.{PutBefore}
use Rattle.mh_drawn.proofs.constants.settle.Given as goal

-- the constants before this one were put, if they are known
abbrev pub invariant-loop-c : goal.invariant-loop-c
invariant-loop-c g l = PutBefore l.pass l.c
