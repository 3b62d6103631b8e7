use Rattle.mh_handle.proofs.chains.JoiningWalks.{Joining}
use Rattle.mh_handle.proofs.walks.FormWalks.join.Given as goal

abbrev pub invariant-loop-place : goal.invariant-loop-place
invariant-loop-place l = Joining l.initial.self-inside.walks.items l.initial.others.items l.self-inside.walks.items l.others.items l.place
