use Rattle.std.proofs.Common.{take}
use Rattle.mh_setonce.proofs.NewWalks.{AreNew}
use Rattle.mh_handle.proofs.walks.FormWalks.new.Given as goal

abbrev pub invariant-loop-chain : goal.invariant-loop-chain
invariant-loop-chain l = AreNew (take l.chain-index l.chain-items) l.walks.items
