use Rattle.std.proofs.Common.{◌≡◌, All, length}
use Rattle.mh_prelink.proofs.sharing.split_all.Given as goal

abbrev pub invariant-loop-number : goal.invariant-loop-number
invariant-loop-number g l = record {
  split_off : g.T.SharesOut.split_off l.task l.state l.passes;
  count : length l.passes ≡ l.number;
  room : All (λ p. g.T.Linking.room l.task p (g.T.Linking.items l.task)) l.passes;
}
