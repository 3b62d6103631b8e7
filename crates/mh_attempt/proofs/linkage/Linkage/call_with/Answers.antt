use Rattle.std.proofs.Common.{subst}
use Rattle.mh_attempt.specs.Linkage.{IsLinkage}
use Rattle.mh_attempt.proofs.linking.SiteCalls.{target-runs, target-typed}
use Rattle.mh_attempt.proofs.linkage.Linkage.call_with.Goals as goal

pub invoke_with-requires-clause-typed : goal.invoke_with-requires-clause-typed
invoke_with-requires-clause-typed g c =
    let job = c.self.inside.job.now in
    let serial = c.self.inside.serial in
    let findings = c.self.inside.under.value.items in
    target-typed g.J.Run.given c.args.leaves.now job serial findings c.in-Target.target c.args.args.now c.requires.leaves
    (subst (IsLinkage g.J.Run.given job serial findings) c.in-Target.is c.self.invariant) (rw (← c.self.view_is) at c.requires.typed)

pub invoke_with-requires-clause-runs : goal.invoke_with-requires-clause-runs
invoke_with-requires-clause-runs g c =
    let job = c.self.inside.job.now in
    let serial = c.self.inside.serial in
    let findings = c.self.inside.under.value.items in
    target-runs g.J.Run.given c.args.leaves.now job serial findings c.in-Target.target c.args.args.now c.requires.leaves
    (subst (IsLinkage g.J.Run.given job serial findings) c.in-Target.is c.self.invariant) (rw (← c.self.view_is) at c.requires.typed)
