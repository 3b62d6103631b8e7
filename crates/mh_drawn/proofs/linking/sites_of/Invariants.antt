use Rattle.std.proofs.Common.{◌≡◌, length}
use Rattle.mh_jobs.specs.Given.{Found, under}
use Rattle.mh_drawn.specs.Linked.{AreLinkages}
use Rattle.mh_drawn.proofs.Answered.{AreSome}
use Rattle.mh_drawn.proofs.linking.sites_of.Given as goal

-- the call sites so far are answered
abbrev pub invariant-loop-number : goal.invariant-loop-number
invariant-loop-number g l = record {
  each : length l.sites ≡ l.number;
  answered : (known : Found) → AreLinkages known (length l.places) l.linkages → AreSome (under known g.J.Run.given) l.places l.number l.sites;
}
