use Rattle.std.proofs.Common.{◌-◌, ◌≡◌}
use Rattle.mh_classfile.proofs.SitesLoop.{IsFinding}
use Rattle.mh_classfile.proofs.code.read_sites.Given as goal

abbrev pub invariant-instructions : goal.invariant-instructions
invariant-instructions l = record {
  finding : IsFinding l.code.pool.now l.code.method l.fn.sites.room l.code.start l.end l.fn.cursor l.cursor l.fn.sites.sites l.sites.sites;
  room : l.sites.room ≡ l.fn.sites.room;
}

abbrev pub decreases-instructions : goal.decreases-instructions
decreases-instructions l = l.end - l.cursor.at
