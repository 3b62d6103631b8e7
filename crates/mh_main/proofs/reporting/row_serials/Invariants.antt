use Rattle.std.proofs.Common.{◌≡◌, take}
use Rattle.mh_report.specs.Recorded.{row_serials}
use Rattle.mh_main.proofs.reporting.row_serials.Given as goal

abbrev pub invariant-loop-entry : goal.invariant-loop-entry
invariant-loop-entry l = l.serials ≡ row_serials (take l.entry-index l.entries)
