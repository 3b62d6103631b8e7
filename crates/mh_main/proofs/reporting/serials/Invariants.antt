use Rattle.std.proofs.Common.{◌≡◌, take}
use Rattle.mh_report.specs.Recorded.{serials_of}
use Rattle.mh_main.proofs.reporting.serials.Given as goal

abbrev pub invariant-loop-entry : goal.invariant-loop-entry
invariant-loop-entry l = l.serials ≡ serials_of (take l.entry-index l.entries)
