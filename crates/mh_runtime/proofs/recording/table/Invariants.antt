use Rattle.std.proofs.Common.{◌≡◌, ◌<◌, ℕ, Some, take}
use Rattle.mh_report.specs.Recorded.{recorded}
use Rattle.mh_report.specs.Results.{serial_at}
use Rattle.mh_runtime.specs.Attempts.{HasRecorded}
use Rattle.mh_runtime.specs.Values.{AtLinks}
use Rattle.mh_runtime.proofs.recording.table.Given as goal

abbrev pub invariant-loop-site : goal.invariant-loop-site
invariant-loop-site g l = record {
  table : AtLinks g.J.Run.given l.pass (λ given. l.table ≡ recorded given (take l.site l.pass.linked));
  own : (site serial : ℕ) → site < l.site → serial_at l.pass.linked site ≡ Some serial → HasRecorded l.pass site serial;
}
