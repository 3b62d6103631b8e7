use Rattle.std.proofs.Common.{◌≡◌, take}
use Rattle.mh_runtime.specs.Report.{rows_in}
use Rattle.mh_runtime.proofs.constants.RecordedRows.{PutBefore}
use Rattle.mh_runtime.proofs.recording.rows.Given as goal

abbrev pub invariant-loop-c : goal.invariant-loop-c
invariant-loop-c g l = record {
  rows : l.rows ≡ rows_in (take l.c l.pass.known);
  own : PutBefore l.pass l.c;
}
