use Rattle.std.proofs.Common.{◌<◌, length, arith}
use Rattle.mh_report.proofs.Running.{threads_text-more}
use Rattle.mh_report.proofs.printing.push_threads.Goals as goal

pub loop-number-preserved : goal.loop-number-preserved
loop-number-preserved c =
    let in_range : c.loop-number.number < length c.args.threads.now = omega arith in
    threads_text-more c.args.classes.now c.args.threads.now c.loop-number.number c.as_slice.result.now _ _ _ in_range (rw (c.as_slice.ensures) c.get.ensures)
    c.in_ok-push_thread.ensures c.loop-number.invariant
