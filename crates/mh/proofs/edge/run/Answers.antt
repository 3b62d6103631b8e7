use Rattle.std.proofs.Common.{◌≡◌}
use Rattle.std.specs.IoError.{error_kind}
use Rattle.std.specs.declared.io.ErrorKind.TheVariants.{OutOfMemory}
use Rattle.mh_outside.specs.Causes.{IsStill}
use Rattle.mh_main.specs.Status.{IsUsageOrWant}
use Rattle.std.specs.Process.{exit_status}
use Rattle.mh.proofs.NoText.{refused_as_none}
use Rattle.mh.proofs.edge.run.Goals as goal

pub returns-clause-no_text : goal.returns-clause-no_text
returns-clause-no_text g c =
    refused_as_none c.args.args (λ error. error_kind error ≡ OutOfMemory) c.in-Ok.words.items c.deref.result.now c.after_name.result.now
    (IsStill (g.S.Sink.faults c.args.sink.now) (g.S.Sink.faults c.run_words.new.sink)) (IsUsageOrWant (exit_status c.run_words.result))
    c.in-Ok.ensures.no_text c.in-Ok.ensures.memory c.deref.ensures.value c.after_name.ensures c.run_words.ensures.is.usage_due
