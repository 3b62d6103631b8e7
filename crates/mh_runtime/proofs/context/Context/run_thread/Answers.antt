use Rattle.std.proofs.Common.{sym, subst}
use Rattle.mh_runtime.specs.Linkers.{RunsThread, pass_in}
use Rattle.mh_runtime.proofs.context.Context.run_thread.Goals as goal

pub returns-clause-runs : goal.returns-clause-runs
returns-clause-runs g c =
    let answers = c.make_calls-made.new.answers in
    subst (λ stop. RunsThread g.J.Run.given c.args.calls.now (pass_in c.args.pass.now c.args.w.now)
    (pass_in c.make_calls-made.new.pass c.make_calls-made.new.w) (record { answers = answers; stop = stop }))
    (sym c.err.ensures.value) c.make_calls-made.ensures.runs
