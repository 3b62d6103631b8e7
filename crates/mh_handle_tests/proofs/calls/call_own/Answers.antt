use Rattle.mh_handle_tests.proofs.Callable.{callable}
use Rattle.mh_handle_tests.proofs.calls.call_own.Goals as goal

pub invoke-requires-clause-runs : goal.invoke-requires-clause-runs
invoke-requires-clause-runs c = callable c.args.leaves.now c.args.handle.now c.args.args.now c.requires.stands c.requires.typed
