use Rattle.std.proofs.Common.{length}
use Rattle.mh_runtime.proofs.asking.WorkPasses.{still-of}
use Rattle.mh_runtime.proofs.linker.Linker.run_thread.Goals as goal

pub run_thread-run-requires-clause-ready : goal.run_thread-run-requires-clause-ready
run_thread-run-requires-clause-ready g c =
    let is = c.requires.pass in
    let room = c.requires.room in
    record {
      leaves = is.leaves;
      linker_is = is.links;
      ready = record { of_table = is.forms; room = room.forms; of_types = is.types; holds = room.holds };
      serials = room.serials;
      constants = c.requires.constants;
    }

pub returns-clause-runs : goal.returns-clause-runs
returns-clause-runs g c = c.run_thread-run.ensures.runs

pub returns-clause-pass : goal.returns-clause-pass
returns-clause-pass g c =
    still-of g.J.Run.given c.args.self.now (length c.args.calls.now) c.args.pass.now _ c.requires.pass c.run_thread-run.ensures.runs.goes_on
