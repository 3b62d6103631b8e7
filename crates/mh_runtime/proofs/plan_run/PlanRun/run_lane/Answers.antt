use Rattle.std.proofs.Common.{refl, Some}
use Rattle.mh_runtime.specs.Bases.{pass_of}
use Rattle.mh_runtime.proofs.lanes.LaneEnds.{has-made, has-run, lane-constants, lane-of, lane-room}
use Rattle.mh_runtime.proofs.plan_run.PlanRun.run_lane.Goals as goal

pub run_thread-ran-requires-clause-pass : goal.run_thread-ran-requires-clause-pass
run_thread-ran-requires-clause-pass g c =
    lane-of g.J.Run.given (pass_of g.B.Based.base) c.args.lane.now c.args.lane.now c.requires.lane c.args.self.now.linker.now c.requires.base

pub run_thread-ran-requires-clause-room : goal.run_thread-ran-requires-clause-room
run_thread-ran-requires-clause-room g c =
    lane-room g.J.Run.given (pass_of g.B.Based.base) c.args.lane.now c.args.lane.now c.requires.lane

pub run_thread-ran-requires-clause-constants : goal.run_thread-ran-requires-clause-constants
run_thread-ran-requires-clause-constants g c =
    lane-constants g.J.Run.given (pass_of g.B.Based.base) c.args.lane.now c.args.lane.now c.requires.lane

pub returns-clause-ran : goal.returns-clause-ran
returns-clause-ran g c =
    has-run g.J.Run.given (pass_of g.B.Based.base) c.args.lane.now
    (record { pass = c.run_thread-ran.new.pass; calls = c.args.lane.now.calls; ran = Some c.run_thread-ran.result })
    c.requires.lane c.run_thread-ran.result refl c.run_thread-ran.ensures.runs

pub returns-clause-made : goal.returns-clause-made
returns-clause-made g c =
    has-made g.J.Run.given (pass_of g.B.Based.base) c.args.lane.now
    (record { pass = c.run_thread-ran.new.pass; calls = c.args.lane.now.calls; ran = Some c.run_thread-ran.result })
    c.requires.lane c.run_thread-ran.result c.run_thread-ran.ensures.runs
