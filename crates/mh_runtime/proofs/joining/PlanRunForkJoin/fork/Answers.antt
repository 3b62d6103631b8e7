use Rattle.std.proofs.Common.{sym, ◌∙◌, ap, subst, IfOk}
use Rattle.std.specs.Prelude.{slice_get}
use Rattle.mh_runtime.specs.declared.pass.Pass.{Pass}
use Rattle.mh_runtime.specs.Bases.{pass_of}
use Rattle.mh_runtime.specs.Linkers.{IsOf, SplitsPass}
use Rattle.mh_runtime.proofs.lanes.ForkedLanes.{can-split, forked-reported, left-of, ready-reported}
use Rattle.mh_runtime.proofs.joining.PlanRunForkJoin.fork.Goals as goal

pub lane-requires-clause-pass : goal.lane-requires-clause-pass
lane-requires-clause-pass g c =
    left-of g.J.Run.given c.args.self.now.linker.now _ (pass_of g.B.Based.base) c.args.joined.now.pass c.requires.1.1.pass c.requires.1.0

pub lane-requires-clause-room : goal.lane-requires-clause-room
lane-requires-clause-room g c =
    can-split g.J.Run.given (pass_of g.B.Based.base) c.args.self.now.plan.now c.args.joined.now c.requires.0 c.requires.1.1
    c.get-calls.result.now (ap (slice_get c.args.self.now.plan.now) c.requires.2 ∙ c.get-calls.ensures)

pub returns-clause-forked : goal.returns-clause-forked
returns-clause-forked g c = λ lanes forked same.
    let base : Pass _ = pass_of g.B.Based.base in
    forked-reported g.J.Run.given base c.args.self.now.plan.now c.args.joined.now lanes forked.1
    c.get-calls.result.now (ap (slice_get c.args.self.now.plan.now) same ∙ c.get-calls.ensures)
    (IsOf g.J.Run.given c.args.self.now.linker.now base) c.lane.new.joined c.lane.result forked.0
    (subst (λ n. IfOk c.lane.result (λ lane. SplitsPass n c.args.joined.now.pass c.lane.new.joined.pass lane.pass)) (sym same) c.lane.ensures.lane)
    c.lane.ensures.calls c.lane.ensures.threads c.lane.ensures.stop

pub returns-clause-ready : goal.returns-clause-ready
returns-clause-ready g c =
    let base : Pass _ = pass_of g.B.Based.base in
    ready-reported g.J.Run.given base c.args.self.now.plan.now c.args.joined.now c.requires.0 c.requires.1.1
    c.get-calls.result.now (ap (slice_get c.args.self.now.plan.now) c.requires.2 ∙ c.get-calls.ensures)
    (IsOf g.J.Run.given c.args.self.now.linker.now base) c.lane.new.joined c.lane.result c.requires.1.0
    (subst (λ n. IfOk c.lane.result (λ lane. SplitsPass n c.args.joined.now.pass c.lane.new.joined.pass lane.pass)) (sym c.requires.2) c.lane.ensures.lane)
    c.lane.ensures.calls
