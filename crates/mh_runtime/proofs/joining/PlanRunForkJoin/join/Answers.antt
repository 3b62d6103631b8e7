use Rattle.std.proofs.Common.{◌∙◌, sym}
use Rattle.mh_runtime.specs.declared.pass.Pass.{Pass}
use Rattle.mh_runtime.specs.Bases.{pass_of}
use Rattle.mh_runtime.specs.Linkers.{IsOf}
use Rattle.mh_runtime.proofs.lanes.ForkedLanes.{joined-reported}
use Rattle.mh_runtime.proofs.joining.PlanRunForkJoin.join.Goals as goal

pub add-requires-clause-pass : goal.add-requires-clause-pass
add-requires-clause-pass g c =
    let is = c.requires.2.0 in
    let reported = c.requires.2.1.so_far in
    record { leaves = is.leaves; links = reported.linker_is ∙ is.links; forms = reported.table_is ∙ is.forms; types = reported.types_is ∙ is.types }

pub add-requires-clause-lane : goal.add-requires-clause-lane
add-requires-clause-lane g c =
    let is = c.requires.2.0 in
    let ran = c.requires.4.1 in
    record { leaves = is.leaves; links = ran.linker_is ∙ is.links; forms = ran.table_is ∙ is.forms; types = ran.types_is ∙ is.types }

pub add-requires-clause-constants : goal.add-requires-clause-constants
add-requires-clause-constants g c = c.requires.4.1.resolved.goes.table ∙ sym c.requires.2.1.so_far.constants.table

pub returns : goal.returns
returns g c = λ before after joined within done.
    let base : Pass _ = pass_of g.B.Based.base in
    joined-reported g.J.Run.given base c.args.self.now.plan.now before after c.args.lane c.args.joined.now c.add.new.self joined.1 within
    (IsOf g.J.Run.given c.args.self.now.linker.now base) c.add.result joined.0 done c.add.ensures
