use Rattle.std.proofs.Common.{◌∙◌, ◌≤◌, ap, subst, sym, arith}
use Rattle.mh_tickets.specs.Seats.{SeatView}
use Rattle.mh_condy.specs.Nodes.{unresolved}
use Rattle.mh_condy.specs.Passes.{PassView}
use Rattle.mh_runtime.specs.Passes.{FindsLinkage, FindsValue}
use Rattle.mh_runtime.proofs.sites.Resolving.{resolves-learnt, resolves-more}
use Rattle.mh_runtime.proofs.site_linker.SiteLinker.resolve.Goals as goal

-- the pass over the constants is as it was, and so is its room
pub attempt-requires-clause-ready : goal.attempt-requires-clause-ready
attempt-requires-clause-ready g c =
    let learns = c.find.ensures.learns in
    record {
      leaves = c.requires.ready.leaves;
      linker_is = learns.linker ∙ c.requires.ready.linker_is;
      ready = c.requires.ready.ready;
      serials = let same = ap (λ (s : SeatView). s.room) learns.seat in let has = c.requires.ready.serials in omega (arith, same, has);
      constants = subst (λ (k : PassView). unresolved k.known ≤ k.seat.room) (sym learns.constants) c.requires.ready.constants;
    }

pub returns-in-Some-clause-resolves : goal.returns-in-Some-clause-resolves
returns-in-Some-clause-resolves g c =
    resolves-learnt g.J.Run.given c.args.site c.args.pass.now c.find.new.self c.args.w.now c.in-Some.found c.find.ensures.constants c.find.ensures.learns
    c.find.ensures.recorded (subst (FindsLinkage c.find.new.self.linked c.args.site) c.in-Some.is c.find.ensures.found)
    (subst (FindsValue c.find.new.self.linkages c.args.site) c.in-Some.is c.find.ensures.value)

pub returns-in-Some-clause-room_left : goal.returns-in-Some-clause-room_left
returns-in-Some-clause-room_left g c =
    subst (λ (k : PassView). unresolved k.known ≤ k.seat.room) (sym c.find.ensures.learns.constants) c.requires.ready.constants

pub returns-clause-resolves : goal.returns-clause-resolves
returns-clause-resolves g c =
    resolves-more g.J.Run.given c.args.site c.args.pass.now c.find.new.self c.attempt.new.pass c.args.w.now c.attempt.new.w c.attempt.result
    c.find.ensures.learns c.find.ensures.recorded
    (subst (FindsLinkage c.find.new.self.linked c.args.site) c.in_default.is c.find.ensures.found) c.attempt.ensures.resolves
