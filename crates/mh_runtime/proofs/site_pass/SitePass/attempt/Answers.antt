use Rattle.std.proofs.Common.{◌∙◌, ◌+◌, ◌≤◌, ap, subst, sym}
use Rattle.std.specs.Prelude.{IfOk}
use Rattle.mh_condy.specs.Nodes.{unresolved}
use Rattle.mh_condy.specs.Resolving.{GoesOnResolving}
use Rattle.mh_attempt.specs.Constants.{AsksConstants, AsksFirst}
use Rattle.mh_runtime.specs.Passes.{LinkPass}
use Rattle.mh_runtime.proofs.sites.LinkPasses.{pass-learns}
use Rattle.mh_runtime.proofs.site_pass.SitePass.attempt.Goals as goal

pub attempt-requires-clause-room : goal.attempt-requires-clause-room
attempt-requires-clause-room g c =
    subst (λ (p : LinkPass). unresolved p.constants.known ≤ p.constants.seat.room) (sym c.self.view_is) c.requires.room

pub invariant_of-self : goal.invariant_of-self
invariant_of-self g c = (
  c.attempt.ensures.resolving.table ∙ c.self.invariant.0,
  pass-learns g.J.Run.given c.self.inside.known c.self.inside.known c.self.inside.attempts.items c.self.inside.recorded.items c.self.inside.constants
      c.attempt.new.asked (λ site serial is. is) (λ site l at. at) c.attempt.ensures.resolving.known c.self.invariant.1,
)

-- ---- the rest of the pass is as it was

pub returns-clause-others : goal.returns-clause-others
returns-clause-others g c = ap (λ (p : LinkPass). record p { constants = c.attempt.new.asked }) c.self.view_is

pub returns-clause-resolving : goal.returns-clause-resolving
returns-clause-resolving g c =
    subst (λ (p : LinkPass). GoesOnResolving p.constants c.attempt.new.asked) c.self.view_is c.attempt.ensures.resolving

pub returns-clause-few : goal.returns-clause-few
returns-clause-few g c =
    subst (λ (p : LinkPass). p.constants.seat.room ≤ unresolved p.constants.known + c.attempt.new.asked.seat.room) c.self.view_is c.attempt.ensures.few

pub returns-clause-constants : goal.returns-clause-constants
returns-clause-constants g c =
    subst (λ (p : LinkPass). IfOk c.attempt.result (λ l. AsksConstants g.J.Run.given c.args.job.now p.constants c.attempt.new.asked l.under))
    c.self.view_is c.attempt.ensures.constants

pub returns-clause-before : goal.returns-clause-before
returns-clause-before g c =
    subst (λ (p : LinkPass). AsksFirst g.J.Run.given c.args.job.now p.constants c.attempt.new.asked c.args.w.now.seat.now c.attempt.new.w.seat.now
    c.attempt.result) c.self.view_is c.attempt.ensures.before
