use Rattle.std.proofs.Common.{Ok, sym, subst, arith}
use Rattle.mh_handle.proofs.obeying.Going.{goes_on-more, goes_on-still}
use Rattle.mh_link.specs.Sites.{types_at}
use Rattle.mh_attempt.specs.Asked.{attempt_draws}
use Rattle.mh_attempt.specs.Constants.{AsksConstants, given_in}
use Rattle.mh_attempt.proofs.linking.AskedConstants.{unresolved-adds, unresolved-asks, unresolved-before, unresolved-types, resolved-before}
use Rattle.mh_attempt.proofs.linking.Holding.{linkage-of}
use Rattle.mh_attempt.proofs.beginnings.SiteEdits.{asks-edits, edits-stopped}
use Rattle.mh_attempt.proofs.types.SiteTypes.{asked-site, stopped-site}
use Rattle.mh_attempt.proofs.attempts.attempt.Goals as goal

pub returns-in_err-linked-clause-asks : goal.returns-in_err-linked-clause-asks
returns-in_err-linked-clause-asks g c =
    edits-stopped (given_in c.ask.new.asked g.J.Run.given) c.args.scripts.now c.args.w.now.leaves.now c.args.job.now c.args.serial c.args.w.now c.link.new.w
    c.in_err-linked.field-0.0 c.from_residual-in_err-linked.result c.from_residual-in_err-linked.ensures.1 c.requires.scripts c.requires.leaves
    c.requires.named c.requires.job
    c.in_err-linked.ensures.asks

pub returns-clause-asks : goal.returns-clause-asks
returns-clause-asks g c =
    asks-edits {A = Unit {0}} (given_in c.ask.new.asked g.J.Run.given) c.args.scripts.now c.args.w.now.leaves.now c.args.job.now c.args.serial c.args.w.now
    c.link.new.w (Ok tt) c.requires.scripts c.requires.leaves c.requires.named c.requires.job c.in_ok-linked.ensures.asks

pub new-requires : goal.new-requires
new-requires g c =
    linkage-of g.J.Run.given c.args.w.now.leaves.now c.args.scripts.now c.args.job.now c.args.serial c.args.asked.now c.ask.new.asked
    c.in_ok-findings.findings.items c.in_ok-linked.linked c.requires.leaves c.requires.scripts c.requires.named c.requires.job c.in_ok-findings.ensures.asks
    c.in_ok-linked.ensures.linked c.in_ok-linked.ensures.holds

-- ---- the types that are asked for

pub returns-in_err-linked-clause-asked : goal.returns-in_err-linked-clause-asked
returns-in_err-linked-clause-asked g c =
    stopped-site (given_in c.ask.new.asked g.J.Run.given) c.args.scripts.now c.args.w.now.leaves.now c.args.job.now c.args.serial c.args.w.now c.link.new.w
    c.in_err-linked.field-0.0 c.from_residual-in_err-linked.result c.from_residual-in_err-linked.ensures.1 c.requires.scripts c.requires.leaves c.requires.named
    c.in_err-linked.ensures.asked

pub returns-clause-asked : goal.returns-clause-asked
returns-clause-asked g c =
    asked-site {A = Unit {0}} (given_in c.ask.new.asked g.J.Run.given) c.args.scripts.now c.args.w.now.leaves.now c.args.job.now c.args.serial c.args.w.now
    c.link.new.w (Ok tt) c.requires.scripts c.requires.leaves c.requires.named c.in_ok-linked.ensures.asked

-- ---- the constants

pub returns-clause-constants : goal.returns-clause-constants
returns-clause-constants g c =
    subst (λ fs. AsksConstants g.J.Run.given c.args.job.now c.args.asked.now c.ask.new.asked fs) (sym c.new.ensures.under) c.in_ok-findings.ensures.asks

-- no memory to resolve them

pub returns-in_err-findings-clause-goes_on : goal.returns-in_err-findings-clause-goes_on
returns-in_err-findings-clause-goes_on g c = goes_on-more 0 attempt_draws c.args.w.now c.args.w.now (omega arith) (goes_on-still c.args.w.now)

pub returns-in_err-findings-clause-types : goal.returns-in_err-findings-clause-types
returns-in_err-findings-clause-types g c = unresolved-adds c.args.w.now c.from_residual.result c.from_residual.ensures.1

pub returns-in_err-findings-clause-asks : goal.returns-in_err-findings-clause-asks
returns-in_err-findings-clause-asks g c = unresolved-asks c.args.w.now c.from_residual.result c.from_residual.ensures.1 _

pub returns-in_err-findings-clause-asked : goal.returns-in_err-findings-clause-asked
returns-in_err-findings-clause-asked g c =
    unresolved-types c.args.w.now c.from_residual.result c.from_residual.ensures.1
    (types_at (given_in c.ask.new.asked g.J.Run.given) c.args.job.now.site c.args.serial)

pub returns-in_err-findings-clause-before : goal.returns-in_err-findings-clause-before
returns-in_err-findings-clause-before g c =
    unresolved-before c.args.w.now c.from_residual.result c.from_residual.ensures.1 g.J.Run.given c.args.job.now c.args.asked.now c.ask.new.asked

-- there is memory to resolve them

pub returns-in_err-linked-clause-before : goal.returns-in_err-linked-clause-before
returns-in_err-linked-clause-before g c =
    resolved-before g.J.Run.given c.args.job.now c.args.asked.now c.ask.new.asked c.args.w.now.seat.now c.link.new.w.seat.now
    c.in_ok-findings.findings.items c.from_residual-in_err-linked.result c.in_ok-findings.ensures.asks

pub returns-clause-before : goal.returns-clause-before
returns-clause-before g c = (c.in_ok-findings.findings.items, c.in_ok-findings.ensures.asks)
