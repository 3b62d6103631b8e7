use Rattle.std.proofs.Common.{sym, ◌∙◌}
use Rattle.mh_intern.proofs.HeldLists.{held-first}
use Rattle.mh_attempt.specs.Registers.{holds_in, holds_of}
use Rattle.mh_attempt.proofs.assigned.RegisterTypes.{assigned-none, assigned-some}
use Rattle.mh_attempt.proofs.assigned.AssignedHolds.{found-kept}
use Rattle.mh_attempt.proofs.registers.Registers.assign.Goals as goal

pub give_back-requires-clause-held : goal.give_back-requires-clause-held
give_back-requires-clause-held c =
    found-kept c.args.w.now.seat.now c.args.name.now c.args.self.now.assigned.items c.in-Some.before (sym c.exchange.ensures.before ∙ c.in-Some.is)
    (held-first c.args.w.now.seat.now (holds_in c.args.self.now.assigned.items) (holds_of c.args.held) c.requires.kept)

pub returns-in-Some-clause-types : goal.returns-in-Some-clause-types
returns-in-Some-clause-types c =
    assigned-some c.args.name c.args.held c.in-Some.before c.args.self.now.assigned.items c.exchange.new.self.assigned.items c.args.w.now.seat.now
    c.give_back.new.w.seat.now c.exchange.ensures.assigned c.requires.kept (sym c.in-Some.is ∙ c.exchange.ensures.before) c.give_back.ensures.types

pub returns-in_default-clause-types : goal.returns-in_default-clause-types
returns-in_default-clause-types c =
    assigned-none c.args.name c.args.held c.args.self.now.assigned.items c.exchange.new.self.assigned.items c.args.w.now.seat.now
    c.exchange.ensures.assigned c.requires.kept (sym c.in_default.is ∙ c.exchange.ensures.before)
