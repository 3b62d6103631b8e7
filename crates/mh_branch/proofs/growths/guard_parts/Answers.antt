use Rattle.std.proofs.Common.{[], ◌++◌, sym, subst}
use Rattle.mh_intern.specs.Exchanges.{AreHeld, Exchanges}
use Rattle.mh_intern.proofs.HeldLists.{held-first}
use Rattle.mh_handle.specs.Parts.{PartsView}
use Rattle.mh_handle.proofs.holding.HoldOrders.{exchanges-back}
use Rattle.mh_handle.proofs.holding.BackwardHolds.{second-yet}
use Rattle.mh_branch.proofs.Growing.{guard-all}
use Rattle.mh_branch.proofs.growths.guard_parts.Goals as goal

pub returns-in-Ok-clause-parts : goal.returns-in-Ok-clause-parts
returns-in-Ok-clause-parts c =
    guard-all c.new-none.result c.in-Ok.parts c.new-none.ensures c.with_two.result c.args.branches.test c.args.branches.target c.args.branches.fallback
    c.in-Ok.ensures.adds c.with_two.ensures.adds

pub with_part-requires-clause-held : goal.with_part-requires-clause-held
with_part-requires-clause-held c =
    let seat = c.args.w.now.seat.now in
    let test = c.args.branches.test.held in
    let target = c.args.branches.target.held in
    subst (λ (p : PartsView). AreHeld seat (p.held ++ test)) (sym c.new-none.ensures)
    (held-first seat test target (held-first seat (test ++ target) c.args.branches.fallback.held c.requires.held))

pub give_back-requires-clause-held : goal.give_back-requires-clause-held
give_back-requires-clause-held c =
    let seat = c.args.w.now.seat.now in
    let first = c.with_part.new.w.seat.now in
    let test = c.args.branches.test.held in
    let target = c.args.branches.target.held in
    second-yet test target seat first (held-first seat (test ++ target) c.args.branches.fallback.held c.requires.held)
    (subst (λ (p : PartsView). Exchanges [] (p.held ++ test) [] seat first) c.new-none.ensures c.in-Err.ensures.types)

pub give_back-requires-in-Err-clause-held : goal.give_back-requires-in-Err-clause-held
give_back-requires-in-Err-clause-held c =
    let seat = c.args.w.now.seat.now in
    let first = c.with_part.new.w.seat.now in
    let second = c.give_back.new.w.seat.now in
    let test = c.args.branches.test.held in
    let target = c.args.branches.target.held in
    second-yet (test ++ target) c.args.branches.fallback.held seat second c.requires.held
    (exchanges-back test target seat first second
    (subst (λ (p : PartsView). Exchanges [] (p.held ++ test) [] seat first) c.new-none.ensures c.in-Err.ensures.types) c.give_back.ensures.types)

pub returns-in-Err-clause-types : goal.returns-in-Err-clause-types
returns-in-Err-clause-types c =
    let seat = c.args.w.now.seat.now in
    let first = c.with_part.new.w.seat.now in
    let second = c.give_back.new.w.seat.now in
    let test = c.args.branches.test.held in
    let target = c.args.branches.target.held in
    exchanges-back (test ++ target) c.args.branches.fallback.held seat second c.give_back-in-Err.new.w.seat.now
    (exchanges-back test target seat first second
    (subst (λ (p : PartsView). Exchanges [] (p.held ++ test) [] seat first) c.new-none.ensures c.in-Err.ensures.types) c.give_back.ensures.types)
    c.give_back-in-Err.ensures.types
