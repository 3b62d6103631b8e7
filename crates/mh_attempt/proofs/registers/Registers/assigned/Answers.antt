use Rattle.std.proofs.Common.{sym, ◌∙◌, ap, subst, List, Some}
use Rattle.std.specs.Prelude.{option_map}
use Rattle.mh_link.specs.Operands.{last_assigned}
use Rattle.mh_attempt.specs.declared.registers.Assignment.{Assignment}
use Rattle.mh_attempt.specs.Registers.{HoldsLast, held_under}
use Rattle.mh_attempt.proofs.assigned.RegisterContents.{last-content}
use Rattle.mh_attempt.proofs.assigned.AssignedHolds.{found-kept}
use Rattle.mh_attempt.proofs.registers.Registers.assigned.Goals as goal

pub returns-in-Some-clause-holds : goal.returns-in-Some-clause-holds
returns-in-Some-clause-holds c leaves frame hold =
    let last = last_assigned c.args.name.now frame.assigned in
    last-content leaves c.in-Some.held.now c.content_held.result last
    (subst (λ (l : List Assignment). HoldsLast leaves (held_under c.args.name.now l) last → HoldsLast leaves (Some c.in-Some.held.now) last)
    c.as_slice.ensures.value
    (subst (λ o. HoldsLast leaves o last) (sym c.held_under.ensures ∙ ap (option_map (λ h. h.now)) c.in-Some.is)) (hold.assigned.under c.args.name.now))
    (c.content_held.ensures.holds leaves)

pub returns-in-Some-clause-kept : goal.returns-in-Some-clause-kept
returns-in-Some-clause-kept c seat kept =
    c.content_held.ensures.kept seat
    (found-kept seat c.args.name.now c.args.self.now.assigned.items c.in-Some.held.now
    (ap (held_under c.args.name.now) (sym c.as_slice.ensures.value) ∙ (sym c.held_under.ensures ∙ ap (option_map (λ h. h.now)) c.in-Some.is)) kept)
