use Rattle.std.proofs.Common.{◌≡◌, sym, ◌∙◌, subst, None, Some}
use Rattle.std.specs.Prelude.{position}
use Rattle.mh_attempt.specs.Registers.{is_named}
use Rattle.mh_attempt.proofs.assigned.Assigning.{found-nowhere, replaced-before, replaced-now}
use Rattle.mh_attempt.proofs.assigned.TakenRegisters.{nought}
use Rattle.mh_attempt.proofs.registers.Registers.take.Goals as goal

pub returns-in-Some-clause-before : goal.returns-in-Some-clause-before
returns-in-Some-clause-before c =
    replaced-before c.args.name nought c.args.self.now.assigned.items c.in-Some.place c.index_mut.result.now c.replace.result
    (subst (λ l. position (is_named c.args.name.now) l ≡ Some c.in-Some.place) c.as_slice.ensures.value (sym c.place_of.ensures ∙ c.in-Some.is))
    (c.index_mut.ensures.value) c.replace.ensures.value

pub returns-in-Some-clause-assigned : goal.returns-in-Some-clause-assigned
returns-in-Some-clause-assigned c =
    replaced-now c.args.name nought c.args.self.now.assigned.items c.in-Some.place c.index_mut.result.now c.replace.new.dest
    (subst (λ l. position (is_named c.args.name.now) l ≡ Some c.in-Some.place) c.as_slice.ensures.value (sym c.place_of.ensures ∙ c.in-Some.is))
    (c.index_mut.ensures.value) c.replace.ensures.after

pub returns-in-None-clause-before : goal.returns-in-None-clause-before
returns-in-None-clause-before c =
    sym (found-nowhere c.args.name nought c.args.self.now.assigned.items
    (subst (λ l. position (is_named c.args.name.now) l ≡ None) c.as_slice.ensures.value (sym c.place_of.ensures ∙ c.in-None.is))).0
