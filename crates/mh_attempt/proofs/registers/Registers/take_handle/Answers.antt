use Rattle.std.proofs.Common.{sym, ◌∙◌, ap, Some}
use Rattle.mh_attempt.proofs.assigned.OtherRegisters.{others-assigned, others-same}
use Rattle.mh_attempt.proofs.assigned.TakenRegisters.{handle-told, nought, number-replaces, taken-replaces}
use Rattle.mh_attempt.specs.declared.registers.Held.TheVariants as held
use Rattle.mh_attempt.proofs.registers.Registers.take_handle.Goals as goal

pub returns-in-Some-Handle-clause-stands : goal.returns-in-Some-Handle-clause-stands
returns-in-Some-Handle-clause-stands c leaves frame hold =
    let taken = c.in-Some-Handle in
    handle-told leaves frame c.args.name.now c.args.self.now hold taken.handle (ap Some (sym taken.field-0-is) ∙ taken.ensures.before)

pub returns-in-Some-Handle-clause-types : goal.returns-in-Some-Handle-clause-types
returns-in-Some-Handle-clause-types c w kept =
    let taken = c.in-Some-Handle in
    taken-replaces c.args.name (held.Handle taken.handle) c.args.self.now c.take.new.self w
    (ap Some (sym taken.field-0-is) ∙ taken.ensures.before) taken.ensures.assigned kept

pub returns-in-Some-Number-clause-types : goal.returns-in-Some-Number-clause-types
returns-in-Some-Number-clause-types c w kept =
    let taken = c.in-Some-Number in
    number-replaces c.args.name taken.field-0-0 c.args.self.now c.take.new.self w
    (ap Some (sym taken.field-0-is) ∙ taken.ensures.before) taken.ensures.assigned kept

-- ---- what other names have

pub returns-in-Some-Handle-clause-others : goal.returns-in-Some-Handle-clause-others
returns-in-Some-Handle-clause-others c =
    let taken = c.in-Some-Handle.ensures in
    others-assigned c.args.name nought c.args.self.now c.take.new.self taken.call taken.serial taken.assigned

pub returns-in-Some-Number-clause-others : goal.returns-in-Some-Number-clause-others
returns-in-Some-Number-clause-others c =
    let taken = c.in-Some-Number.ensures in
    others-assigned c.args.name nought c.args.self.now c.take.new.self taken.call taken.serial taken.assigned

pub returns-in-None-clause-others : goal.returns-in-None-clause-others
returns-in-None-clause-others c =
    let taken = c.in-None.ensures in
    others-same c.args.name.now c.args.self.now c.take.new.self taken.call taken.serial taken.assigned
