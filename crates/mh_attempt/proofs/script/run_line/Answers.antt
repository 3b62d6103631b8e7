use Rattle.std.proofs.Common.{sym, subst, Ok}
use Rattle.mh_attempt.specs.Runs.{RunsStep}
use Rattle.mh_attempt.proofs.types.Adding.{of-types}
use Rattle.mh_attempt.proofs.running.RunSteps.{let-runs, pass-runs, serial-runs}
use Rattle.mh_attempt.proofs.assigned.RoomyRegisters.{made-kept, number-kept, roomy-kept, roomy-some}
use Rattle.mh_attempt.proofs.running.FailedSteps.{node-fails, pass-fails, reserve-fails}
use Rattle.mh_attempt.proofs.script.run_line.Goals as goal

-- ---- `let`

pub returns-in_err-reserve-in-Let : goal.returns-in_err-reserve-in-Let
returns-in_err-reserve-in-Let g c =
    reserve-fails c.args.step.now c.args.registers.now c.reserve.new.self c.args.w.now c.from_residual.result c.from_residual.ensures.1
    c.in_err-reserve-in-Let.ensures.same c.requires.kept

pub node-requires-clause-registers : goal.node-requires-clause-registers
node-requires-clause-registers g c =
    roomy-some c.args.w.now.leaves.now c.args.registers.now c.reserve.new.self c.in_ok-reserve-in-Let.ensures.same c.requires.registers

pub node-requires-clause-kept : goal.node-requires-clause-kept
node-requires-clause-kept g c =
    roomy-kept c.args.w.now c.args.registers.now c.reserve.new.self c.in_ok-reserve-in-Let.ensures.same c.requires.kept

pub returns-in_err-handle-in-Let : goal.returns-in_err-handle-in-Let
returns-in_err-handle-in-Let g c =
    let made = c.in_err-handle-in-Let.ensures in
    subst (λ s. RunsStep s c.args.registers.now c.node.new.registers c.args.w.now c.node.new.w c.from_residual-in_err-handle-in-Let.result) (sym c.in-Let.is)
    (node-fails c.in-Let.name c.in-Let.operation c.as_slice-name.result.now c.args.registers.now c.reserve.new.self c.node.new.registers c.args.w.now
    c.node.new.w c.in_err-handle-in-Let.field-0.0 c.from_residual-in_err-handle-in-Let.result c.from_residual-in_err-handle-in-Let.ensures.1
    c.in_ok-reserve-in-Let.ensures.same (record { goes_on = made.goes_on; types = made.types; others = made.others; line = made.line }))

pub assign-requires-clause-of_types : goal.assign-requires-clause-of_types
assign-requires-clause-of_types g c = of-types 4 4 c.args.w.now c.node.new.w c.in_ok-handle-in-Let.ensures.goes_on c.requires.ready

pub assign-requires-clause-kept : goal.assign-requires-clause-kept
assign-requires-clause-kept g c =
    made-kept c.args.registers.now c.reserve.new.self c.node.new.registers c.in_ok-handle-in-Let.handle c.args.w.now c.node.new.w
    c.in_ok-reserve-in-Let.ensures.same
    c.requires.kept c.in_ok-handle-in-Let.ensures.types

pub returns-in_ok-handle-in-Let : goal.returns-in_ok-handle-in-Let
returns-in_ok-handle-in-Let g c =
    let made = c.in_ok-handle-in-Let.ensures in
    let given = c.assign.ensures in
    subst (λ s. RunsStep s c.args.registers.now c.assign.new.self c.args.w.now c.assign.new.w (Ok tt)) (sym c.in-Let.is)
    (let-runs c.in-Let.name c.in-Let.operation c.as_slice-name.result c.in_ok-handle-in-Let.handle c.args.registers.now c.reserve.new.self c.node.new.registers
    c.assign.new.self c.args.w.now c.node.new.w c.assign.new.w c.as_slice-name.ensures c.in_ok-reserve-in-Let.ensures.same c.requires.kept
    (record { goes_on = made.goes_on; types = made.types; others = made.others; line = made.line })
    (record { call = given.call; serial = given.serial; assigned = given.assigned; unchanged = given.unchanged; types = given.types }))

-- ---- `serial`

pub returns-in_err-reserve-in-Serial : goal.returns-in_err-reserve-in-Serial
returns-in_err-reserve-in-Serial g c =
    reserve-fails c.args.step.now c.args.registers.now c.reserve-in-Serial.new.self c.args.w.now c.from_residual-in_err-reserve-in-Serial.result
    c.from_residual-in_err-reserve-in-Serial.ensures.1 c.in_err-reserve-in-Serial.ensures.same c.requires.kept

pub assign-requires-in-Serial-clause-of_types : goal.assign-requires-in-Serial-clause-of_types
assign-requires-in-Serial-clause-of_types g c = c.requires.ready.of_types

pub assign-requires-in-Serial-clause-kept : goal.assign-requires-in-Serial-clause-kept
assign-requires-in-Serial-clause-kept g c =
    number-kept c.args.registers.now c.reserve-in-Serial.new.self c.args.w.now c.in_ok-reserve-in-Serial.ensures.same c.requires.kept

pub returns-in_ok-reserve-in-Serial : goal.returns-in_ok-reserve-in-Serial
returns-in_ok-reserve-in-Serial g c =
    let given = c.assign-in-Serial.ensures in
    subst (λ s. RunsStep s c.args.registers.now c.assign-in-Serial.new.self c.args.w.now c.assign-in-Serial.new.w (Ok tt)) (sym c.in-Serial.is)
    (serial-runs c.in-Serial.name c.as_slice.result c.args.registers.now c.reserve-in-Serial.new.self c.assign-in-Serial.new.self
    c.args.w.now c.assign-in-Serial.new.w c.as_slice.ensures c.in_ok-reserve-in-Serial.ensures.same c.requires.kept
    (rw c.in_ok-reserve-in-Serial.ensures.same.serial c.requires.serial)
    (record { call = given.call; serial = given.serial; assigned = given.assigned; unchanged = given.unchanged; types = given.types }))

-- ---- `failmod`

pub returns-in_err-pass-in-FailMod : goal.returns-in_err-pass-in-FailMod
returns-in_err-pass-in-FailMod g c =
    subst (λ s. RunsStep s c.args.registers.now c.args.registers.now c.args.w.now c.args.w.now c.from_residual-in_err-pass-in-FailMod.result)
    (sym c.in-FailMod.is)
    (pass-fails c.in-FailMod.modulus c.in-FailMod.remainder c.args.registers.now c.args.w.now c.in_err-pass-in-FailMod.field-0.0
    c.from_residual-in_err-pass-in-FailMod.result c.from_residual-in_err-pass-in-FailMod.ensures.1 c.requires.kept c.in_err-pass-in-FailMod.ensures)

pub returns-in_ok-pass-in-FailMod : goal.returns-in_ok-pass-in-FailMod
returns-in_ok-pass-in-FailMod g c =
    subst (λ s. RunsStep s c.args.registers.now c.args.registers.now c.args.w.now c.args.w.now (Ok tt)) (sym c.in-FailMod.is)
    (pass-runs c.in-FailMod.modulus c.in-FailMod.remainder c.args.registers.now c.args.w.now c.in_ok-pass-in-FailMod.field-0 c.requires.kept
    c.in_ok-pass-in-FailMod.ensures)
