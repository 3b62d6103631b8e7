use Rattle.std.proofs.Common.{◌<◌, ◌≤◌, ◌+◌, refl, sym, subst, drop, length, arith, rules}
use Rattle.mh_base.proofs.Lists.{drop_item}
use Rattle.mh_script.specs.Limits.{CanDivide}
use Rattle.mh_attempt.proofs.assigned.RegisterContents.{drop-all}
use Rattle.mh_attempt.proofs.running.RunEnds.{run-ends}
use Rattle.mh_attempt.proofs.running.RunFails.{run-fails}
use Rattle.mh_attempt.proofs.running.RunLines.{HasRun, run-next, run-none}
use Rattle.mh_attempt.proofs.running.NextLine.{next-kept, next-ready, next-serial, next-some}
use Rattle.mh_attempt.proofs.script.run_lines.Goals as goal

pub loop-step-init : goal.loop-step-init
loop-step-init g c = run-none c.args.steps.now c.args.end.now c.args.registers.now c.args.w.now c.requires.kept

-- ---- a line

pub run_line-requires-clause-ready : goal.run_line-requires-clause-ready
run_line-requires-clause-ready g c =
    let i = c.loop-step.step-index in
    let within : i < length c.args.steps.now = search rules in
    next-ready i c.args.steps.now (drop i c.args.steps.now) c.args.end.now c.args.registers.now c.loop-step.registers c.args.w.now c.loop-step.w c.requires
    c.loop-step.invariant 4 (omega (arith, within))

pub run_line-requires-clause-registers : goal.run_line-requires-clause-registers
run_line-requires-clause-registers g c =
    let i = c.loop-step.step-index in
    next-some i c.args.steps.now (drop i c.args.steps.now) c.args.end.now c.args.registers.now c.loop-step.registers c.args.w.now c.loop-step.w c.requires
    c.loop-step.invariant

pub run_line-requires-clause-kept : goal.run_line-requires-clause-kept
run_line-requires-clause-kept g c =
    let i = c.loop-step.step-index in
    next-kept i c.args.steps.now (drop i c.args.steps.now) c.args.end.now c.args.registers.now c.loop-step.registers c.args.w.now c.loop-step.w c.requires
    c.loop-step.invariant

pub run_line-requires-clause-divides : goal.run_line-requires-clause-divides
run_line-requires-clause-divides g c =
    let i = c.loop-step.step-index in
    let within : i < length c.args.steps.now = search rules in
    subst CanDivide (sym c.step-item.is) (c.requires.divide i c.step-item.result within)

pub run_line-requires-clause-serial : goal.run_line-requires-clause-serial
run_line-requires-clause-serial g c =
    let i = c.loop-step.step-index in
    next-serial i c.args.steps.now (drop i c.args.steps.now) c.args.end.now c.args.registers.now c.loop-step.registers c.args.w.now c.loop-step.w c.requires
    c.loop-step.invariant

pub loop-step-preserved : goal.loop-step-preserved
loop-step-preserved g c =
    let steps = c.args.steps.now in
    let i = c.loop-step.step-index in
    let within : i < length steps = search rules in
    run-next i (i + 1) steps (drop (i + 1) steps) c.step-item.result c.args.end.now c.args.registers.now c.loop-step.registers c.run_line.new.registers
    c.args.w.now c.loop-step.w c.run_line.new.w c.in_ok-run_line.field-0 refl
    (subst (λ l. HasRun i steps l c.args.end.now c.args.registers.now c.loop-step.registers c.args.w.now c.loop-step.w)
    (drop_item steps i c.step-item.result within c.step-item.is) c.loop-step.invariant) c.in_ok-run_line.ensures

pub returns-in_err-run_line : goal.returns-in_err-run_line
returns-in_err-run_line g c =
    let steps = c.args.steps.now in
    let i = c.loop-step.step-index in
    let within : i < length steps = search rules in
    run-fails i steps (drop (i + 1) steps) c.step-item.result c.args.end.now c.args.registers.now c.loop-step.registers c.run_line.new.registers
    c.args.w.now c.loop-step.w c.run_line.new.w c.in_err-run_line.field-0.0 c.from_residual.result c.from_residual.ensures.1 (omega (arith, within))
    (subst (λ l. HasRun i steps l c.args.end.now c.args.registers.now c.loop-step.registers c.args.w.now c.loop-step.w)
    (drop_item steps i c.step-item.result within c.step-item.is) c.loop-step.invariant) c.in_err-run_line.ensures

-- ---- the last line

pub run_end-requires-clause-ready : goal.run_end-requires-clause-ready
run_end-requires-clause-ready g c =
    let i = c.loop-step.step-index in
    let within : i ≤ length c.args.steps.now = search rules in
    next-ready i c.args.steps.now (drop i c.args.steps.now) c.args.end.now c.args.registers.now c.loop-step.registers c.args.w.now c.loop-step.w c.requires
    c.loop-step.invariant 1 (omega (arith, within))

pub run_end-requires-clause-registers : goal.run_end-requires-clause-registers
run_end-requires-clause-registers g c =
    let i = c.loop-step.step-index in
    next-some i c.args.steps.now (drop i c.args.steps.now) c.args.end.now c.args.registers.now c.loop-step.registers c.args.w.now c.loop-step.w c.requires
    c.loop-step.invariant

pub run_end-requires-clause-kept : goal.run_end-requires-clause-kept
run_end-requires-clause-kept g c =
    let i = c.loop-step.step-index in
    next-kept i c.args.steps.now (drop i c.args.steps.now) c.args.end.now c.args.registers.now c.loop-step.registers c.args.w.now c.loop-step.w c.requires
    c.loop-step.invariant

pub returns : goal.returns
returns g c =
    let steps = c.args.steps.now in
    let i = c.loop-step.step-index in
    let within : i ≤ length steps = search rules in
    let past : length steps ≤ i = search rules in
    let last = c.run_end.ensures in
    run-ends i steps c.args.end.now c.args.registers.now c.loop-step.registers c.run_end.new.registers c.args.w.now c.loop-step.w c.run_end.new.w
    c.run_end.result
    (omega (arith, within))
    (subst (λ l. HasRun i steps l c.args.end.now c.args.registers.now c.loop-step.registers c.args.w.now c.loop-step.w) (drop-all steps i past)
    c.loop-step.invariant)
    (record { goes_on = last.goes_on; types = last.types; node = last.node; asks = last.asks; asked = last.asked })
