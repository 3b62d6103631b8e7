use Rattle.std.proofs.Common.{◌∙◌, ℕ, sym, ap, subst, arith}
use Rattle.std.proofs.lemmas.List.{take_rest}
use Rattle.mh_class_bytes.specs.Mutf8.{IsBadAt, unit_len}
use Rattle.mh_class_bytes.proofs.Texts.{bad_place, text_law}
use Rattle.mh_class_bytes.proofs.SoundLen.{sound_step, sound_stop, sound_end}
use Rattle.mh_class_bytes.proofs.text.mutf8_check.Goals as goal

pub returns-then-len-eq0-clause-place : goal.returns-then-len-eq0-clause-place
returns-then-len-eq0-clause-place c =
    let is = c.unit_len-len.ensures.value ∙ ap unit_len (take_rest c.args.bytes.now c.loop-at.at) in
    sound_stop c.args.bytes.now c.loop-at.at _ c.loop-at.invariant.1 (sym is ∙ c.if-len-eq0.true)

pub loop-at-preserved : goal.loop-at-preserved
loop-at-preserved c =
    let is = c.unit_len-len.ensures.value ∙ ap unit_len (take_rest c.args.bytes.now c.loop-at.at) in
    let within = c.unit_len-len.ensures.within in
    let step = sound_step c.args.bytes.now c.loop-at.at c.unit_len-len.result _ is c.loop-at.invariant.1 (omega arith) in
    let passed = c.pass_plain-at-in-loop-at.ensures in
    (passed.within, sym passed.passed ∙ step)

pub invariant_of-result : goal.invariant_of-result
invariant_of-result c = sound_end c.args.bytes.now c.loop-at.at c.loop-at.invariant.0 c.loop-at-test.false c.loop-at.invariant.1

pub returns-clause-whole : goal.returns-clause-whole
returns-clause-whole c = sound_end c.args.bytes.now c.loop-at.at c.loop-at.invariant.0 c.loop-at-test.false c.loop-at.invariant.1

pub returns-then-len-eq0-clause-refused : goal.returns-then-len-eq0-clause-refused
returns-then-len-eq0-clause-refused c =
    let p = returns-then-len-eq0-clause-place c in
    subst (λ (n : ℕ). IsBadAt c.args.bytes.now n) (sym p) (bad_place c.args.bytes.now (omega (arith, p)))

pub returns-clause-accepted : goal.returns-clause-accepted
returns-clause-accepted c = (text_law c.args.bytes.now).0 (returns-clause-whole c)
