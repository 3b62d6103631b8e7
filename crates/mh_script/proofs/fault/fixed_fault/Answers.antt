use Rattle.std.proofs.Common.{◌∙◌, sym, ℕ, List, Bor, map, arith}
use Rattle.std.proofs.lemmas.List.{length-map}
use Rattle.mh_script.proofs.OtherCounts.{fixed_fault-one, fixed_fault-two, fixed_fault-three, fixed_fault-more}
use Rattle.mh_script.proofs.fault.fixed_fault.Goals as goal

pub returns-in-None : goal.returns-in-None
returns-in-None c =
    sym (fixed_fault-one c.args.classes.now c.args.steps.now c.args.word.now (map (λ (t : Bor (List ℕ)). t.now) c.args.operands.now)
    (simp length-map (omega arith)) (sym c.one_form.ensures ∙ c.in-None.is))

pub returns-in-None-two_form : goal.returns-in-None-two_form
returns-in-None-two_form c =
    sym (fixed_fault-two c.args.classes.now c.args.steps.now c.args.word.now (map (λ (t : Bor (List ℕ)). t.now) c.args.operands.now)
    (simp length-map (omega arith)) (sym c.two_form.ensures ∙ c.in-None-two_form.is))

pub returns-in-None-three_form : goal.returns-in-None-three_form
returns-in-None-three_form c =
    sym (fixed_fault-three c.args.classes.now c.args.steps.now c.args.word.now (map (λ (t : Bor (List ℕ)). t.now) c.args.operands.now)
    (simp length-map (omega arith)) (sym c.three_form.ensures ∙ c.in-None-three_form.is))

pub returns-in_default : goal.returns-in_default
returns-in_default c =
    sym (fixed_fault-more c.args.classes.now c.args.steps.now c.args.word.now (map (λ (t : Bor (List ℕ)). t.now) c.args.operands.now)
    (simp length-map (omega arith)))
