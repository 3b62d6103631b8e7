use Rattle.std.proofs.Common.{◌≡◌, ◌∙◌, ap, ◌++◌, ◌+◌, suc, arith}
use Rattle.mh_bench.specs.Scripts.{file_text, script_text}
use Rattle.mh_bench.proofs.scripts.file_of.Goals as goal

pub loop-number-init : goal.loop-number-init
unfolding file_text
loop-number-init c = c.new-file.ensures.bytes

pub loop-number-preserved : goal.loop-number-preserved
unfolding file_text
loop-number-preserved c =
    let number = c.loop-number.number in
    let next : suc number ≡ number + 1 = omega arith in
    c.in_ok-push_script.ensures
    ∙ ap (λ text. text ++ script_text c.args.owner.now number) c.loop-number.invariant
    ∙ ap (file_text c.args.owner.now) next
