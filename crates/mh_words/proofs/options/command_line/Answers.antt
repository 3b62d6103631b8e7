use Rattle.std.proofs.lemmas.Result.{IfOk-weaker}
use Rattle.mh_words.proofs.Builders.{added, unnamed}
use Rattle.mh_words.proofs.options.command_line.Goals as goal

pub returns : goal.returns
returns c =
    let bare = unnamed _ _ _ c.no_binary_name.ensures c.new.ensures.app in
    let mode = added _ _ _ _ _ c.in_ok-arg.ensures c.option.ensures.local c.option.ensures.rule bare in
    let leaves = added _ _ _ _ _ c.in_ok-arg-2.ensures c.option-2.ensures.local c.option-2.ensures.rule mode in
    let scripts = added _ _ _ _ _ c.in_ok-arg-3.ensures c.option-3.ensures.local c.option-3.ensures.rule leaves in
    let plan = added _ _ _ _ _ c.in_ok-arg-4.ensures c.option-4.ensures.local c.option-4.ensures.rule scripts in
    let number = added _ _ _ _ _ c.in_ok-arg-5.ensures c.option-5.ensures.local c.option-5.ensures.rule plan in
    let prelink = added _ _ _ _ _ c.in_ok-arg-6.ensures c.option-6.ensures.local c.option-6.ensures.rule number in
    IfOk-weaker c.arg-7.result _ _ (λ command step. added _ command _ _ _ step c.classes.ensures.local c.classes.ensures.rule prelink) c.arg-7.ensures
