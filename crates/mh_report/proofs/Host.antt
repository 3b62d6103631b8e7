-- Scripts of the worked examples: they link sites to the leaf `add` of `demo/Host`.
use Rattle.std.specs.Prelude.{[], ◌∷◌, codes, pos}
use Rattle.mh_script.specs.declared.operand.ValueOperand.TheVariants as of_value
use Rattle.mh_script.specs.declared.script.Operation.TheVariants as operation
use Rattle.mh_script.specs.declared.script.Script.{Script}
use Rattle.mh_script.specs.declared.script.Step.TheVariants as step
use Rattle.mh_link.proofs.worked.Host.{add, boxed_int, reg, returns, script}

-- `let a leaf @add`, `let b bind a 1 I:10`, `return b`
abbrev pub adding_ten : Script
adding_ten = script (step.Let (codes "a") add ∷ step.Let (codes "b") (operation.Bind (reg (codes "a")) 1
    (of_value.Literal (boxed_int (pos 10)))) ∷ []) (returns (codes "b"))

-- `failmod 2 1`, `let a leaf @add`, `return a`: the first attempt fails
abbrev pub adding_later : Script
adding_later = script (step.FailMod 2 1 ∷ step.Let (codes "a") add ∷ []) (returns (codes "a"))
