-- What the answer of a check says about the rule that it checks.
use Rattle.std.specs.Prelude.{◌≡◌, Result, Ok, Err}
use Rattle.mh_values.specs.declared.types.MethodTy.{MethodTy}
use Rattle.mh_tree.specs.declared.error.CheckError.{CheckError}
use Rattle.mh_tree.specs.declared.error.CheckError.TheVariants as check
use Rattle.mh_tree.specs.Rows.{TypeOrRefusal}

-- The answer has the same type or the same exception as the rule. If memory runs out, it says nothing about the rule.
abbrev pub TellsRow : Result MethodTy CheckError → TypeOrRefusal → Type 0
TellsRow (Ok t) row = row ≡ Ok t
TellsRow (Err (check.Refused e)) row = row ≡ Err e
TellsRow (Err check.NoMemory) row = Unit {0}
