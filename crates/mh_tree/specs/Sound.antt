-- Soundness: what runs on arguments of its type ends as the type says.
use Rattle.std.specs.Prelude.{ℕ, List}
use Rattle.mh_values.specs.declared.class.Class.{Class}
use Rattle.mh_values.specs.declared.types.MethodTy.{MethodTy}
use Rattle.mh_values.specs.declared.value.Value.{Value}
use Rattle.mh_values.specs.HasType.{HaveTypes}
use Rattle.mh_values.specs.Returns.{Returns}
use Rattle.mh_tree.specs.Meaning.{Done}

-- what runs on arguments, after a number of earlier leaf calls
abbrev pub Body : Type 0
Body = List Value → ℕ → Done

-- On arguments of the parameter types, it returns a value of the return type or throws an exception. It is never stuck.
abbrev pub IsSound : List Class → Body → MethodTy → Type 0
IsSound classes body t = (args : List Value) (n : ℕ) → HaveTypes classes args t.params → Returns classes (body args n) t.ret
