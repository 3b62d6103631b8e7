-- Numbers as they are written in the plan that is made are read back.
use Rattle.std.proofs.Common.{◌≡◌, ap, ℕ, ◌^◌, ◌<◌, pos, List, ◌++◌, codes, Some}
use Rattle.std.proofs.lemmas.Bool.{lt-ltb}
use Rattle.std.specs.Prelude.{option_map}
use Rattle.std.specs.Fmt.{decimal}
use Rattle.mh_values.specs.declared.class.Class.{Class}
use Rattle.mh_values.specs.declared.value.Num.TheVariants as num
use Rattle.mh_values.specs.declared.value.Value.{Value}
use Rattle.mh_values.specs.declared.value.Value.TheVariants as value
use Rattle.mh_values.specs.declared.value.Cell.TheVariants as cell
use Rattle.mh_values.specs.Array.{value_of_item}
use Rattle.mh_texts.specs.Literal.{literal_of}
use Rattle.mh_texts.proofs.NumberTrip.{number_trip}

-- an int
abbrev pub int : ℕ → Value
int n = value.Prim (num.I (pos n))

-- the literal of an int
pub literal-read : (classes : List Class) (n : ℕ) → n < 2 ^ 31 → literal_of classes (codes "i:" ++ decimal n) ≡ Some (int n)
literal-read classes n small = ap (λ o. option_map value_of_item (option_map cell.Prim o)) (number_trip (num.I (pos n)) (lt-ltb n (2 ^ 31) small))
