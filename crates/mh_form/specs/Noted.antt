-- The arguments of a leaf call, as values.
use Rattle.std.specs.Prelude.{List, [], Option, None, Some}
use Rattle.mh_values.specs.declared.value.Value.{Value}

-- the values, if all are there; otherwise none
abbrev pub or_none : Option (List Value) → List Value
or_none (Some vs) = vs
or_none None = []
