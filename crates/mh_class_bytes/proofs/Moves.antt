-- A cursor that moved on, and then moved on again.
use Rattle.std.proofs.Common.{◌∙◌, arith}
use Rattle.mh_class_bytes.specs.Position.{Position}
use Rattle.mh_class_bytes.specs.Bytes.{MovesOn}

pub moves_again : {first second third : Position} → MovesOn first second → MovesOn second third → MovesOn first third
moves_again one two = record { bytes = two.bytes ∙ one.bytes; onward = omega (arith, one.onward, two.onward) }
