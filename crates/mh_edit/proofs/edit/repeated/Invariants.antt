use Rattle.std.proofs.Common.{◌≡◌}
use Rattle.std.specs.Prelude.{replicate}
use Rattle.mh_edit.proofs.edit.repeated.Given as goal

abbrev pub invariant-loop : goal.invariant-loop
invariant-loop l = l.basics ≡ replicate l.counter l.basic
