use Rattle.std.proofs.Common.{◌≡◌, drop}
use Rattle.mh_values.specs.Grammar.{first_bad}
use Rattle.mh_values.proofs.descriptor.text_from.Given as goal

abbrev pub invariant-loop-at : goal.invariant-loop-at
invariant-loop-at l = first_bad l.at l.standing (drop l.at l.bytes) ≡ first_bad 0 l.fn.start l.bytes
