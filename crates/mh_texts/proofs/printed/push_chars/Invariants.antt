use Rattle.std.proofs.Common.{◌≡◌, ◌++◌, length}
use Rattle.mh_texts.specs.Text.{escaped}
use Rattle.mh_texts.proofs.printed.push_chars.Given as goal

abbrev pub decreases-loop-rest : goal.decreases-loop-rest
decreases-loop-rest l = length l.rest

abbrev pub invariant-loop-rest : goal.invariant-loop-rest
invariant-loop-rest l = l.bytes.items ++ escaped l.rest ≡ l.initial.bytes.items ++ escaped l.text
