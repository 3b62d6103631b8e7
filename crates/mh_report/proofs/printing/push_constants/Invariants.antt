use Rattle.std.proofs.Common.{◌≡◌, ◌++◌, drop}
use Rattle.mh_report.specs.Text.{constants_text}
use Rattle.mh_report.proofs.printing.push_constants.Given as goal

abbrev pub invariant-loop-number : goal.invariant-loop-number
invariant-loop-number l =
    l.text.items ++ constants_text l.classes l.number (drop l.number l.rows) ≡ l.initial.text.items ++ constants_text l.classes 0 l.rows
