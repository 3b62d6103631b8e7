use Rattle.std.proofs.Common.{◌≡◌, ◌++◌, take}
use Rattle.std.specs.List.{flat_map}
use Rattle.mh_report.specs.Results.{result_said}
use Rattle.mh_report.specs.Text.{result_line}
use Rattle.mh_report.proofs.printing.push_answers.Given as goal

abbrev pub invariant-loop-answer : goal.invariant-loop-answer
invariant-loop-answer l =
    l.text.items ≡ l.initial.text.items ++ flat_map (λ answer. result_line l.classes (result_said answer)) (take l.answer-index l.answers)
