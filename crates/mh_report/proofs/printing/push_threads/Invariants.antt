use Rattle.std.proofs.Common.{◌≡◌, ◌++◌, drop}
use Rattle.mh_report.specs.Results.{results_said}
use Rattle.mh_report.specs.Text.{threads_text}
use Rattle.mh_report.proofs.printing.push_threads.Given as goal

abbrev pub invariant-loop-number : goal.invariant-loop-number
invariant-loop-number l =
    l.text.items ++ threads_text l.classes l.number (results_said (drop l.number l.threads)) ≡ l.initial.text.items ++ threads_text l.classes 0
    (results_said l.threads)
