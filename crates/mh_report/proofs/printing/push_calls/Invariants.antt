use Rattle.std.proofs.Common.{◌≡◌, ◌++◌, ◌≤◌, take}
use Rattle.mh_report.specs.Text.{calls_text}
use Rattle.mh_report.proofs.printing.push_calls.Given as goal

-- the text of the calls so far, of which there is one at least
abbrev pub invariant-loop-at : goal.invariant-loop-at
invariant-loop-at l =
    record {
      some : 1 ≤ l.at;
      text : l.text.items ≡ l.fn.text.items ++ calls_text (take l.at l.calls);
    }
