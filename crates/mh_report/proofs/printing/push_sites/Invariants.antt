use Rattle.std.proofs.Common.{◌≡◌, ◌++◌, drop}
use Rattle.mh_report.specs.Text.{sites_text}
use Rattle.mh_report.proofs.printing.push_sites.Given as goal

abbrev pub invariant-loop-number : goal.invariant-loop-number
invariant-loop-number l =
    l.text.items ++ sites_text l.classes l.number (drop l.number l.table) ≡ l.initial.text.items ++ sites_text l.classes 0 l.table
