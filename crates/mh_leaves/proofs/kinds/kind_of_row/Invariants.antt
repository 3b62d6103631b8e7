use Rattle.std.proofs.Common.{◌≡◌, drop}
use Rattle.mh_leaves.specs.Kinds.{rows_of, kind_of_row}
use Rattle.mh_leaves.proofs.kinds.kind_of_row.Given as goal

abbrev pub invariant-loop-own : goal.invariant-loop-own
invariant-loop-own l = kind_of_row (rows_of (drop l.own-index l.rows)) l.word ≡ kind_of_row (rows_of l.rows) l.word
