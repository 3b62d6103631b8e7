use Rattle.std.proofs.Common.{◌≡◌, ◌≤◌, take, count_by, nat_lt}
use Rattle.std.specs.Mem.Slots.{slots_items}
use Rattle.mh_intern.proofs.holders.slots_in_use.Given as goal

abbrev pub invariant-loop-i : goal.invariant-loop-i
invariant-loop-i l = (l.count ≡ count_by (λ n. nat_lt 0 n) (take l.i (slots_items l.closed.words))) × (l.count ≤ l.i)
