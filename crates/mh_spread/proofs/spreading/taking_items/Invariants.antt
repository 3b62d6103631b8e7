use Rattle.std.proofs.Common.{◌≡◌, ◌++◌, take, replicate}
use Rattle.mh_values.specs.Array.{item_type}
use Rattle.mh_spread.proofs.spreading.taking_items.Given as goal

-- the parameters that stay, and so many items
abbrev pub invariant-loop : goal.invariant-loop
invariant-loop l = l.params.items ≡ take l.kept l.own.params ++ replicate l.counter (item_type l.component)
