use Rattle.std.proofs.Common.{◌≡◌, ◌++◌, codes, flat_map, take}
use Rattle.mh_texts.specs.Printed.{item_text}
use Rattle.mh_texts.proofs.printed.push_more.Given as goal

abbrev pub invariant-loop-item : goal.invariant-loop-item
invariant-loop-item l = l.bytes.items ≡ l.initial.bytes.items ++ flat_map (λ item. codes "," ++ item_text l.classes item) (take l.item-index l.items)
