use Rattle.std.proofs.Common.{◌≡◌, ◌++◌, map, drop, option_map}
use Rattle.mh_texts.specs.Literal.{items_of}
use Rattle.mh_texts.proofs.literal.read_items.Given as goal

abbrev pub invariant-loop-text : goal.invariant-loop-text
invariant-loop-text l = items_of l.classes l.component (map (λ x. x.now) l.texts) ≡ option_map (λ items. l.items ++ items)
    (items_of l.classes l.component (map (λ x. x.now) (drop l.text-index l.texts)))
