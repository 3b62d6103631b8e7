-- The items of a list that no longer changes.
use Rattle.std.specs.Prelude.{List, []}
use Rattle.mh_base.specs.declared.frozen.Kept.{Kept}
use Rattle.mh_base.specs.declared.frozen.Kept.TheVariants.{Nothing, Items}

module _ {T : Type 0} where
  -- the items that are kept
  abbrev pub kept_items : Kept T → List T
  kept_items Nothing = []
  kept_items (Items xs) = xs
