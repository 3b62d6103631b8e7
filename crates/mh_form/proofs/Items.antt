-- The items of values, one after another.
use Rattle.std.proofs.Common.{◌≡◌, ap, ◌∙◌, ℕ, List, ◌++◌, Option, Some, None, map}
use Rattle.std.specs.Prelude.{slice_get}
use Rattle.std.specs.Option.{option_map}
use Rattle.std.proofs.lemmas.Option.{slice_get-map}
use Rattle.mh_values.specs.declared.value.Cell.{Cell}
use Rattle.mh_values.specs.Array.{value_of_item}
use Rattle.mh_form.specs.Erasure.{erased}

-- these items, and then those of the values that are left
abbrev pub items_on : List Cell → Option (List Cell) → Option (List Cell)
items_on cs None = None
items_on cs (Some ds) = Some (cs ++ ds)

-- an item of an array, erased
pub item-erased :
    (cells : List Cell) (k : ℕ) (c : Cell) →
    slice_get cells k ≡ Some c →
    slice_get (map erased (map value_of_item cells)) k ≡ Some (erased (value_of_item c))
item-erased cells k c at =
    slice_get-map erased (map value_of_item cells) k
    ∙ (ap (option_map erased) (slice_get-map value_of_item cells k) ∙ ap (λ o. option_map erased (option_map value_of_item o)) at)
