-- When two recipes are one.
use Rattle.std.proofs.Common.{◌≡◌, ap, List}
use Rattle.std.specs.Bool.{Decides}
use Rattle.std.specs.Cmp.{IsEquivalence, on_equiv}
use Rattle.std.specs.Cmp.Lexicographic.{pointwise_decides, nat_list_eq_equiv, lists_equiv}
use Rattle.std.proofs.lemmas.Slice.Eq.{bytes_eq-Decides}
use Rattle.mh_edit.specs.declared.key.Key.{Key}
use Rattle.mh_handle.specs.SameRecipes.{key_numbers, same_key, same_recipe}
use Rattle.mh_handle.proofs.recipes.KeyNumbers.{key-one}

same_key-decides : (a b : Key) → Decides (same_key a b) (a ≡ b)
same_key-decides a b = (
  λ same. key-one a b ((bytes_eq-Decides (key_numbers a) (key_numbers b)).0 same),
  λ one. (bytes_eq-Decides (key_numbers a) (key_numbers b)).1 (ap key_numbers one),
)

pub same_recipe-decides : (a b : List Key) → Decides (same_recipe a b) (a ≡ b)
same_recipe-decides a b = pointwise_decides same_key-decides a b

pub same_recipe-equivalence : IsEquivalence same_recipe
same_recipe-equivalence = lists_equiv (on_equiv key_numbers nat_list_eq_equiv)
