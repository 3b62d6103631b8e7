-- Whether a recipe is another one with one more key.
use Rattle.std.proofs.Common.{◌≡◌, refl, sym, subst, Bool, true, false, List, IsTrue}
use Rattle.std.proofs.lemmas.Bool.{false_from_ne_true}
use mathlib.Core.Logic.{◌↔◌}
use Rattle.mh_edit.specs.declared.key.Key.{Key}
use Rattle.mh_handle.specs.SameRecipes.{same_recipe}
use Rattle.mh_handle.proofs.recipes.SameRecipes.{same_recipe-decides}

-- the two truth values differ
abbrev is_false : Bool → Type 0
is_false true = ⊥
is_false false = Unit {0}

clash : false ≡ true → ⊥
clash e = subst is_false e tt

pub then_decides : (recipe whole : List Key) (is : Bool) → (IsTrue is ↔ (recipe ≡ whole)) → is ≡ same_recipe recipe whole
then_decides recipe whole true told = sym ((same_recipe-decides recipe whole).1 (told.0 refl))
then_decides recipe whole false told =
    sym (false_from_ne_true (same_recipe recipe whole) (λ one. clash (told.1 ((same_recipe-decides recipe whole).0 one))))
