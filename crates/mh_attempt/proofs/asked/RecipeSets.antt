-- Lists of recipes as sets.
use Rattle.std.proofs.Common.{◌≡◌, sym, ◌∙◌, ap, true, false, List, [], ◌∷◌, ◌++◌, ⊎_elim}
use Rattle.std.proofs.lemmas.List.Folds.{list_any-append}
use Rattle.std.proofs.lemmas.Bool.{or_left, or_right, or_cases}
use Rattle.mh_base.proofs.Tests.{same_tests}
use Rattle.mh_edit.specs.declared.key.Key.{Key}
use Rattle.mh_handle.specs.SameRecipes.{same_recipe}
use Rattle.mh_handle.proofs.recipes.SameRecipes.{same_recipe-decides, same_recipe-equivalence}
use Rattle.mh_attempt.proofs.asked.RecipeCounts.{is_one}

-- each recipe of the first list is one of the second
abbrev pub AreAmong : List (List Key) → List (List Key) → Type 0
AreAmong xs ys = (q : List Key) → is_one xs q ≡ true → is_one ys q ≡ true

pub none-among : (ys : List (List Key)) → AreAmong [] ys
none-among ys q h = absurd cc

pub same-among : (xs ys : List (List Key)) → xs ≡ ys → AreAmong xs ys
same-among xs ys same q h = ap (λ rs. is_one rs q) (sym same) ∙ h

pub among-among : (xs ys zs : List (List Key)) → AreAmong xs ys → AreAmong ys zs → AreAmong xs zs
among-among xs ys zs h k q there = k q (h q there)

pub among-first : (xs ys : List (List Key)) → AreAmong xs (xs ++ ys)
among-first xs ys q h = list_any-append (same_recipe q) xs ys ∙ or_left (is_one xs q) (is_one ys q) h

pub among-last : (xs ys : List (List Key)) → AreAmong ys (xs ++ ys)
among-last xs ys q h = list_any-append (same_recipe q) xs ys ∙ or_right (is_one xs q) (is_one ys q) h

pub both-among : (xs ys zs : List (List Key)) → AreAmong xs zs → AreAmong ys zs → AreAmong (xs ++ ys) zs
both-among xs ys zs h k q there =
    ⊎_elim (h q) (k q) (or_cases (is_one xs q) (is_one ys q) (sym (list_any-append (same_recipe q) xs ys) ∙ there))

pub each-among : (xs ys us vs : List (List Key)) → AreAmong xs us → AreAmong ys vs → AreAmong (xs ++ ys) (us ++ vs)
each-among xs ys us vs h k =
    both-among xs ys (us ++ vs) (among-among xs us (us ++ vs) h (among-first us vs)) (among-among ys vs (us ++ vs) k (among-last us vs))

-- one recipe
pub one-among : (r : List Key) (ys : List (List Key)) → is_one ys r ≡ true → AreAmong (r ∷ []) ys
one-among r ys there q h =
    ⊎_elim
    (λ (same : same_recipe q r ≡ true). ap (is_one ys) ((same_recipe-decides q r).0 same) ∙ there)
    (λ (other : false ≡ true). absurd cc)
    (or_cases (same_recipe q r) false h)

pub is-one : (r : List Key) (rs : List (List Key)) → is_one (r ∷ rs) r ≡ true
is-one r rs = or_left (same_recipe r r) (is_one rs r) (same_recipe-equivalence.refl r)

-- lists of which each has the recipes of the other
pub among-same : (xs ys : List (List Key)) → AreAmong xs ys → AreAmong ys xs → (q : List Key) → is_one xs q ≡ is_one ys q
among-same xs ys h k q = same_tests (is_one xs q) (is_one ys q) (h q) (k q)
