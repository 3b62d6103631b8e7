-- How many recipes of a list differ, and of a longer one; and that no more numbers were drawn.
use Rattle.std.proofs.Common.{◌≡◌, refl, sym, ◌∙◌, ap, ℕ, ◌≤◌, Bool, true, false, ◌||◌, cond, List, [], ◌∷◌, ◌++◌, arith}
use Rattle.std.specs.List.{list_any, IsDistinct, AllByRecursion}
use Rattle.std.specs.Set.{distinct_count, unique_keys}
use Rattle.std.proofs.lemmas.List.Folds.{list_any-append}
use Rattle.std.proofs.lemmas.Map.Made.{length-le_from_is_member}
use Rattle.mh_base.proofs.Tests.{or_false, or_true}
use Rattle.mh_edit.specs.declared.key.Key.{Key}
use Rattle.mh_handle.specs.Passes.{PassView}
use Rattle.mh_handle.specs.SameRecipes.{same_recipe}
use Rattle.mh_handle.proofs.recipes.SameRecipes.{same_recipe-decides, same_recipe-equivalence}
use Rattle.mh_attempt.specs.Asked.{HasDrawn}

-- whether a recipe is one of a list
abbrev pub is_one : List (List Key) → List Key → Bool
is_one recipes r = list_any (same_recipe r) recipes

-- where two recipes are one, either may stand for the other
pub alike : (recipes : List (List Key)) (a b : List Key) → same_recipe a b ≡ true → is_one recipes a ≡ is_one recipes b
alike recipes a b same = ap (is_one recipes) ((same_recipe-decides a b).0 same)

pub one-more : (recipes : List (List Key)) (r q : List Key) → is_one (recipes ++ r ∷ []) q ≡ (is_one recipes q || same_recipe q r)
one-more recipes r q = list_any-append (same_recipe q) recipes (r ∷ []) ∙ ap (λ b. is_one recipes q || b) (or_false (same_recipe q r))

-- a recipe that is there changes nothing where it is put last
pub again : (recipes : List (List Key)) (r q : List Key) → is_one recipes r ≡ true → is_one (recipes ++ r ∷ []) q ≡ is_one recipes q
again recipes r q there = one-more recipes r q ∙ cases (same_recipe q r) refl
  where
    cases : (b : Bool) → same_recipe q r ≡ b → (is_one recipes q || b) ≡ is_one recipes q
    cases true same = or_true (is_one recipes q) ∙ sym (alike recipes q r same ∙ there)
    cases false other = or_false (is_one recipes q)

-- ---- each recipe once

once-member : (recipes : List (List Key)) (q : List Key) → is_one (unique_keys same_recipe recipes) q ≡ is_one recipes q
once-member [] q = refl
once-member (r ∷ recipes) q = cases (is_one recipes r) refl (once-member recipes q)
  where
    there : (b : Bool) → same_recipe q r ≡ b → is_one recipes r ≡ true → is_one recipes q ≡ (b || is_one recipes q)
    there true same m = alike recipes q r same ∙ m
    there false other m = refl

    cases : (b : Bool) → is_one recipes r ≡ b → is_one (unique_keys same_recipe recipes) q ≡ is_one recipes q →
        is_one (cond b (unique_keys same_recipe recipes) (r ∷ unique_keys same_recipe recipes)) q ≡ (same_recipe q r || is_one recipes q)
    cases true m before = before ∙ there (same_recipe q r) refl m
    cases false m before = ap (λ b. same_recipe q r || b) before

first-false : (a b : Bool) → (a || b) ≡ false → a ≡ false
first-false true b no-one = no-one
first-false false b no-one = refl

second-false : (a b : Bool) → (a || b) ≡ false → b ≡ false
second-false true b no-one = cc
second-false false b no-one = no-one

apart : (r : List Key) (recipes : List (List Key)) → is_one recipes r ≡ false → AllByRecursion (λ q. same_recipe r q ≡ false) recipes
apart r [] none = tt
apart r (q ∷ recipes) none = (first-false (same_recipe r q) (is_one recipes r) none, apart r recipes (second-false (same_recipe r q) (is_one recipes r) none))

once-distinct : (recipes : List (List Key)) → IsDistinct same_recipe (unique_keys same_recipe recipes)
unfolding IsDistinct
once-distinct [] = tt
once-distinct (r ∷ recipes) = cases (is_one recipes r) refl (once-distinct recipes)
  where
    cases : (b : Bool) → is_one recipes r ≡ b → IsDistinct same_recipe (unique_keys same_recipe recipes) →
        IsDistinct same_recipe (cond b (unique_keys same_recipe recipes) (r ∷ unique_keys same_recipe recipes))
    cases true m before = before
    cases false m before = (apart r (unique_keys same_recipe recipes) (once-member recipes r ∙ m), before)

in-front : (recipes more : List (List Key)) (q : List Key) → is_one recipes q ≡ true → is_one (recipes ++ more) q ≡ true
in-front recipes more q there = list_any-append (same_recipe q) recipes more ∙ ap (λ b. b || is_one more q) there

-- of a list that has the recipes of another one, no fewer differ
pub count-within : (recipes more : List (List Key)) → ((q : List Key) → is_one recipes q ≡ true → is_one more q ≡ true) →
    distinct_count same_recipe recipes ≤ distinct_count same_recipe more
count-within recipes more within =
    length-le_from_is_member same_recipe-equivalence (unique_keys same_recipe recipes) (unique_keys same_recipe more) (once-distinct recipes)
    (λ q there. once-member more q ∙ within q (sym (once-member recipes q) ∙ there))

-- no more numbers were drawn than recipes differ of a list that has the recipes of another one
pub drawn-within : (whole : ℕ) (recipes more : List (List Key)) (pass : PassView) → ((q : List Key) → is_one recipes q ≡ true → is_one more q ≡ true) →
    HasDrawn whole recipes pass → HasDrawn whole more pass
drawn-within whole recipes more pass within drawn = record { few = omega (arith, drawn.few, count-within recipes more within); room = drawn.room }

pub drawn-first : (whole : ℕ) (recipes more : List (List Key)) (pass : PassView) → HasDrawn whole recipes pass → HasDrawn whole (recipes ++ more) pass
drawn-first whole recipes more pass drawn = drawn-within whole recipes (recipes ++ more) pass (in-front recipes more) drawn
