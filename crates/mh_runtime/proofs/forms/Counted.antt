-- How many forms a run has asked for.
use Rattle.std.proofs.Common.{◌≡◌, sym, ◌∙◌, ap, List, ◌++◌, length, arith}
use Rattle.std.specs.Prelude.{Contains}
use Rattle.std.specs.List.{flat_map}
use Rattle.std.specs.Set.{distinct_count}
use Rattle.std.proofs.lemmas.List.{length-map}
use Rattle.std.proofs.lemmas.List.Sorted.{Contains-permutation, IsPermutation-sym}
use Rattle.std.proofs.lemmas.Map.Made.{length-from_keys}
use Rattle.mh_base.proofs.Lists.{flat_map_twice}
use Rattle.mh_edit.specs.declared.key.Key.{Key}
use Rattle.mh_handle.specs.Index.{recipe_of}
use Rattle.mh_handle.specs.Passes.{PassView}
use Rattle.mh_handle.specs.SameRecipes.{same_recipe}
use Rattle.mh_handle.proofs.recipes.SameRecipes.{same_recipe-equivalence}
use Rattle.mh_jobs.specs.Given.{Given}
use Rattle.mh_attempt.specs.Asked.{HasAsked, asked_recipes}
use Rattle.mh_attempt.proofs.asked.RecipeCounts.{count-within}
use Rattle.mh_attempt.proofs.asked.RecipeSets.{AreAmong, each-among, same-among}
use Rattle.mh_plan.specs.declared.call.Call.{Call}
use Rattle.mh_report.specs.declared.attempt.Attempt.{Attempt}
use Rattle.mh_report.specs.Forms.{attempt_edits, forms, plan_edits}
use Rattle.mh_runtime.specs.Joined.{AreInOrder, AreJoined, ThreadPasses, edits_of}
use Rattle.mh_runtime.specs.Passes.{LinkPass}
use Rattle.mh_runtime.proofs.forms.Needed.{in-flat, of-flat}

-- ---- recipes as sets

pub count-same : (xs ys : List (List Key)) → AreAmong xs ys → AreAmong ys xs → distinct_count same_recipe xs ≡ distinct_count same_recipe ys
count-same xs ys to from =
    omega (
      arith,
      count-within xs ys to,
      count-within ys xs from,
    )

pub flat-among : {X : Type 0} (f : X → List (List Key)) (xs ys : List X) → ((x : X) → Contains xs x → Contains ys x) → AreAmong (flat_map f xs) (flat_map f ys)
flat-among f xs ys within q there =
    let found = of-flat (same_recipe q) f xs there in in-flat (same_recipe q) f ys found.0 (within found.0 found.1) found.2

-- ---- the forms of a run

pub asked-count : (recipes : List (List Key)) (pass : PassView) → HasAsked recipes pass → length pass.asked ≡ distinct_count same_recipe recipes
asked-count recipes pass has =
    sym (length-map pass.asked recipe_of) ∙ length-from_keys same_recipe-equivalence (asked_recipes pass) recipes has.once has.same

module _ (given : Given) (threads : List (List Call)) (all : List ThreadPasses) (joined : LinkPass) (ordered : List Attempt) (is_joined : AreJoined all joined)
    (in_order : AreInOrder joined.attempts ordered) where
  all-edits : flat_map (attempt_edits given) joined.attempts ≡ flat_map (λ p. flat_map (attempt_edits given) p.links.attempts) all
  all-edits = ap (flat_map (attempt_edits given)) is_joined.attempts ∙ flat_map_twice (attempt_edits given) (λ (p : ThreadPasses). p.links.attempts) all

  -- the recipes of the attempts, thread by thread, are those of the attempts in order
  to-ordered : AreAmong (flat_map (λ p. flat_map (attempt_edits given) p.links.attempts) all) (flat_map (attempt_edits given) ordered)
  to-ordered q there =
      flat-among (attempt_edits given) joined.attempts ordered (λ a h. Contains-permutation joined.attempts ordered a in_order.same h) q
      (same-among _ _ (sym all-edits) q there)

  from-ordered : AreAmong (flat_map (attempt_edits given) ordered) (flat_map (λ p. flat_map (attempt_edits given) p.links.attempts) all)
  from-ordered q there =
      same-among _ _ all-edits q
      (flat-among (attempt_edits given) ordered joined.attempts
      (λ a h. Contains-permutation ordered joined.attempts a (IsPermutation-sym joined.attempts ordered in_order.same) h) q there)

  pub forms-are : distinct_count same_recipe (edits_of given threads all) ≡ forms given threads ordered
  forms-are =
      let calls : List (List Key) = plan_edits given.leaves threads in
      let those : List (List Key) = flat_map (λ p. flat_map (attempt_edits given) p.links.attempts) all in
      let these : List (List Key) = flat_map (attempt_edits given) ordered in
      count-same (those ++ calls) (these ++ calls)
      (each-among those calls these calls to-ordered (λ q there. there))
      (each-among these calls those calls from-ordered (λ q there. there))

  -- so many forms were asked for
  pub forms-asked : (pass : PassView) → HasAsked (edits_of given threads all) pass → length pass.asked ≡ forms given threads ordered
  forms-asked pass has = asked-count (edits_of given threads all) pass has ∙ forms-are
