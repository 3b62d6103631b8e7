-- What passes over the forms have asked for that are joined one after the other.
use Rattle.std.proofs.Common.{◌≡◌, refl, sym, ◌∙◌, ap, ap₂, subst, Bool, true, false, not, ◌||◌, cond, List, [], ◌∷◌, ◌++◌, map}
use Rattle.std.specs.List.{flat_map, list_any, IsDistinct}
use Rattle.std.proofs.lemmas.List.{map-append}
use Rattle.std.proofs.lemmas.List.Folds.{list_any-append}
use Rattle.mh_edit.specs.declared.key.Key.{Key}
use Rattle.mh_handle.specs.Form.{FormView}
use Rattle.mh_handle.specs.Index.{recipe_of}
use Rattle.mh_handle.specs.Joins.{KnowsBoth, unasked}
use Rattle.mh_handle.specs.Passes.{PassView}
use Rattle.mh_handle.specs.SameRecipes.{same_recipe}
use Rattle.mh_handle.proofs.recipes.SameRecipes.{same_recipe-decides, same_recipe-equivalence}
use Rattle.mh_jobs.specs.Given.{Given}
use Rattle.mh_attempt.specs.Asked.{HasAsked, asked_recipes}
use Rattle.mh_attempt.proofs.asked.RecipeSets.{AreAmong, among-among, among-first, among-last, among-same, both-among, each-among}
use Rattle.mh_plan.specs.declared.call.Call.{Call}
use Rattle.mh_report.specs.Forms.{attempt_edits, plan_edits, thread_edits}
use Rattle.mh_runtime.specs.Asking.{run_edits}
use Rattle.mh_runtime.specs.Joined.{ThreadPasses, edits_of}
use Rattle.mh_runtime.proofs.forms.Distinct.{both-distinct, both-has, unless_had}

-- ---- two passes

any-map : {X Y : Type 0} (p : Y → Bool) (h : X → Y) (xs : List X) → list_any p (map h xs) ≡ list_any (λ x. p (h x)) xs
any-map p h [] = refl
any-map p h (x ∷ xs) = ap (λ b. p (h x) || b) (any-map p h xs)

-- the recipes of forms that were not asked for
abbrev others : List FormView → List FormView → List (List Key)
others asked forms = unless_had same_recipe (map recipe_of asked) (map recipe_of forms)

unasked-recipes : (asked forms : List FormView) → map recipe_of (unasked asked forms) ≡ others asked forms
unasked-recipes asked [] = refl
unasked-recipes asked (f ∷ forms) =
    cases (list_any (λ g. same_recipe f.recipe g.recipe) asked) (unasked-recipes asked forms)
    ∙ ap (λ b. cond (not b) (f.recipe ∷ others asked forms) (others asked forms)) (sym (any-map (same_recipe f.recipe) recipe_of asked))
  where
    cases : (b : Bool) → map recipe_of (unasked asked forms) ≡ others asked forms →
        map recipe_of (cond (not b) (f ∷ unasked asked forms) (unasked asked forms)) ≡ cond (not b) (f.recipe ∷ others asked forms) (others asked forms)
    cases true rest = rest
    cases false rest = ap (λ rs. f.recipe ∷ rs) rest

-- a pass that another one was joined to has asked for what both have
pub asked-joined : (xs ys : List (List Key)) (old other new : PassView) → HasAsked xs old → HasAsked ys other → KnowsBoth old other new →
    HasAsked (xs ++ ys) new
asked-joined xs ys old other new has has' knows =
    let mine : List (List Key) = asked_recipes old in
    let theirs : List (List Key) = asked_recipes other in
    let both : asked_recipes new ≡ mine ++ unless_had same_recipe mine theirs =
    ap (map recipe_of) knows.asked
    ∙ (map-append recipe_of old.asked (unasked old.asked other.asked) ∙ ap (λ rs. mine ++ rs) (unasked-recipes old.asked other.asked)) in
    record {
      once = subst (IsDistinct same_recipe) (sym both)
          (both-distinct same_recipe same_recipe-equivalence (λ a b. (same_recipe-decides a b).0) mine theirs has.once has'.once);
      same = λ q. ap (list_any (same_recipe q)) both
          ∙ (both-has same_recipe same_recipe-equivalence (λ a b. (same_recipe-decides a b).0) mine theirs q
          ∙ (ap₂ (λ a b. a || b) (has.same q) (has'.same q) ∙ sym (list_any-append (same_recipe q) xs ys)));
    }

-- recipes that were asked for before both passes were
module _ (before mine made called : List (List Key)) where
  -- those of the first pass, and then those of the second one, each with those before
  abbrev twice : List (List Key)
  twice = (before ++ mine) ++ (made ++ (before ++ called))

  abbrev once : List (List Key)
  once = before ++ (mine ++ (made ++ called))

  to-once : AreAmong twice once
  to-once =
      let rest : AreAmong (mine ++ (made ++ called)) once = among-last before (mine ++ (made ++ called)) in
      let own : AreAmong (made ++ called) once = λ q h. rest q (among-last mine (made ++ called) q h) in
      both-among (before ++ mine) (made ++ (before ++ called)) once
      (both-among before mine once (among-first before (mine ++ (made ++ called))) (λ q h. rest q (among-first mine (made ++ called) q h)))
      (both-among made (before ++ called) once (λ q h. own q (among-first made called q h))
      (both-among before called once (among-first before (mine ++ (made ++ called))) (λ q h. own q (among-last made called q h))))

  to-twice : AreAmong once twice
  to-twice =
      let first : AreAmong (before ++ mine) twice = among-first (before ++ mine) (made ++ (before ++ called)) in
      let second : AreAmong (made ++ (before ++ called)) twice = among-last (before ++ mine) (made ++ (before ++ called)) in
      both-among before (mine ++ (made ++ called)) twice (λ q h. first q (among-first before mine q h))
      (both-among mine (made ++ called) twice (λ q h. first q (among-last before mine q h))
      (both-among made called twice (λ q h. second q (among-first made (before ++ called) q h))
      (λ q h. second q (among-last made (before ++ called) q (among-last before called q h)))))

  -- they count once
  pub asked-once : (pass : PassView) → HasAsked twice pass → HasAsked once pass
  asked-once pass has = record { once = has.once; same = λ q. has.same q ∙ among-same twice once to-once to-twice q }

-- ---- the passes of all threads

-- the recipes of one thread and of those after it, each with those of its attempts first; or those of all attempts first
module _ (made called mades calleds rest : List (List Key)) where
  abbrev in_turn : List (List Key)
  in_turn = (made ++ called) ++ rest

  to-both : AreAmong rest (mades ++ calleds) → AreAmong in_turn ((made ++ mades) ++ (called ++ calleds))
  to-both among =
      both-among (made ++ called) rest ((made ++ mades) ++ (called ++ calleds))
      (each-among made called (made ++ mades) (called ++ calleds) (among-first made mades) (among-first called calleds))
      (among-among rest (mades ++ calleds) ((made ++ mades) ++ (called ++ calleds)) among
      (each-among mades calleds (made ++ mades) (called ++ calleds) (among-last made mades) (among-last called calleds)))

  from-both : AreAmong (mades ++ calleds) rest → AreAmong ((made ++ mades) ++ (called ++ calleds)) in_turn
  from-both among =
      both-among (made ++ mades) (called ++ calleds) in_turn
      (both-among made mades in_turn (λ q h. among-first (made ++ called) rest q (among-first made called q h))
      (λ q h. among-last (made ++ called) rest q (among q (among-first mades calleds q h))))
      (both-among called calleds in_turn (λ q h. among-first (made ++ called) rest q (among-last made called q h))
      (λ q h. among-last (made ++ called) rest q (among q (among-last mades calleds q h))))

module _ {X : Type 0} (given : Given) (passes : X → ThreadPasses) (calls : X → List Call) where
  -- the recipes of the forms that threads have asked for, one thread after the other
  abbrev pub turns_edits : List X → List (List Key)
  turns_edits xs = flat_map (λ x. run_edits given (passes x).links.attempts (thread_edits given.leaves (calls x))) xs

  to-edits : (xs : List X) → AreAmong (turns_edits xs) (edits_of given (map calls xs) (map passes xs))
  to-edits [] = λ q there. there
  to-edits (x ∷ xs) =
      to-both (flat_map (attempt_edits given) (passes x).links.attempts) (thread_edits given.leaves (calls x))
      (flat_map (λ p. flat_map (attempt_edits given) p.links.attempts) (map passes xs)) (plan_edits given.leaves (map calls xs)) (turns_edits xs)
      (to-edits xs)

  from-edits : (xs : List X) → AreAmong (edits_of given (map calls xs) (map passes xs)) (turns_edits xs)
  from-edits [] = λ q there. there
  from-edits (x ∷ xs) =
      from-both (flat_map (attempt_edits given) (passes x).links.attempts) (thread_edits given.leaves (calls x))
      (flat_map (λ p. flat_map (attempt_edits given) p.links.attempts) (map passes xs)) (plan_edits given.leaves (map calls xs)) (turns_edits xs)
      (from-edits xs)

  -- these are, up to order, those of all attempts and of all calls
  pub asked-edits : (xs : List X) (pass : PassView) → HasAsked (turns_edits xs) pass → HasAsked (edits_of given (map calls xs) (map passes xs)) pass
  asked-edits xs pass has = record {
    once = has.once;
    same = λ q. has.same q ∙ among-same (turns_edits xs) (edits_of given (map calls xs) (map passes xs)) (to-edits xs) (from-edits xs) q;
  }
