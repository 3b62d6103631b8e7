-- What is left of a pass by calls that ask for forms, one after the other.
use Rattle.std.proofs.Common.{◌≡◌, sym, subst, ℕ, List, [], ◌++◌, append-nil, append_assoc, length, arith}
use Rattle.std.specs.Set.{distinct_count}
use Rattle.std.proofs.lemmas.List.{length-map}
use Rattle.std.proofs.lemmas.Map.Made.{length-from_keys}
use Rattle.mh_edit.specs.declared.key.Key.{Key}
use Rattle.mh_handle.specs.Index.{recipe_of}
use Rattle.mh_handle.specs.Passes.{PassView}
use Rattle.mh_handle.specs.SameRecipes.{same_recipe}
use Rattle.mh_handle.proofs.recipes.SameRecipes.{same_recipe-equivalence}
use Rattle.mh_attempt.specs.Asked.{DrawsWithin, HasAsked, HasAskedMore, HasDrawn, HasStoppedAt, HasNoNumber, asked_recipes}
use Rattle.mh_attempt.proofs.asked.RecipeCounts.{drawn-first}

-- nothing is asked for
pub asked_more-none : (pass : PassView) → HasAskedMore [] pass pass
asked_more-none pass = record {
  asked = λ before has. subst (λ rs. HasAsked rs pass) (sym (append-nil before)) has;
  within = λ whole within. within;
}

-- these are asked for, and then those
pub asked_more-both : (recipes more : List (List Key)) (a b c : PassView) → HasAskedMore recipes a b → HasAskedMore more b c →
    HasAskedMore (recipes ++ more) a c
asked_more-both recipes more a b c x y = record {
  asked = λ before has. subst (λ rs. HasAsked rs c) (append_assoc before recipes more) (y.asked (before ++ recipes) (x.asked before has));
  within = λ whole within. y.within whole (x.within whole within);
}

-- a call for these has stopped, and so one for more
pub stopped-first : (recipes more : List (List Key)) (a b : PassView) → HasStoppedAt recipes a b → HasStoppedAt (recipes ++ more) a b
stopped-first recipes more a b stopped = λ whole within before has.
    subst (λ rs. HasDrawn whole rs b) (append_assoc before recipes more) (drawn-first whole (before ++ recipes) more b (stopped whole within before has))

-- a call for more has stopped, after these were asked for
pub stopped-after : (recipes more : List (List Key)) (a b c : PassView) → HasAskedMore recipes a b → HasStoppedAt more b c → HasStoppedAt (recipes ++ more) a c
stopped-after recipes more a b c x stopped = λ whole within before has.
    subst (λ rs. HasDrawn whole rs c) (append_assoc before recipes more)
    (stopped whole (x.within whole within) (before ++ recipes) (x.asked before has))

-- no more numbers were drawn than the recipes differ that were asked for
pub asked-drawn : (whole : ℕ) (recipes : List (List Key)) (pass : PassView) → HasAsked recipes pass → DrawsWithin whole pass → HasDrawn whole recipes pass
asked-drawn whole recipes pass asked within =
    let counted : length (asked_recipes pass) ≡ distinct_count same_recipe recipes =
    length-from_keys same_recipe-equivalence (asked_recipes pass) recipes asked.once asked.same in
    let all : length (asked_recipes pass) ≡ length pass.asked = length-map pass.asked recipe_of in
    record { few = omega (arith, within.few, counted, all); room = within.room }

-- a call has stopped that leaves the pass as it was
pub stopped-still : (recipes : List (List Key)) (a b : PassView) → b ≡ a → HasStoppedAt recipes a b
stopped-still recipes a b same = subst (HasStoppedAt recipes a) (sym same)
    (λ whole within before has. drawn-first whole before recipes a (asked-drawn whole before a has within))

-- no number was left for these, so none is left for more
pub full-first : (recipes more : List (List Key)) (drawn : ℕ) (a b : PassView) → HasNoNumber recipes drawn a b → HasNoNumber (recipes ++ more) drawn a b
full-first recipes more drawn a b full = (stopped-first recipes more a b full.0, full.1)

-- no number was left for more, after these were asked for
pub full-after : (recipes more : List (List Key)) (drawn : ℕ) (a b c : PassView) → HasAskedMore recipes a b → HasNoNumber more drawn b c →
    HasNoNumber (recipes ++ more) drawn a c
full-after recipes more drawn a b c x full = (stopped-after recipes more a b c x full.0, full.1)
