-- What an edit leaves of a pass, by the recipes that were asked for.
use Rattle.std.proofs.Common.{◌≡◌, refl, sym, ◌∙◌, ap, subst, ℕ, suc, ◌+◌, ◌<◌, ◌≤◌, Bool, true, false, ◌||◌, List, [], ◌∷◌, ◌++◌, length, length-append, map, Some, ⊎_elim, arith}
use Rattle.std.specs.Prelude.{Contains, slice_get}
use Rattle.std.specs.List.{IsDistinct}
use Rattle.std.specs.Option.{option_map}
use Rattle.std.specs.Set.{distinct_count}
use Rattle.std.proofs.lemmas.List.{map-append, length-map}
use Rattle.std.proofs.lemmas.List.Elements.{Contains-push}
use Rattle.std.proofs.lemmas.Option.{slice_get-map}
use Rattle.std.proofs.lemmas.Map.Keys.{IsDistinct-push, any_passes_from_place}
use Rattle.std.proofs.lemmas.Map.Made.{length-from_keys}
use Rattle.mh_setonce.specs.Walks.{Lacks, Has}
use Rattle.mh_edit.specs.declared.key.Key.{Key}
use Rattle.mh_handle.specs.Form.{FormView, most_forms}
use Rattle.mh_handle.specs.Index.{recipe_of}
use Rattle.mh_handle.specs.Passes.{PassView, SeatView, AsksFor, Draws, DrawsAtMostOne, IsUnlearnt}
use Rattle.mh_handle.specs.SameRecipes.{same_recipe}
use Rattle.mh_handle.proofs.recipes.SameRecipes.{same_recipe-decides, same_recipe-equivalence}
use Rattle.mh_attempt.specs.Asked.{asked_recipes, DrawsWithin, HasAsked, HasDrawn, HasNoNumber}
use Rattle.mh_attempt.proofs.asked.RecipeCounts.{is_one, again, one-more}

lacking : (forms : List FormView) (r : List Key) → Lacks recipe_of forms r → is_one (map recipe_of forms) r ≡ false
lacking [] r none = refl
lacking (f ∷ forms) r none = cases (same_recipe r f.recipe) refl (lacking forms r (λ i g at. none (suc i) g at))
  where
    cases : (b : Bool) → same_recipe r f.recipe ≡ b → is_one (map recipe_of forms) r ≡ false → (b || is_one (map recipe_of forms) r) ≡ false
    cases true same others = absurd (none 0 f refl (sym ((same_recipe-decides r f.recipe).0 same)))
    cases false other others = others

-- the recipes of forms, and of one form more
asked-push : (asked asked' : List FormView) (f : FormView) (r : List Key) → asked' ≡ asked ++ f ∷ [] → f.recipe ≡ r →
    map recipe_of asked' ≡ map recipe_of asked ++ r ∷ []
asked-push asked asked' f r pushed made =
    ap (map recipe_of) pushed ∙ (map-append recipe_of asked (f ∷ []) ∙ ap (λ x. map recipe_of asked ++ x ∷ []) made)

pub asked-again : (recipes : List (List Key)) (pass : PassView) (r : List Key) → HasAsked recipes pass → is_one recipes r ≡ true →
    HasAsked (recipes ++ r ∷ []) pass
asked-again recipes pass r has there = record { once = has.once; same = λ q. has.same q ∙ sym (again recipes r q there) }

asked-before : (recipes : List (List Key)) (old new : PassView) (f : FormView) (r : List Key) → HasAsked recipes old → Has recipe_of old.asked f.recipe f →
    new ≡ old → f.recipe ≡ r → HasAsked (recipes ++ r ∷ []) new
asked-before recipes old new f r has found same made =
    let at : slice_get (map recipe_of old.asked) found.0 ≡ Some f.recipe = slice_get-map recipe_of old.asked found.0 ∙ ap (option_map recipe_of) found.1 in
    let there : is_one (asked_recipes old) r ≡ true =
    any_passes_from_place (same_recipe r) (map recipe_of old.asked) found.0 f.recipe at ((same_recipe-decides r f.recipe).1 (sym made)) in
    subst (HasAsked (recipes ++ r ∷ [])) (sym same) (asked-again recipes old r has (sym (has.same r) ∙ there))

asked-now : (recipes : List (List Key)) (old new : PassView) (f : FormView) (r : List Key) → HasAsked recipes old → Lacks recipe_of old.asked f.recipe →
    new.asked ≡ old.asked ++ f ∷ [] → f.recipe ≡ r → HasAsked (recipes ++ r ∷ []) new
asked-now recipes old new f r has none pushed made =
    let all : map recipe_of new.asked ≡ map recipe_of old.asked ++ r ∷ [] = asked-push old.asked new.asked f r pushed made in
    let lacks : Lacks recipe_of old.asked r = subst (Lacks recipe_of old.asked) made none in
    record {
      once = subst (IsDistinct same_recipe) (sym all) (IsDistinct-push same_recipe-equivalence (map recipe_of old.asked) r has.once
          (lacking old.asked r lacks));
      same = λ q. ap (λ rs. is_one rs q) all ∙ (one-more (map recipe_of old.asked) r q ∙ (ap (λ b. b || same_recipe q r) (has.same q) ∙
          sym (one-more recipes r q)));
    }

-- a form was asked for
pub asked-more : (recipes : List (List Key)) (old new : PassView) (f : FormView) (r : List Key) → HasAsked recipes old → f.recipe ≡ r → AsksFor f old new →
    HasAsked (recipes ++ r ∷ []) new
asked-more recipes old new f r has made asks =
    ⊎_elim
    (λ (before : Has recipe_of old.asked f.recipe f × (new ≡ old)). asked-before recipes old new f r has before.0 before.1 made)
    (λ (now : Lacks recipe_of old.asked f.recipe × (new.asked ≡ old.asked ++ f ∷ [])). asked-now recipes old new f r has now.0 now.1 made)
    asks

-- ---- numbers

-- a number was drawn for a recipe that was not asked for: no more were drawn than recipes differ
drawn-last : (whole : ℕ) (recipes : List (List Key)) (old new : PassView) (r : List Key) (drawn : ℕ) → HasAsked recipes old → DrawsWithin whole old →
    Lacks recipe_of old.asked r → Draws drawn old.seat new.seat → HasDrawn whole (recipes ++ r ∷ []) new
drawn-last whole recipes old new r drawn has within none draws =
    let rs : List (List Key) = map recipe_of old.asked in
    let numbers : length new.seat.numbers ≡ length old.seat.numbers + 1 = ap length draws.numbers ∙ length-append old.seat.numbers (drawn ∷ []) in
    let left : new.seat.room + 1 ≡ old.seat.room = draws.room in
    let long : length (rs ++ r ∷ []) ≡ length old.asked + 1 = length-append rs (r ∷ []) ∙ ap (λ n. n + 1) (length-map old.asked recipe_of) in
    let counted : length (rs ++ r ∷ []) ≡ distinct_count same_recipe (recipes ++ r ∷ []) =
    length-from_keys same_recipe-equivalence (rs ++ r ∷ []) (recipes ++ r ∷ [])
    (IsDistinct-push same_recipe-equivalence rs r has.once (lacking old.asked r none))
    (λ q. one-more rs r q ∙ (ap (λ b. b || same_recipe q r) (has.same q) ∙ sym (one-more recipes r q))) in
    record {
      few = omega (arith, within.few, numbers, long, counted);
      room = omega (arith, within.room, numbers, left);
    }

-- a number was drawn for a recipe that was not asked for, and none was left
pub asked-full : (old new : PassView) (r : List Key) (drawn : ℕ) → Lacks recipe_of old.asked r → Draws drawn old.seat new.seat → most_forms < drawn →
    HasNoNumber (r ∷ []) drawn old new
asked-full old new r drawn none draws past = (
  λ whole within before has. drawn-last whole before old new r drawn has within none draws,
  (past, subst (λ ns. Contains ns drawn) (sym draws.numbers) (Contains-push old.seat.numbers drawn)),
)

drawn-now : (whole : ℕ) (old new : PassView) (f : FormView) (r : List Key) → DrawsWithin whole old → new.asked ≡ old.asked ++ f ∷ [] →
    DrawsAtMostOne r old new → DrawsWithin whole new
drawn-now whole old new f r within pushed draws =
    let more : length new.asked ≡ length old.asked + 1 = ap length pushed ∙ length-append old.asked (f ∷ []) in
    ⊎_elim
    (λ (same : new.seat ≡ old.seat).
    let few : length old.seat.numbers ≤ length new.asked = omega (arith, within.few, more) in
    record {
      few = subst (λ (s : SeatView). length s.numbers ≤ length new.asked) (sym same) few;
      room = subst (λ (s : SeatView). length s.numbers + s.room ≡ whole) (sym same) within.room;
    })
    (λ (d : (number : ℕ) × Draws number old.seat new.seat × IsUnlearnt r old).
    let numbers : length new.seat.numbers ≡ length old.seat.numbers + 1 = ap length d.1.numbers ∙ length-append old.seat.numbers (d.0 ∷ []) in
    let left : new.seat.room + 1 ≡ old.seat.room = d.1.room in
    record {
      few = omega (arith, within.few, more, numbers);
      room = omega (arith, within.room, numbers, left);
    })
    draws

pub drawn-more : (whole : ℕ) (old new : PassView) (f : FormView) (r : List Key) → DrawsWithin whole old → AsksFor f old new → DrawsAtMostOne r old new →
    DrawsWithin whole new
drawn-more whole old new f r within asks draws =
    ⊎_elim
    (λ (before : Has recipe_of old.asked f.recipe f × (new ≡ old)). subst (DrawsWithin whole) (sym before.1) within)
    (λ (now : Lacks recipe_of old.asked f.recipe × (new.asked ≡ old.asked ++ f ∷ [])). drawn-now whole old new f r within now.1 draws)
    asks
