-- What calls leave of a pass that make handles of nodes, by the recipes of those.
use Rattle.std.proofs.Common.{◌≡◌, ◌≢◌, sym, subst, List, [], ◌∷◌, ◌++◌, Result, Ok, Err, ⊎_elim}
use Rattle.std.specs.Prelude.{IsErrAnd, if◌then◌else◌}
use Rattle.std.proofs.lemmas.Bool.{false_from_ne_true}
use Rattle.mh_edit.specs.declared.key.Key.{Key}
use Rattle.mh_tree.specs.declared.error.CheckError.{CheckError}
use Rattle.mh_tree.specs.declared.error.CheckError.TheVariants as check
use Rattle.mh_handle.specs.declared.error.HandleError.{HandleError}
use Rattle.mh_handle.specs.declared.error.HandleError.TheVariants.{NoMemory, FormsFull, TypesFull, Refused}
use Rattle.mh_handle.specs.declared.handle.Handle.{Handle}
use Rattle.mh_handle.specs.declared.work.Work.{Work}
use Rattle.mh_handle.specs.Errors.{of_check}
use Rattle.mh_handle.specs.Passes.{PassView}
use Rattle.mh_handle.specs.SameRecipes.{same_recipe}
use Rattle.mh_handle.specs.Works.{Makes}
use Rattle.mh_handle.proofs.recipes.SameRecipes.{same_recipe-decides}
use Rattle.mh_astype.specs.Use.{AsksNothing, MakesFrom}
use Rattle.mh_spread.specs.Spreading.{MakesBoth}
use Rattle.mh_attempt.specs.Asked.{AsksIfMade, HasAskedMore, HasStopped}
use Rattle.mh_attempt.proofs.asked.AskedAfter.{asked_more-none, asked_more-both, full-after, full-first, stopped-after, stopped-first, stopped-still}
use Rattle.mh_attempt.proofs.asked.AskedForms.{asked-full, asked-more, drawn-more}

-- ---- calls one after the other

-- the pass stays as it is
pub asks-still : (old new : PassView) → new ≡ old → HasAskedMore [] old new
asks-still old new same = subst (HasAskedMore [] old) (sym same) (asked_more-none old)

-- these are asked for, and then those by a call
pub asks-then : {A : Type 0} (recipes more : List (List Key)) (old mid new : Work) (r : Result A HandleError) →
    HasAskedMore recipes old.pass.now mid.pass.now → AsksIfMade more mid new r → AsksIfMade (recipes ++ more) old new r
asks-then recipes more old mid new (Ok a) first asks = asked_more-both recipes more old.pass.now mid.pass.now new.pass.now first asks
asks-then recipes more old mid new (Err (FormsFull drawn)) first asks = full-after recipes more drawn old.pass.now mid.pass.now new.pass.now first asks
asks-then recipes more old mid new (Err NoMemory) first asks = tt
asks-then recipes more old mid new (Err (TypesFull bucket)) first asks = stopped-after recipes more old.pass.now mid.pass.now new.pass.now first asks
asks-then recipes more old mid new (Err (Refused e)) first asks = tt

-- a call that stopped, whose error is handed on
pub asks-stopped : {A : Type 0} (recipes more : List (List Key)) (old new : Work) (error : HandleError) (r : Result A HandleError) →
    IsErrAnd r (λ x. x ≡ error) → HasStopped recipes old.pass.now new.pass.now error → AsksIfMade (recipes ++ more) old new r
asks-stopped recipes more old new error (Ok a) is stopped = absurd is
asks-stopped recipes more old new error (Err x) is stopped = subst (HasStopped (recipes ++ more) old.pass.now new.pass.now) (sym is) (early error stopped)
  where
    early : (e : HandleError) → HasStopped recipes old.pass.now new.pass.now e → HasStopped (recipes ++ more) old.pass.now new.pass.now e
    early (FormsFull drawn) full = full-first recipes more drawn old.pass.now new.pass.now full
    early NoMemory full = tt
    early (TypesFull bucket) stopped = stopped-first recipes more old.pass.now new.pass.now stopped
    early (Refused e) full = tt

-- the pass stays as it is when handles are given back
pub asks-unchanged : {A : Type 0} (recipes : List (List Key)) (old new back : Work) (r : Result A HandleError) → back.pass.now ≡ new.pass.now →
    AsksIfMade recipes old new r → AsksIfMade recipes old back r
asks-unchanged recipes old new back (Ok a) same asks = subst (HasAskedMore recipes old.pass.now) (sym same) asks
asks-unchanged recipes old new back (Err error) same asks = subst (λ pass. HasStopped recipes old.pass.now pass error) (sym same) asks

-- a check that refuses
pub asks-refused : {A : Type 0} (recipes : List (List Key)) (old new : Work) (error : CheckError) (r : Result A HandleError) →
    IsErrAnd r (λ x. x ≡ of_check error) → AsksIfMade recipes old new r
asks-refused recipes old new error (Ok a) is = absurd is
asks-refused recipes old new check.NoMemory (Err x) is = subst (HasStopped recipes old.pass.now new.pass.now) (sym is) tt
asks-refused recipes old new (check.Refused e) (Err x) is = subst (HasStopped recipes old.pass.now new.pass.now) (sym is) tt

-- ---- handles that are made

-- of one recipe
pub asks-made : (r : List Key) (old new : Work) (made : Result Handle HandleError) → Makes r old new made → AsksIfMade (r ∷ []) old new made
asks-made r old new (Ok h) makes = record {
  asked = λ before has. asked-more before old.pass.now new.pass.now h.form r has makes.0 makes.1;
  within = λ whole within. drawn-more whole old.pass.now new.pass.now h.form r within makes.1 makes.2;
}
asks-made r old new (Err (FormsFull drawn)) makes = asked-full old.pass.now new.pass.now r drawn makes.0.0 makes.1 makes.2
asks-made r old new (Err (TypesFull bucket)) makes = stopped-still (r ∷ []) old.pass.now new.pass.now makes
asks-made r old new (Err NoMemory) makes = tt
asks-made r old new (Err (Refused e)) makes = tt

-- the recipe of a use of what has another one, where they differ
abbrev pub unless_same : List Key → List Key → List (List Key)
unless_same before after = if same_recipe after before then [] else after ∷ []

asks-nothing : (old new : Work) (made : Result Handle HandleError) → AsksNothing old new made → AsksIfMade [] old new made
asks-nothing old new (Ok h) same = asks-still old.pass.now new.pass.now same.pass
asks-nothing old new (Err (FormsFull drawn)) same = absurd same
asks-nothing old new (Err (TypesFull bucket)) same = stopped-still [] old.pass.now new.pass.now same.pass
asks-nothing old new (Err NoMemory) same = tt
asks-nothing old new (Err (Refused e)) same = tt

-- of a recipe made of another one
pub asks-from : (before after : List Key) (old new : Work) (made : Result Handle HandleError) → MakesFrom before after old new made →
    AsksIfMade (unless_same before after) old new made
asks-from before after old new made makes =
    ⊎_elim
    (λ (same : (after ≡ before) × AsksNothing old new made).
    subst (λ b. AsksIfMade (if b then [] else after ∷ []) old new made) (sym ((same_recipe-decides after before).1 same.0)) (asks-nothing old new made same.1))
    (λ (other : (after ≢ before) × Makes after old new made).
    subst (λ b. AsksIfMade (if b then [] else after ∷ []) old new made)
    (sym (false_from_ne_true (same_recipe after before) (λ one. other.0 ((same_recipe-decides after before).0 one)))) (asks-made after old new made other.1))
    makes

-- of two recipes, one after the other
pub asks-both : (first second third : List Key) (old new : Work) (made : Result Handle HandleError) → MakesBoth first second third old new made →
    AsksIfMade (unless_same first second ++ third ∷ []) old new made
asks-both first second third old new (Ok h) makes =
    asks-then {A = Handle} (unless_same first second) (third ∷ []) old makes.0 new (Ok h) (asks-from first second old makes.0 (Ok makes.1) makes.2)
    (asks-made third makes.0 new (Ok h) makes.3)
asks-both first second third old new (Err (FormsFull drawn)) makes =
    ⊎_elim
    (λ (early : MakesFrom first second old new (Err (FormsFull drawn))).
    full-first (unless_same first second) (third ∷ []) drawn old.pass.now new.pass.now (asks-from first second old new (Err (FormsFull drawn)) early))
    (λ (late : (mid : Work) × (g : Handle) × MakesFrom first second old mid (Ok g) × Makes third mid new (Err (FormsFull drawn))).
    asks-then {A = Handle} (unless_same first second) (third ∷ []) old late.0 new (Err (FormsFull drawn)) (asks-from first second old late.0 (Ok late.1) late.2)
    (asks-made third late.0 new (Err (FormsFull drawn)) late.3))
    makes
asks-both first second third old new (Err (TypesFull bucket)) makes =
    ⊎_elim
    (λ (early : MakesFrom first second old new (Err (TypesFull bucket))).
    stopped-first (unless_same first second) (third ∷ []) old.pass.now new.pass.now (asks-from first second old new (Err (TypesFull bucket)) early))
    (λ (late : (mid : Work) × (g : Handle) × MakesFrom first second old mid (Ok g) × Makes third mid new (Err (TypesFull bucket))).
    asks-then {A = Handle} (unless_same first second) (third ∷ []) old late.0 new (Err (TypesFull bucket))
    (asks-from first second old late.0 (Ok late.1) late.2)
    (asks-made third late.0 new (Err (TypesFull bucket)) late.3))
    makes
asks-both first second third old new (Err NoMemory) makes = tt
asks-both first second third old new (Err (Refused e)) makes = tt
