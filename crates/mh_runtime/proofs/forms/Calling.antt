-- Which recipes calls ask for, by what they answer.
use Rattle.std.proofs.Common.{◌≡◌, sym, ◌∙◌, ap, subst, ◌||◌, List, [], ◌∷◌, ◌++◌, append-nil, append_assoc, Result, Ok, Err, ⊎_elim}
use Rattle.std.specs.Prelude.{IsErrAnd}
use Rattle.mh_base.proofs.Tests.{or_true}
use Rattle.mh_values.specs.declared.types.MethodTy.{MethodTy}
use Rattle.mh_leaf.specs.LeafTable.{LeafTable}
use Rattle.mh_tree.specs.Tree.{Tree}
use Rattle.mh_edit.specs.declared.key.Key.{Key}
use Rattle.mh_handle.specs.declared.answer.Answer.{Answer}
use Rattle.mh_handle.specs.declared.error.EditError.{EditError}
use Rattle.mh_handle.specs.declared.error.EditError.TheVariants as edit
use Rattle.mh_handle.specs.declared.work.Work.{Work}
use Rattle.mh_handle.specs.Passes.{PassView}
use Rattle.mh_handle.specs.Recipe.{recipe}
use Rattle.mh_handle.specs.Stands.{HandleView, Stands}
use Rattle.mh_handle.proofs.recipes.SameRecipes.{same_recipe-equivalence}
use Rattle.mh_astype.specs.Calls.{AsksBy, call_keys}
use Rattle.mh_attempt.specs.declared.error.WorkError.{WorkError}
use Rattle.mh_attempt.specs.declared.error.WorkError.TheVariants.{NoMemory, FormsFull, TypesFull}
use Rattle.mh_attempt.specs.Asked.{Asks, HasAsked, HasAskedMore, HasStoppedAt, HasNoNumber}
use Rattle.mh_attempt.specs.Errors.{of_edit}
use Rattle.mh_attempt.proofs.asked.AskedAfter.{asked_more-both, full-after, full-first, stopped-first}
use Rattle.mh_attempt.proofs.asked.AskedForms.{asked-again, asked-full, asked-more, drawn-more}
use Rattle.mh_attempt.proofs.asked.RecipeCounts.{is_one, one-more}
use Rattle.mh_report.specs.Forms.{used_edits}
use Rattle.mh_runtime.proofs.forms.UsedRecipes.{uses}

-- ---- generic calls

-- the result of an edit, as one of the work that makes it
abbrev pub worked : {A : Type 0} → Result A EditError → Result A WorkError
worked (Ok a) = Ok a
worked (Err e) = Err (of_edit e)

-- a recipe that was asked for is asked for again
asks-again : (r : List Key) (old mid : PassView) → HasAskedMore (r ∷ []) old mid → HasAskedMore (r ∷ r ∷ []) old mid
asks-again r old mid first = record {
  asked = λ before has. subst (λ rs. HasAsked rs mid) (append_assoc before (r ∷ []) (r ∷ []))
      (asked-again (before ++ r ∷ []) mid r (first.asked before has)
      (one-more before r r ∙ (ap (λ b. is_one before r || b) (same_recipe-equivalence.refl r) ∙ or_true (is_one before r))));
  within = first.within;
}

asks-none : (r : List Key) (old mid new : Work) (answer : Result Answer EditError) → HasAskedMore (r ∷ []) old.pass.now mid.pass.now →
    AsksBy r [] mid new answer → Asks (r ∷ []) old new (worked answer)
asks-none r old mid new (Ok a) first same = subst (λ (w : Work). HasAskedMore (r ∷ []) old.pass.now w.pass.now) (sym same) first
asks-none r old mid new (Err edit.NoMemory) first same = tt
asks-none r old mid new (Err (edit.FormsFull drawn)) first same = absurd same

asks-keys : (r keys : List Key) (old mid new : Work) (answer : Result Answer EditError) → HasAskedMore (r ∷ []) old.pass.now mid.pass.now →
    AsksBy r keys mid new answer → Asks (r ∷ (r ++ keys) ∷ []) old new (worked answer)
asks-keys r [] old mid new (Ok a) first same =
    subst (λ s. HasAskedMore (r ∷ s ∷ []) old.pass.now new.pass.now) (sym (append-nil r))
    (subst (λ (w : Work). HasAskedMore (r ∷ r ∷ []) old.pass.now w.pass.now) (sym same) (asks-again r old.pass.now mid.pass.now first))
asks-keys r [] old mid new (Err edit.NoMemory) first same = tt
asks-keys r [] old mid new (Err (edit.FormsFull drawn)) first same = absurd same
asks-keys r (k ∷ keys) old mid new (Ok a) first asks =
    asked_more-both (r ∷ []) ((r ++ k ∷ keys) ∷ []) old.pass.now mid.pass.now new.pass.now first (record {
      asked = λ before has. asked-more before mid.pass.now new.pass.now asks.0.0 (r ++ k ∷ keys) has asks.0.1 asks.0.2;
      within = λ whole within. drawn-more whole mid.pass.now new.pass.now asks.0.0 (r ++ k ∷ keys) within asks.0.2 asks.1;
    })
asks-keys r (k ∷ keys) old mid new (Err edit.NoMemory) first asks = tt
asks-keys r (k ∷ keys) old mid new (Err (edit.FormsFull drawn)) first asks =
    full-after (r ∷ []) ((r ++ k ∷ keys) ∷ []) drawn old.pass.now mid.pass.now new.pass.now first
    (asked-full mid.pass.now new.pass.now (r ++ k ∷ keys) drawn asks.0.0 asks.1 asks.2)

-- the pass stays as it is when the handle is given back
pub asks-back : {A : Type 0} (recipes : List (List Key)) (old new new' : Work) (answer : Result A WorkError) → new'.pass.now ≡ new.pass.now →
    Asks recipes old new answer → Asks recipes old new' answer
asks-back recipes old new new' (Ok a) back asks = subst (HasAskedMore recipes old.pass.now) (sym back) asks
asks-back recipes old new new' (Err NoMemory) back asks = tt
asks-back recipes old new new' (Err (FormsFull drawn)) back full = subst (HasNoNumber recipes drawn old.pass.now) (sym back) full
asks-back recipes old new new' (Err (TypesFull bucket)) back stopped = subst (HasStoppedAt recipes old.pass.now) (sym back) stopped

-- a generic call of what stands for a tree, and the handle given back
pub asks-generic : (table table' : LeafTable) (t : Tree) (h : HandleView) (asked : MethodTy) (old mid new new' : Work) (answer : Result Answer EditError) →
    table' ≡ table → new'.pass.now ≡ new.pass.now → Stands table h t → HasAskedMore (recipe table t ∷ []) old.pass.now mid.pass.now →
    AsksBy h.form.recipe (call_keys table'.classes h.ty h.weight asked) mid new answer →
    Asks (recipe table t ∷ used_edits table t asked) old new' (worked answer)
asks-generic table table' t h asked old mid new new' answer same back st first asks =
    let r : List Key = h.form.recipe in
    let keys : List Key = call_keys table.classes h.ty h.weight asked in
    let asks' : AsksBy r keys mid new answer = subst (λ (x : LeafTable). AsksBy r (call_keys x.classes h.ty h.weight asked) mid new answer) same asks in
    let first' : HasAskedMore (r ∷ []) old.pass.now mid.pass.now =
    subst (λ s. HasAskedMore (s ∷ []) old.pass.now mid.pass.now) (sym st.made) first in
    asks-back (recipe table t ∷ used_edits table t asked) old new new' (worked answer) back
    (subst (λ s. Asks (s ∷ used_edits table t asked) old new (worked answer)) st.made
    (⊎_elim
    (λ (none : (keys ≡ []) × (used_edits table t asked ≡ [])).
    subst (λ rs. Asks (r ∷ rs) old new (worked answer)) (sym none.1)
    (asks-none r old mid new answer first' (subst (λ ks. AsksBy r ks mid new answer) none.0 asks')))
    (λ (some : used_edits table t asked ≡ (r ++ keys) ∷ []).
    subst (λ rs. Asks (r ∷ rs) old new (worked answer)) (sym some) (asks-keys r keys old mid new answer first' asks'))
    (uses table t h asked st)))

-- ---- errors that are handed on

stops : (A B : Type 0) (r : List Key) (more : List (List Key)) (old new : Work) (e : WorkError) → Asks {A = A} (r ∷ []) old new (Err e) →
    Asks {A = B} (r ∷ more) old new (Err e)
stops A B r more old new NoMemory first = tt
stops A B r more old new (FormsFull drawn) first = full-first (r ∷ []) more drawn old.pass.now new.pass.now first
stops A B r more old new (TypesFull bucket) first = stopped-first (r ∷ []) more old.pass.now new.pass.now first

-- a call that stopped at its leaf
pub stopped-early : {B : Type 0} (A : Type 0) (r : List Key) (more : List (List Key)) (old new : Work) (e : WorkError) (answer : Result B WorkError) →
    IsErrAnd answer (λ x. x ≡ e) → Asks {A = A} (r ∷ []) old new (Err e) → Asks (r ∷ more) old new answer
stopped-early A r more old new e (Ok a) is first = absurd is
stopped-early {B = B} A r more old new e (Err x) is first =
    subst (λ error. Asks {A = B} (r ∷ more) old new (Err error)) (sym is) (stops A B r more old new e first)

-- an error of an edit that is handed on
pub asks-handed : {A : Type 0} (recipes : List (List Key)) (old new : Work) (e : EditError) (answer : Result A WorkError) →
    IsErrAnd answer (λ x. x ≡ of_edit e) → Asks {A = A} recipes old new (Err (of_edit e)) → Asks recipes old new answer
asks-handed recipes old new e (Ok a) is asks = absurd is
asks-handed {A = A} recipes old new e (Err x) is asks = subst (λ error. Asks {A = A} recipes old new (Err error)) (sym is) asks

-- ---- leaves that stay

-- what holds of whatever a handle stands for, over leaves that stayed
pub moved : (P : LeafTable → Tree → Type 0) (table table' : LeafTable) (h : HandleView) (t : Tree) → table' ≡ table → Stands table h t →
    ((u : Tree) → Stands table' h u → P table' u) → P table t
moved P table table' h t same st holds = subst (λ x. P x t) same (holds t (subst (λ x. Stands x h t) (sym same) st))
