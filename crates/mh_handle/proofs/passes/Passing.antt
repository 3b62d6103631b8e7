-- What a pass keeps while it learns.
use Rattle.std.proofs.Common.{◌≡◌, ℕ, List, [], ◌∷◌, ◌++◌, length, sym, ap, ◌∙◌, subst, append_assoc, Some, ⊎_elim, Result, Ok, Err, OnOk, OnErr}
use Rattle.std.specs.Prelude.{slice_get, Option, None, IfOk, IfSome}
use denote.Ref.{Bor}
use Rattle.std.specs.List.{find}
use Rattle.mh_setonce.specs.declared.put.Put.{Put}
use Rattle.mh_setonce.specs.declared.put.Put.TheVariants.{Mine, Theirs}
use Rattle.mh_setonce.specs.Puts.{PutIn}
use Rattle.mh_setonce.specs.Views.{WalkView}
use Rattle.mh_setonce.specs.Walks.{StartsWith, Lacks, FindsNode}
use Rattle.mh_setonce.specs.ManyWalks.{chains_of}
use Rattle.mh_edit.specs.declared.key.Key.{Key}
use Rattle.mh_base.proofs.Slices.{slice_get-push, slice_get-end}
use Rattle.mh_handle.proofs.passes.Learning.{has-found}
use Rattle.mh_handle.specs.Form.{FormView}
use Rattle.mh_handle.specs.Index.{recipe_of}
use Rattle.mh_handle.specs.SameRecipes.{same_recipe}
use Rattle.mh_handle.specs.Chains.{learnt_by}
use Rattle.mh_handle.specs.Passes.{AreLearnt, AreOneEach, IsKept, IsPass, IsPut}
use Rattle.mh_handle.specs.Seats.{Draws, SeatView, TableView}
use Rattle.mh_handle.proofs.passes.Numbers.{numbered-drawn, numbered-kept}

pub starts-trans : {V : Type 0} (xs ys zs : List V) → StartsWith ys xs → StartsWith zs ys → StartsWith zs xs
starts-trans xs ys zs a b = (a.0 ++ b.0, b.1 ∙ (ap (λ v. v ++ b.0) a.1 ∙ append_assoc xs a.0 b.0))

pub learnt-later : (nodes nodes' asked : List FormView) → AreLearnt nodes' nodes → AreLearnt nodes asked → AreLearnt nodes' asked
learnt-later nodes nodes' asked more l i f at =
    let j = l i f at in
    more j.0 f j.1

pub learnt-more : (nodes asked : List FormView) (form : FormView) (i : ℕ) → AreLearnt nodes asked → slice_get nodes i ≡ Some form →
    AreLearnt nodes (asked ++ form ∷ [])
learnt-more nodes asked form i l here j f at = ⊎_elim (λ old. l j f old) (λ (q : (j ≡ length asked) × (form ≡ f)). (i, here ∙ ap Some q.1))
    (slice_get-push asked form j f at)

-- the same of a call that adds the form, or leaves all as it was
pub learnt-added : {A E : Type 0} (nodes asked asked' : List FormView) (form : FormView) (i : ℕ) (r : Result A E) → AreLearnt nodes asked →
    slice_get nodes i ≡ Some form
    → OnOk r (asked' ≡ asked ++ form ∷ []) → OnErr r (asked' ≡ asked) → AreLearnt nodes asked'
learnt-added nodes asked asked' form i (Ok a) l here ok err = subst (AreLearnt nodes) (sym ok) (learnt-more nodes asked form i l here)
learnt-added nodes asked asked' form i (Err e) l here ok err = subst (AreLearnt nodes) (sym err) l

pub lacks-same : (asked asked' : List FormView) (recipe recipe' : List Key) → Lacks recipe_of asked recipe → asked' ≡ asked → recipe' ≡ recipe →
    Lacks recipe_of asked' recipe'
lacks-same asked asked' recipe recipe' new a r = subst (λ v. Lacks recipe_of v recipe') (sym a) (subst (Lacks recipe_of asked) (sym r) new)

-- a form that was found is the one that was learnt of its recipe
pub found-form :
    {E : Type 0} (recipe : List Key) (learnt : List FormView) (r : Result (Option (Bor FormView)) E) →
    AreOneEach learnt → IfOk r (FindsNode recipe_of learnt recipe) →
    IfOk r (λ found. IfSome found (λ form. find (λ f. same_recipe recipe f.recipe) learnt ≡ Some form.now))
found-form recipe learnt (Ok None) once finds = tt
found-form recipe learnt (Ok (Some form)) once finds = has-found recipe learnt form.now once finds
found-form recipe learnt (Err e) once finds = tt

-- and so is one that was asked for
pub seen-form :
    (recipe : List Key) (learnt asked : List FormView) (r : Option (Bor FormView)) →
    AreLearnt learnt asked → AreOneEach learnt → FindsNode recipe_of asked recipe r →
    IfSome r (λ form. find (λ f. same_recipe recipe f.recipe) learnt ≡ Some form.now)
seen-form recipe learnt asked None are once finds = tt
seen-form recipe learnt asked (Some form) are once finds =
    let at = are finds.0 form.now finds.1 in
    has-found recipe learnt form.now once (at.0, at.1, finds.2)

-- what a put into a chain gives, as the form that the chain has
pub put-is : (before after : List FormView) (ours : FormView) (put : Put FormView) → PutIn recipe_of before after ours put → IsPut after ours put
put-is before after ours (Mine form) is =
    let forms : List FormView = before ++ is.1.0 in
    let last : slice_get after (length forms) ≡ Some ours = ap (λ fs. slice_get fs (length forms)) is.1.1 ∙ slice_get-end forms ours in
    ((length forms, last ∙ ap Some (sym is.0), ap recipe_of is.0), is.0)
put-is before after ours (Theirs form back) is = is.1

-- ---- the whole of what a pass keeps

-- memory was taken
pub pass-same : (walks walks' : List (WalkView FormView)) (made made' asked asked' : List FormView) (seat : SeatView) → IsPass walks made asked seat →
    walks' ≡ walks → made' ≡ made → asked' ≡ asked → IsPass walks' made' asked' seat
pass-same walks walks' made made' asked asked' seat is w m a =
    subst (λ v. IsPass v made' asked' seat) (sym w) (subst (λ v. IsPass walks v asked' seat) (sym m) (subst (λ v. IsPass walks made v seat) (sym a) is))

-- more was learnt
pub pass-learns : (walks walks' : List (WalkView FormView)) (made asked : List FormView) (seat : SeatView) → IsPass walks made asked seat →
    chains_of walks' ≡ chains_of walks → AreLearnt (learnt_by walks') (learnt_by walks) → AreOneEach (learnt_by walks') → IsPass walks' made asked seat
pass-learns walks walks' made asked seat is chains more once = record {
  chains = chains ∙ is.chains;
  learnt = learnt-later (learnt_by walks) (learnt_by walks') asked more is.learnt;
  once = once;
  numbered = is.numbered;
}

-- a form was asked for, or nothing changed
pub pass-asks : {A E : Type 0} (walks : List (WalkView FormView)) (made asked asked' : List FormView) (seat : SeatView) (form : FormView) (i : ℕ)
    (r : Result A E) → IsPass walks made asked seat → slice_get (learnt_by walks) i ≡ Some form → OnOk r (asked' ≡ asked ++ form ∷ []) →
    OnErr r (asked' ≡ asked) → IsPass walks made asked' seat
pass-asks walks made asked asked' seat form i r is here ok err = record {
  chains = is.chains;
  learnt = learnt-added (learnt_by walks) asked asked' form i r is.learnt here ok err;
  once = is.once;
  numbered = is.numbered;
}

-- a number was drawn
pub pass-draws : (walks : List (WalkView FormView)) (made asked : List FormView) (number : ℕ) (seat seat' : SeatView) → Draws number seat seat' →
    IsPass walks made asked seat → IsPass walks made asked seat'
pass-draws walks made asked number seat seat' draws is = record {
  chains = is.chains ∙ ap (λ (t : TableView). t.chains) (sym draws.table);
  learnt = is.learnt;
  once = is.once;
  numbered = numbered-drawn made number seat seat' draws is.numbered;
}

-- and the form that was made with it was kept
pub pass-keeps : (walks : List (WalkView FormView)) (made made' asked : List FormView) (number : ℕ) (seat seat' : SeatView) (ours form : FormView) →
    Draws number seat seat' → ours.number ≡ number → IsKept ours made made' form → IsPass walks made asked seat → IsPass walks made' asked seat'
pass-keeps walks made made' asked number seat seat' ours form draws is kept pass = record {
  chains = pass.chains ∙ ap (λ (t : TableView). t.chains) (sym draws.table);
  learnt = pass.learnt;
  once = pass.once;
  numbered = numbered-kept ours form made made' number seat seat' draws is kept pass.numbered;
}
