-- What an edit leaves of a pass.
use Rattle.std.proofs.Common.{◌≡◌, ℕ, List, [], ◌∷◌, ◌++◌, ap, ◌∙◌, subst, sym, refl, inl, inr, ⊎_elim, Result, Ok, Err, IfOk}
use Rattle.std.specs.Prelude.{IsErrAnd}
use denote.Ref.{Bor}
use Rattle.mh_setonce.specs.declared.put.Put.{Put}
use Rattle.mh_edit.specs.declared.key.Key.{Key}
use Rattle.mh_setonce.specs.Walks.{Lacks, Has}
use Rattle.mh_handle.specs.declared.error.EditError.{EditError}
use Rattle.mh_handle.specs.declared.error.EditError.TheVariants.{NoMemory, FormsFull}
use Rattle.mh_handle.specs.Form.{FormView}
use Rattle.mh_handle.specs.Index.{recipe_of}
use Rattle.mh_handle.specs.Passes.{PassView, Learns, Draws, Edits, IsFormOf, IsKept, IsPut, IsUnlearnt, MakesForm, PutsAtMost, PutsAtMostOne, PutsForm}
use Rattle.mh_handle.proofs.passes.Passing.{lacks-same}
use Rattle.mh_handle.proofs.passes.Learning.{unlearnt-before}

-- the form was asked for before
pub edits-seen : (recipe : List Key) (pass : PassView) (form : Bor FormView) → Has recipe_of pass.asked recipe form.now → IsFormOf recipe pass form.now →
    Edits recipe pass pass (Ok form)
edits-seen recipe pass form has is = (has.2, inl ((has.0, has.1, refl), refl), inl refl, is, inl refl)

-- the chain shows it
pub edits-found :
    (recipe : List Key) (old mid new : PassView) (form : Bor FormView) → Learns old mid → Lacks recipe_of old.asked recipe →
    new ≡ record mid { asked = mid.asked ++ form.now ∷ [] } → form.now.recipe ≡ recipe → IsFormOf recipe mid form.now → Edits recipe old new (Ok form)
edits-found recipe old mid new form learns unseen asks made is = (
  made,
  inr (
    lacks-same old.asked old.asked recipe form.now.recipe unseen refl made,
    ap (λ (p : PassView). p.asked) asks ∙
        ap (λ v. v ++ form.now ∷ []) learns.asked,
  ),
  inl (ap (λ (p : PassView). p.seat) asks ∙ learns.seat),
  subst (λ (p : PassView). IsFormOf recipe p form.now) (sym asks) is,
  inl (ap (λ (p : PassView). p.made) asks ∙ learns.made),
)

module _ (recipe : List Key) (old mid new : PassView) (learns : Learns old mid) (unseen : Lacks recipe_of old.asked recipe)
    (unlearnt : IsUnlearnt recipe mid) where
  drawn : (number : ℕ) → Draws number mid.seat new.seat → Draws number old.seat new.seat
  drawn number d = subst (λ s. Draws number s new.seat) learns.seat d

  put : (form : FormView) → PutsForm form mid new → PutsForm form old new
  put form p = (p.0 ∙ ap (λ v. v ++ form ∷ []) learns.made, drawn form.number p.1)

  put-most : (form : FormView) → PutsAtMost form mid new → PutsAtMost form old new
  put-most form p = ⊎_elim (λ (none : new.made ≡ mid.made). inl (none ∙ learns.made)) (λ (one : PutsForm form mid new). inr (put form one)) p

  put-one : PutsAtMostOne recipe mid new → PutsAtMostOne recipe old new
  put-one p = ⊎_elim
      (λ (none : new.made ≡ mid.made). inl (none ∙ learns.made))
      (λ (one : (form : FormView) × (form.recipe ≡ recipe) × PutsForm form mid new). inr (one.0, one.1, put one.0 one.2))
      p

  lacks : IsUnlearnt recipe old
  lacks = unlearnt-before recipe old mid learns.learnt unlearnt

  pub edits-made : (r : Result (Bor FormView) EditError) → MakesForm recipe mid new r → IfOk r (λ form. IsFormOf recipe new form.now) →
      Edits recipe old new r
  edits-made (Ok form) m is = (
    m.0,
    inr (lacks-same old.asked old.asked recipe form.now.recipe unseen refl m.0, m.1 ∙ ap (λ v. v ++ form.now ∷ []) learns.asked),
    inr (m.2.0, drawn m.2.0 m.2.1, lacks),
    is,
    put-most form.now m.3,
  )
  edits-made (Err NoMemory) m is = (
    (unseen, m.0 ∙ learns.asked),
    ⊎_elim (λ (same : new.seat ≡ mid.seat). inl (same ∙ learns.seat)) (λ (d : (number : ℕ) × Draws number mid.seat new.seat). inr (d.0, drawn d.0 d.1, lacks))
        m.1,
    put-one m.2,
  )
  edits-made (Err (FormsFull n)) m is = (
    (unseen, m.0 ∙ learns.asked),
    drawn n m.1,
    m.2,
    subst (λ v. IsUnlearnt recipe (record new { learnt = v })) (sym m.3) unlearnt,
    m.4 ∙ learns.made,
  )

-- ---- a form that was put into the table

-- ours, or the one that stands there with its recipe
module _ (learnt made made' : List FormView) (number : ℕ) (recipe : List Key) (ours form : FormView) (put : Put FormView)
    (is : ours ≡ record { number = number; recipe = recipe }) (was : IsPut learnt ours put) where
  pub put-has : ((fs : List FormView) (o : FormView) → IsPut fs o put → Has recipe_of fs o.recipe form) → Has recipe_of learnt recipe form
  put-has has = subst (λ (o : FormView). Has recipe_of learnt o.recipe form) is (has learnt ours was)

  pub put-kept : ((fs : List FormView) (o : FormView) → IsPut fs o put → IsKept o made made' form) →
      IsKept (record { number = number; recipe = recipe }) made made' form
  put-kept kept = subst (λ o. IsKept o made made' form) is (kept learnt ours was)

module _ (number : ℕ) (recipe : List Key) (form : Bor FormView) (old mid : PassView) (draws : Draws number old.seat mid.seat)
    (kept : IsKept (record { number = number; recipe = recipe }) old.made mid.made form.now) (same : mid.asked ≡ old.asked) where
  puts : PutsAtMost form.now old mid
  puts = ⊎_elim
      (λ (none : mid.made ≡ old.made). inl none)
      (λ (one : (mid.made ≡ old.made ++ form.now ∷ []) × (form.now ≡ record { number = number; recipe = recipe })).
      inr (one.0, subst (λ (f : FormView). Draws f.number old.seat mid.seat) (sym one.1) draws))
      kept

  pub made-asked : (new : PassView) → new ≡ record mid { asked = mid.asked ++ form.now ∷ [] } → form.now.recipe ≡ recipe → MakesForm recipe old new (Ok form)
  made-asked new asks made = subst (λ (p : PassView). MakesForm recipe old p (Ok form)) (sym asks)
      (made, ap (λ fs. fs ++ form.now ∷ []) same, (number, draws), puts)

  most : PutsAtMost form.now old mid → form.now.recipe ≡ recipe → PutsAtMostOne recipe old mid
  most p made = ⊎_elim
      (λ (none : mid.made ≡ old.made). inl none)
      (λ (one : PutsForm form.now old mid). inr (form.now, made, one))
      p

  pub made-refused : (new : PassView) (r : Result (Bor FormView) EditError) → new ≡ mid → form.now.recipe ≡ recipe → IsErrAnd r (λ e. e ≡ NoMemory) →
      MakesForm recipe old new r
  made-refused new (Ok f) unasked made is = absurd is
  made-refused new (Err e) unasked made is =
      subst (λ (p : PassView). MakesForm recipe old p (Err e)) (sym unasked)
      (subst (λ x. MakesForm recipe old mid (Err x)) (sym is) (same, inr (number, draws), most puts made))
