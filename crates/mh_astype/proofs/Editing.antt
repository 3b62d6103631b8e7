-- What a generic call leaves of the work, by what its edit leaves of the pass.
use Rattle.std.proofs.Common.{◌≡◌, refl, sym, subst, ap, ◌∙◌, ℕ, false, if◌then◌else◌, List, [], ◌∷◌, ◌++◌, Result, Ok, Err, inl, inr, ⊎_elim}
use Rattle.std.specs.Prelude.{IsErrAnd}
use denote.Ref.{Bor}
use Rattle.mh_values.specs.declared.class.Class.{Class}
use Rattle.mh_values.specs.declared.types.MethodTy.{MethodTy}
use Rattle.mh_values.specs.declared.value.Exc.{Exc}
use Rattle.mh_values.specs.Same.{is_same_method_type}
use Rattle.mh_tree.specs.Rows.{TypeOrRefusal, astype_row}
use Rattle.mh_edit.specs.declared.key.Key.{Key}
use Rattle.mh_handle.specs.declared.answer.Answer.{Answer}
use Rattle.mh_handle.specs.declared.error.EditError.{EditError}
use Rattle.mh_handle.specs.declared.error.EditError.TheVariants.{NoMemory, FormsFull}
use Rattle.mh_handle.specs.declared.work.Work.{Work}
use Rattle.mh_handle.specs.Form.{FormView}
use Rattle.mh_handle.specs.Passes.{Edits}
use Rattle.mh_handle.specs.Recipe.{convert_keys}
use Rattle.mh_astype.specs.Calls.{AsksBy, call_keys, unless_refused}
use Rattle.mh_astype.proofs.Using.{trivial, convert_key, keys-changed}

module _ (classes : List Class) (asked own : MethodTy) (recipe : List Key) (key : Key) (old new : Work) (is : trivial classes asked own ≡ false)
    (k : key ≡ convert_key classes asked own) where
  at-key : (r : Result Answer EditError) → AsksBy recipe (key ∷ []) old new r → AsksBy recipe (convert_keys classes asked own) old new r
  at-key r h =
      let P : List Key → Type 0 = λ ks. AsksBy recipe ks old new r in
      subst P (sym (keys-changed classes asked own is)) (subst P (ap (λ (x : Key). x ∷ []) k) h)

  pub asks-edited : (f : Bor FormView) (a : Answer) → Edits (recipe ++ key ∷ []) old.pass.now new.pass.now (Ok f) →
      AsksBy recipe (convert_keys classes asked own) old new (Ok a)
  asks-edited f a e = at-key (Ok a) ((f.now, e.0, e.1, e.3, e.4), e.2)

  pub asks-without-memory : (f : Bor FormView) → Edits (recipe ++ key ∷ []) old.pass.now new.pass.now (Ok f) →
      AsksBy recipe (convert_keys classes asked own) old new (Err NoMemory)
  asks-without-memory f e =
      at-key (Err NoMemory) (inr (f.now, e.0, e.1, e.3, e.4), e.2, ⊎_elim (λ same. inl same) (λ puts. inr (f.now, e.0, puts)) e.4)

  pub asks-refused : (e : EditError) → Edits (recipe ++ key ∷ []) old.pass.now new.pass.now (Err e) →
      AsksBy recipe (convert_keys classes asked own) old new (Err e)
  asks-refused NoMemory h = at-key (Err NoMemory) (inl h.0.1, h.1, h.2)
  asks-refused (FormsFull drawn) h = at-key (Err (FormsFull drawn)) h

pub asks-nothing : (recipe keys : List Key) (w : Work) → AsksBy recipe keys w w (Err NoMemory)
asks-nothing recipe [] w = refl
asks-nothing recipe (k ∷ keys) w = (inl refl, inl refl, inl refl)

-- the same where the refusal is handed on
pub asks-error :
    (classes : List Class) (asked own : MethodTy) (recipe : List Key) (key : Key) (old new : Work) (e : EditError) (r : Result Answer EditError) →
    trivial classes asked own ≡ false → key ≡ convert_key classes asked own → Edits (recipe ++ key ∷ []) old.pass.now new.pass.now (Err e) →
    IsErrAnd r (λ x. x ≡ e) →
    AsksBy recipe (convert_keys classes asked own) old new r
asks-error classes asked own recipe key old new e (Ok a) is k edits h = absurd h
asks-error classes asked own recipe key old new e (Err x) is k edits h =
    subst (λ v. AsksBy recipe (convert_keys classes asked own) old new (Err v)) (sym h) (asks-refused classes asked own recipe key old new is k e edits)

pub asks-late :
    (classes : List Class) (asked own : MethodTy) (recipe : List Key) (key : Key) (old new : Work) (f : Bor FormView) (r : Result Answer EditError) →
    trivial classes asked own ≡ false → key ≡ convert_key classes asked own → Edits (recipe ++ key ∷ []) old.pass.now new.pass.now (Ok f) →
    IsErrAnd r (λ x. x ≡ NoMemory) →
    AsksBy recipe (convert_keys classes asked own) old new r
asks-late classes asked own recipe key old new f (Ok a) is k edits h = absurd h
asks-late classes asked own recipe key old new f (Err x) is k edits h =
    subst (λ v. AsksBy recipe (convert_keys classes asked own) old new (Err v)) (sym h) (asks-without-memory classes asked own recipe key old new is k f edits)

-- a call that is refused asks for no form
pub asks-no_form : (classes : List Class) (own : MethodTy) (weight : ℕ) (asked : MethodTy) (e : Exc) (recipe : List Key) (w : Work) (a : Answer) →
    is_same_method_type own asked ≡ false → astype_row classes own weight asked ≡ Err e → AsksBy recipe (call_keys classes own weight asked) w w (Ok a)
asks-no_form classes own weight asked e recipe w a other row =
    let none : call_keys classes own weight asked ≡ [] =
    ap (λ b. if b then [] else unless_refused (astype_row classes own weight asked) (convert_keys classes asked own)) other
    ∙ ap (λ (r : TypeOrRefusal). unless_refused r (convert_keys classes asked own)) row in
    subst (λ keys. AsksBy recipe keys w w (Ok a)) (sym none) refl

pub asks-none : (recipe keys : List Key) (w : Work) (r : Result Answer EditError) → IsErrAnd r (λ x. x ≡ NoMemory) → AsksBy recipe keys w w r
asks-none recipe keys w (Ok a) h = absurd h
asks-none recipe keys w (Err x) h = subst (λ v. AsksBy recipe keys w w (Err v)) (sym h) (asks-nothing recipe keys w)
