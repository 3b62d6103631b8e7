-- A handle whose fields stand for what those of another one stand for stands for what that one stands for.
use Rattle.std.proofs.Common.{◌≡◌, sym, subst, ap, ◌∙◌, ℕ, List, Ok, map, length}
use Rattle.std.proofs.lemmas.List.{length-map}
use Rattle.mh_values.specs.declared.types.MethodTy.{MethodTy}
use Rattle.mh_values.specs.declared.value.Value.{Value}
use Rattle.mh_values.specs.HasType.{HaveTypes}
use Rattle.mh_leaf.specs.LeafTable.{LeafTable}
use Rattle.mh_tree.specs.Tree.{Tree}
use Rattle.mh_tree.specs.Meaning.{mean}
use Rattle.mh_tree.specs.Sound.{IsSound}
use Rattle.mh_form.specs.declared.body.FormBody.{FormBody}
use Rattle.mh_form.specs.declared.slot.Slot.{Slot}
use Rattle.mh_form.specs.Erasure.{basic_of, erased}
use Rattle.mh_form.specs.Run.{run_body, sense}
use Rattle.mh_handle.specs.Form.{FormView, body_of}
use Rattle.mh_handle.specs.Stands.{HandleView, IsMade, Stands, handle_body, handle_run}

pub stands-copied :
    (table : LeafTable) (h h' : HandleView) (t : Tree) →
    h'.ty ≡ h.ty →
    h'.weight ≡ h.weight →
    h'.sides ≡ h.sides →
    h'.form ≡ h.form →
    map (sense table) h'.fields ≡ map (sense table) h.fields →
    Stands table h t →
    Stands table h' t
stands-copied table h h' t ty weight sides form same st =
    let body : handle_body h' ≡ handle_body h = ap (λ (f : FormView). body_of f.recipe) form in
    let run : (xs : List Slot) (n : ℕ) → handle_run table h' xs n ≡ handle_run table h xs n =
    λ xs n. ap (λ b. run_body b (map (sense table) h'.fields) xs n) body ∙ ap (λ ss. run_body (handle_body h) ss xs n) same in
    let typed : (args : List Value) → HaveTypes table.classes args h'.ty.params → HaveTypes table.classes args h.ty.params =
    λ args have. subst (λ (m : MethodTy). HaveTypes table.classes args m.params) ty have in
    record {
      typed = st.typed ∙ ap Ok (sym ty);
      weighed = weight ∙ st.weighed;
      made = ap (λ (f : FormView). f.recipe) form ∙ st.made;
      holds = sides ∙ st.holds;
      fielded = sym (length-map h'.fields (sense table)) ∙
          (ap length same ∙ (length-map h.fields (sense table) ∙ (st.fielded ∙ ap (λ (b : FormBody). b.fields) (sym body))));
      shaped = ap (λ (b : FormBody). b.params) body ∙ (st.shaped ∙ ap (λ (m : MethodTy). map basic_of m.params) (sym ty));
      begun = subst IsMade (sym body) st.begun;
      runs = λ args n have low. run (map erased args) n ∙ st.runs args n (typed args have) low;
      well_formed = λ args n have low e. st.well_formed args n (typed args have) low (sym (run (map erased args) n) ∙ e);
      returns = subst (IsSound table.classes (mean table t)) (sym ty) st.returns;
    }
