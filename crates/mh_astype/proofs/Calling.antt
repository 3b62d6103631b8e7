-- What exact and generic calls of a handle answer that stands for a tree.
use Rattle.std.proofs.Common.{◌≡◌, ◌≢◌, refl, sym, ap, ap₂, ◌∙◌, subst, ℕ, ◌+◌, ◌<◌, ◌^◌, Bool, true, false, List, [], ◌∷◌, ◌++◌, length, map, Option, Some, Ok, Err}
use Rattle.std.proofs.lemmas.Bool.{and_parts}
use Rattle.std.proofs.lemmas.List.{append-nil}
use Rattle.mh_values.specs.declared.class.Class.{Class}
use Rattle.mh_values.specs.declared.types.MethodTy.{MethodTy}
use Rattle.mh_values.specs.declared.value.Exc.{Exc}
use Rattle.mh_values.specs.declared.value.Value.{Value}
use Rattle.mh_values.specs.Classes.{AreClasses}
use Rattle.mh_values.specs.Computation.{Stuck, and_then}
use Rattle.mh_values.specs.HasType.{HaveTypes}
use Rattle.mh_convert.specs.declared.conv.Rules.TheVariants as rules
use Rattle.mh_convert.specs.Conversion.{is_trivial_ret}
use Rattle.mh_leaf.specs.LeafTable.{LeafTable}
use Rattle.mh_tree.specs.Tree.{Tree, AsType}
use Rattle.mh_tree.specs.Rows.{TypeOrRefusal, astype_row}
use Rattle.mh_tree.specs.Meaning.{Done, known, mean, or_throw, conv_all, conv_result}
use Rattle.mh_tree.proofs.RowParts.{convert_row-parts}
use Rattle.mh_tree.proofs.SoundConversions.{conv_all-converts}
use Rattle.mh_form.specs.declared.field.Field.{Field}
use Rattle.mh_form.specs.Erasure.{erased}
use Rattle.mh_form.specs.Run.{run_on}
use Rattle.mh_edit.specs.declared.key.Key.{Key}
use Rattle.mh_handle.specs.Answers.{AnswerView, IsAnswer, typed_ran}
use Rattle.mh_handle.specs.Form.{FormView, body_of}
use Rattle.mh_handle.specs.Recipe.{are_trivial, convert_keys, recipe}
use Rattle.mh_handle.specs.Recipe as Rec
use Rattle.mh_handle.specs.Stands.{HandleView, Stands}
use Rattle.mh_handle.specs.Converting.{IsUsedAs, convert_fields}
use Rattle.mh_handle.proofs.standing.Answering.{typed_run-stands, typed_run-well_formed}
use Rattle.mh_handle.proofs.conversions.AsTypeStands.{converted-stands as handle-stands}
use Rattle.mh_handle.proofs.conversions.TrivialConversions.{all-kept, converts-ok, or_throw-ok, run-kept}
use Rattle.mh_astype.specs.Calls.{IsRefusal}
use Rattle.mh_astype.proofs.Using.{trivial, convert_key, keys-changed, keys-kept}
pub use Rattle.mh_astype.proofs.OwnCalls.{
  answers,
  exact-differs,
  exact-same,
  exact_keys-differs,
  exact_keys-same,
  generic-refused,
  generic-same,
  generic-used,
  generic_keys-refused,
  generic_keys-same,
  generic_keys-used,
  own-typed,
  thrown-answer,
  types-are,
}

-- ---- a form that converts, on the handle's own fields

-- the handle that the form makes with its own fields and the added ones
abbrev pub used_view : MethodTy → HandleView → FormView → List Field → HandleView
used_view asked h f fields = record { ty = asked; weight = 1 + h.weight; sides = h.sides; form = f; fields = h.fields ++ fields; held = [] }

pub converted-used :
    (classes : List Class) (asked : MethodTy) (h : HandleView) (f : FormView) (key : Key) (fields : List Field) →
    trivial classes asked h.ty ≡ false → key ≡ convert_key classes asked h.ty → fields ≡ convert_fields rules.AsType classes asked h.ty →
    f.recipe ≡ h.form.recipe ++ key ∷ [] →
    IsUsedAs rules.AsType classes asked h (used_view asked h f fields)
converted-used classes asked h f key fields is k fs made = record {
  ty = refl;
  weight = refl;
  sides = refl;
  recipe = made ∙ ap (λ ks. h.form.recipe ++ ks) (ap (λ v. v ∷ []) k ∙ sym (keys-changed classes asked h.ty is));
  fields = ap (λ v. h.fields ++ v) fs;
}

module _
    (table : LeafTable) (are : AreClasses table.classes) (asked : MethodTy) (h : HandleView) (f : FormView) (key : Key) (fields : List Field)
    (row : astype_row table.classes h.ty h.weight asked ≡ Ok asked) (is : trivial table.classes asked h.ty ≡ false) (k : key ≡ convert_key table.classes asked
    h.ty)
    (fs : fields ≡ convert_fields rules.AsType table.classes asked h.ty) (made : f.recipe ≡ h.form.recipe ++ key ∷ [])
  where
    converted-stands : (t : Tree) → Stands table h t → Stands table (used_view asked h f fields) (AsType t asked)
    converted-stands t st =
        handle-stands rules.AsType table are asked asked h (used_view asked h f fields) t row
        (converted-used table.classes asked h f key fields is k fs made) st

    pub converted-runs :
        (t : Tree) (args : List Value) (n : ℕ) → Stands table h t → HaveTypes table.classes args asked.params → n < 2 ^ 32 →
        typed_ran table.classes asked.ret (run_on table (body_of f.recipe) (h.fields ++ fields) (map erased args) n) ≢ Stuck
    converted-runs t args n st have low =
        typed_run-well_formed table (used_view asked h f fields) (AsType t asked) args
        n (converted-stands t st) have low

    pub converted-answer :
        (t : Tree) (args : List Value) (n : ℕ) (a : AnswerView) → Stands table h t → HaveTypes table.classes args asked.params → n < 2 ^ 32 →
        IsAnswer (typed_ran table.classes asked.ret (run_on table (body_of f.recipe) (h.fields ++ fields) (map erased args) n)) (length f.recipe) a →
        IsAnswer (mean table (AsType t asked) args n) (length (recipe table (AsType t asked))) a
    converted-answer t args n a st have low answer = record {
      ran_is =
          answer.ran_is
          ∙ typed_run-stands table (used_view asked h f fields) (AsType t asked) args
          n (converted-stands t st) have low;
      keys_are = answer.keys_are ∙ ap length (converted-stands t st).made;
    }

-- ---- where nothing is converted

module _
    (table : LeafTable) (are : AreClasses table.classes) (asked : MethodTy) (h : HandleView) (t : Tree) (st : Stands table h t)
    (row : astype_row table.classes h.ty h.weight asked ≡ Ok asked) (kept : trivial table.classes asked h.ty ≡ true) (args : List Value)
    (have : HaveTypes table.classes args asked.params)
  where
    kept-args : conv_all rules.AsType table.classes asked.params h.ty.params args ≡ Ok args
    kept-args =
        let p = and_parts (are_trivial table.classes asked.params h.ty.params) (is_trivial_ret table.classes h.ty.ret asked.ret) kept in
        all-kept rules.AsType table.classes are asked.params h.ty.params args
        (convert_row-parts rules.AsType table.classes h.ty h.weight asked asked row).0 p.0 have

    pub kept-typed : HaveTypes table.classes args h.ty.params
    kept-typed =
        converts-ok table.classes (conv_all rules.AsType table.classes asked.params h.ty.params args) args h.ty.params kept-args
        (conv_all-converts rules.AsType table.classes are asked.params h.ty.params args
        (convert_row-parts rules.AsType table.classes h.ty h.weight asked asked row).0 have)

    pub kept-mean : (n : ℕ) → mean table t args n ≡ mean table (AsType t asked) args n
    kept-mean n =
        let p = and_parts (are_trivial table.classes asked.params h.ty.params) (is_trivial_ret table.classes h.ty.ret asked.ret) kept in
        let next : MethodTy → List Value → Done =
        λ own vs. and_then (mean table t vs n) n (λ r k. conv_result rules.AsType table.classes own.ret asked.ret r) in
        sym (ap (λ c. known c (λ own. or_throw (conv_all rules.AsType table.classes asked.params own.params args) (next own))) st.typed
        ∙ (or_throw-ok (conv_all rules.AsType table.classes asked.params h.ty.params args) args (next h.ty) kept-args
        ∙ run-kept rules.AsType table.classes are h.ty.ret asked.ret (mean table t args n) n p.1 (st.returns args n kept-typed)))

    pub kept-keys : length h.form.recipe ≡ length (recipe table (AsType t asked))
    kept-keys =
        let keys : recipe table (AsType t asked) ≡ recipe table t =
        ap (λ c. recipe table t ++ Rec.at_type c (convert_keys table.classes asked)) st.typed
        ∙ (ap (λ ks. recipe table t ++ ks) (keys-kept table.classes asked h.ty kept) ∙ append-nil (recipe table t)) in
        ap length (st.made ∙ sym keys)

-- ---- what a call tells

pub kept-is : (b : Bool) (cs classes : List Class) (own own' asked : MethodTy) → b ≡ true → b ≡ trivial cs asked own → cs ≡ classes → own ≡ own' →
    trivial classes asked own' ≡ true
kept-is b cs classes own own' asked true-is is c o = sym (ap₂ (λ (d : List Class) (t : MethodTy). trivial d asked t) c o) ∙ (sym is ∙ true-is)

pub answer-one : (ran ran' : Done) (keys keys' : ℕ) (a : AnswerView) → ran ≡ ran' → keys ≡ keys' → IsAnswer ran keys a → IsAnswer ran' keys' a
answer-one ran ran' keys keys' a e k h = record { ran_is = h.ran_is ∙ e; keys_are = h.keys_are ∙ k }

pub refusal-is : (row row' : TypeOrRefusal) (asked : MethodTy) (o : Option Exc) (e : Exc) → o ≡ Some e → IsRefusal row asked o → row ≡ row' → row' ≡ Err e
refusal-is row row' asked o e is h same = sym same ∙ subst (λ v. IsRefusal row asked v) is h
