-- Calls of a handle by its own type, and by another one that is refused.
use Rattle.std.proofs.Common.{◌≡◌, sym, ap, ◌∙◌, subst, ℕ, Bool, true, false, cond, List, [], length, Result, Ok, Err, IfOk}
use Rattle.mh_values.specs.declared.class.Class.{Class}
use Rattle.mh_values.specs.declared.types.MethodTy.{MethodTy}
use Rattle.mh_values.specs.declared.value.Exc.{Exc}
use Rattle.mh_values.specs.declared.value.Outcome.TheVariants.{Throw}
use Rattle.mh_values.specs.declared.value.Value.{Value}
use Rattle.mh_values.specs.Computation.{Threw}
use Rattle.mh_values.specs.HasType.{HaveTypes}
use Rattle.mh_values.specs.Same.{is_same_method_type}
use Rattle.mh_values.proofs.SameTypes.{same_method_type-is}
use Rattle.mh_leaf.specs.LeafTable.{LeafTable}
use Rattle.mh_tree.specs.Tree.{Tree, AsType, weight}
use Rattle.mh_tree.specs.Rows.{astype_row, mismatch}
use Rattle.mh_tree.specs.Typing.{with_type, type_of}
use Rattle.mh_tree.specs.Meaning.{Done, known, mean, exact, exact_at, generic, generic_at}
use Rattle.mh_tree.specs.Meaning as meaning
use Rattle.mh_handle.specs.Answers.{AnswerView, IsAnswer}
use Rattle.mh_handle.specs.Recipe.{recipe}
use Rattle.mh_handle.specs.Stands.{HandleView, Stands}
use Rattle.mh_astype.specs.Calls.{at_type, exact_keys, generic_keys}

-- an answer of one kind is one of an equal kind
pub answers :
    {E : Type 0} (ran ran' : Done) (keys keys' : ℕ) (r : Result AnswerView E) → ran ≡ ran' → keys ≡ keys' → IfOk r (IsAnswer ran keys) →
    IfOk r (IsAnswer ran' keys')
answers ran ran' keys keys' (Ok a) e k h = record { ran_is = h.ran_is ∙ e; keys_are = h.keys_are ∙ k }
answers ran ran' keys keys' (Err x) e k h = h

module _ (table : LeafTable) (h : HandleView) (t : Tree) (asked : MethodTy) (st : Stands table h t) where
  -- ---- exact calls

  pub exact-same : (args : List Value) (n : ℕ) → is_same_method_type h.ty asked ≡ true → mean table t args n ≡ exact table t asked args n
  exact-same args n is =
      sym (ap (λ c. known c (λ own. exact_at table t own asked args n)) st.typed ∙
      ap (λ b. cond b (mean table t args n) (Threw (mismatch table.classes h.ty asked) [])) is)

  pub exact-differs : (args : List Value) (n : ℕ) → is_same_method_type h.ty asked ≡ false → Threw (mismatch table.classes h.ty asked) [] ≡ exact table t asked
      args n
  exact-differs args n is =
      sym (ap (λ c. known c (λ own. exact_at table t own asked args n)) st.typed ∙
      ap (λ b. cond b (mean table t args n) (Threw (mismatch table.classes h.ty asked) [])) is)

  pub exact_keys-same : is_same_method_type h.ty asked ≡ true → length h.form.recipe ≡ exact_keys table t asked
  exact_keys-same is =
      sym (ap (λ c. at_type c (λ own. cond (is_same_method_type own asked) (length (recipe table t)) 0)) st.typed
      ∙ (ap (λ b. cond b (length (recipe table t)) 0) is ∙ ap length (sym st.made)))

  pub exact_keys-differs : is_same_method_type h.ty asked ≡ false → 0 ≡ exact_keys table t asked
  exact_keys-differs is =
      sym (ap (λ c. at_type c (λ own. cond (is_same_method_type own asked) (length (recipe table t)) 0)) st.typed ∙ ap (λ b. cond b (length (recipe table t)) 0)
      is)

  -- ---- generic calls

  type-is : type_of table (AsType t asked) ≡ astype_row table.classes h.ty h.weight asked
  type-is =
      ap (λ c. with_type c (λ own. astype_row table.classes own (weight t) asked)) st.typed ∙ ap (λ w. astype_row table.classes h.ty w asked) (sym st.weighed)

  at-own : (args : List Value) (n : ℕ) → generic table t asked args n ≡ generic_at table t h.ty asked args n
  at-own args n = ap (λ c. known c (λ own. generic_at table t own asked args n)) st.typed

  other-run : (args : List Value) (n : ℕ) → Done
  other-run args n = meaning.unless_refused (type_of table (AsType t asked)) (mean table (AsType t asked) args n)

  pub generic-same : (args : List Value) (n : ℕ) → is_same_method_type h.ty asked ≡ true → mean table t args n ≡ generic table t asked args n
  unfolding other-run
  generic-same args n is = sym (at-own args n ∙ ap (λ b. cond b (mean table t args n) (other-run args n)) is)

  pub generic-refused : (args : List Value) (n : ℕ) (e : Exc) → is_same_method_type h.ty asked ≡ false → astype_row table.classes h.ty h.weight asked ≡ Err e →
      Threw e [] ≡ generic table t asked args n
  unfolding other-run
  generic-refused args n e is row =
      sym (at-own args n
      ∙ (ap (λ b. cond b (mean table t args n) (other-run args n)) is
      ∙ ap (λ c. meaning.unless_refused c (mean table (AsType t asked) args n)) (type-is ∙ row)))

  pub generic-used : (args : List Value) (n : ℕ) (u : MethodTy) → is_same_method_type h.ty asked ≡ false → astype_row table.classes h.ty h.weight asked ≡ Ok u →
      mean table (AsType t asked) args n ≡ generic table t asked args n
  unfolding other-run
  generic-used args n u is row =
      sym (at-own args n
      ∙ (ap (λ b. cond b (mean table t args n) (other-run args n)) is
      ∙ ap (λ c. meaning.unless_refused c (mean table (AsType t asked) args n)) (type-is ∙ row)))

  other-keys : ℕ
  other-keys = at_type (type_of table (AsType t asked)) (λ u. length (recipe table (AsType t asked)))

  own-keys : generic_keys table t asked ≡ cond (is_same_method_type h.ty asked) (length (recipe table t)) other-keys
  unfolding other-keys
  own-keys =
      ap (λ c. at_type c (λ own. cond (is_same_method_type own asked) (length (recipe table t)) (at_type (type_of table (AsType t asked))
      (λ u. length (recipe table (AsType t asked)))))) st.typed

  pub generic_keys-same : is_same_method_type h.ty asked ≡ true → length h.form.recipe ≡ generic_keys table t asked
  generic_keys-same is = sym (own-keys ∙ (ap (λ b. cond b (length (recipe table t)) other-keys) is ∙ ap length (sym st.made)))

  pub generic_keys-refused : (e : Exc) → is_same_method_type h.ty asked ≡ false → astype_row table.classes h.ty h.weight asked ≡ Err e →
      0 ≡ generic_keys table t asked
  unfolding other-keys
  generic_keys-refused e is row =
      sym (own-keys ∙ (ap (λ b. cond b (length (recipe table t)) other-keys) is ∙ ap (λ c. at_type c (λ u. length (recipe table (AsType t asked)))) (type-is ∙
      row)))

  pub generic_keys-used : (u : MethodTy) → is_same_method_type h.ty asked ≡ false → astype_row table.classes h.ty h.weight asked ≡ Ok u →
      length (recipe table (AsType t asked)) ≡ generic_keys table t asked
  unfolding other-keys
  generic_keys-used u is row =
      sym (own-keys ∙ (ap (λ b. cond b (length (recipe table t)) other-keys) is ∙ ap (λ c. at_type c (λ v. length (recipe table (AsType t asked)))) (type-is ∙
      row)))

-- the types are one
pub types-are : (b : Bool) (own own' asked : MethodTy) → b ≡ true → b ≡ is_same_method_type own asked → own ≡ own' → is_same_method_type own' asked ≡ true
types-are b own own' asked alike is e = sym (ap (λ o. is_same_method_type o asked) e) ∙ (sym is ∙ alike)

pub own-typed : (classes : List Class) (own asked : MethodTy) (args : List Value) → is_same_method_type own asked ≡ true → HaveTypes classes args asked.params →
    HaveTypes classes args own.params
own-typed classes own asked args is have =
    let P : MethodTy → Type 0 = λ m. HaveTypes classes args m.params in subst P (sym (same_method_type-is own asked is)) have

-- an answer that throws
pub thrown-answer : (ran : Done) (keys : ℕ) (e e' : Exc) (a : AnswerView) → a ≡ record { outcome = Throw e; calls = []; keys = 0 } → e ≡ e' → Threw e' [] ≡ ran
    → 0 ≡ keys → IsAnswer ran keys a
thrown-answer ran keys e e' a is same run count =
    let P : AnswerView → Type 0 = λ v. IsAnswer ran keys v in
    subst P (sym is) (record { ran_is = ap (λ x. Threw x []) same ∙ run; keys_are = count })
