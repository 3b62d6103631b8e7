-- A call that uses a handle as a type: what its check tells, and what it leaves.
use Rattle.std.proofs.Common.{◌≡◌, refl, sym, ap, ap₂, ◌∙◌, subst, ℕ, ◌+◌, Bool, true, false, cond, List, [], ◌++◌, Result, Ok, Err, IfOk}
use Rattle.std.proofs.lemmas.List.{append-nil}
use Rattle.mh_values.specs.declared.class.Class.{Class}
use Rattle.mh_values.specs.declared.types.MethodTy.{MethodTy}
use Rattle.mh_values.specs.Classes.{AreClasses}
use Rattle.mh_values.specs.Same.{is_same_method_type}
use Rattle.mh_convert.specs.declared.conv.Rules.{Rules}
use Rattle.mh_leaf.specs.LeafTable.{LeafTable}
use Rattle.mh_tree.specs.Tree.{Tree, converted}
use Rattle.mh_tree.specs.Rows.{TypeOrRefusal, convert_row}
use Rattle.mh_tree.specs.Use.{use_row_by, used_by}
use Rattle.mh_tree.proofs.RowParts.{convert_row-parts}
use Rattle.mh_handle.specs.declared.error.HandleError.{HandleError}
use Rattle.mh_handle.specs.declared.error.HandleError.TheVariants.{NoMemory, FormsFull, TypesFull, Refused}
use Rattle.mh_handle.specs.declared.handle.Handle.{Handle}
use Rattle.mh_handle.specs.Converting.{IsUsedAs, convert_fields}
use Rattle.mh_handle.specs.Obeys.{Obeys}
use Rattle.mh_handle.specs.declared.work.Work.{Work}
use Rattle.mh_handle.specs.Recipe.{at_type, convert_keys, recipe}
use Rattle.mh_handle.specs.Stands.{HandleView, Stands}
use Rattle.mh_handle.specs.Works.{IsAccepted}
use Rattle.mh_handle.proofs.recipes.Recipes.{recipe-converted}
use Rattle.mh_astype.specs.Use.{IsUse, MakesFrom}
use Rattle.mh_astype.proofs.Using.{used-stands}

pub differs : (b : Bool) (own own' asked : MethodTy) → b ≡ false → b ≡ is_same_method_type own asked → own ≡ own' → is_same_method_type own' asked ≡ false
differs b own own' asked unlike is e = sym (ap (λ o. is_same_method_type o asked) e) ∙ (sym is ∙ unlike)

pub row-at : (by : Rules) (cs classes : List Class) (own own' : MethodTy) (w w' : ℕ) (asked : MethodTy) → cs ≡ classes → own ≡ own' → w ≡ w' →
    convert_row by cs own w asked ≡ convert_row by classes own' w' asked
row-at by cs classes own own' w w' asked c o e =
    ap₂ (λ (d : List Class) (t : MethodTy). convert_row by d t w asked) c o ∙ ap (λ n. convert_row by classes own' n asked) e

pub row-of-other : (by : Rules) (classes : List Class) (own : MethodTy) (w : ℕ) (asked : MethodTy) → is_same_method_type own asked ≡ false →
    convert_row by classes own w asked ≡ use_row_by by classes own w asked
row-of-other by classes own w asked other = sym (ap (λ b. cond b (Ok own) (convert_row by classes own w asked)) other)

-- the type that was found is the one that was asked for
pub found-row : (by : Rules) (classes : List Class) (own : MethodTy) (w : ℕ) (asked u : MethodTy) → convert_row by classes own w asked ≡ Ok u →
    convert_row by classes own w u ≡ Ok u
found-row by classes own w asked u row = let P : MethodTy → Type 0 = λ a. convert_row by classes own w a ≡ Ok u in
    subst P (sym (convert_row-parts by classes own w asked u row).2) row

-- and so the type that was asked for is found
pub asked-row : (by : Rules) (classes : List Class) (own : MethodTy) (w : ℕ) (asked u : MethodTy) → convert_row by classes own w asked ≡ Ok u →
    convert_row by classes own w asked ≡ Ok asked
asked-row by classes own w asked u row = row ∙ ap Ok (convert_row-parts by classes own w asked u row).2

pub used-obeys :
    (by : Rules) (row : TypeOrRefusal) (classes : List Class) (asked : MethodTy) (old : HandleView) (r : Result Handle HandleError) →
    row ≡ Ok asked → IsAccepted r → IfOk r (IsUsedAs by classes asked old) → Obeys row r
used-obeys by row classes asked old (Ok h) is accepted used = is ∙ ap Ok (sym used.ty)
used-obeys by row classes asked old (Err NoMemory) is accepted used = tt
used-obeys by row classes asked old (Err (FormsFull drawn)) is accepted used = (asked, is)
used-obeys by row classes asked old (Err (TypesFull bucket)) is accepted used = (asked, is)
used-obeys by row classes asked old (Err (Refused e)) is accepted used = absurd accepted

-- the handle itself, where it has the type
pub use-same : (by : Rules) (classes : List Class) (asked : MethodTy) (h : HandleView) → is_same_method_type h.ty asked ≡ true → IsUse by classes asked h h
use-same by classes asked h same = record {
  weight = sym (ap (λ b. cond b h.weight (1 + h.weight)) same);
  sides = refl;
  recipe = sym (ap (λ b. h.form.recipe ++ cond b [] (convert_keys classes asked h.ty)) same ∙ append-nil h.form.recipe);
  fields = sym (ap (λ b. h.fields ++ cond b [] (convert_fields by classes asked h.ty)) same ∙ append-nil h.fields);
}

-- and one that is converted, where it has another
pub use-other :
    (by : Rules) (classes : List Class) (own : MethodTy) (asked u : MethodTy) (h : HandleView) (r : Result Handle HandleError) →
    is_same_method_type h.ty asked ≡ false → convert_row by classes h.ty h.weight asked ≡ Ok u → IfOk r (IsUsedAs by classes u h) →
    IfOk r (IsUse by classes asked h)
use-other by classes own asked u h (Ok new) other row used = record {
  weight = used.weight ∙ sym (ap (λ b. cond b h.weight (1 + h.weight)) other);
  sides = used.sides;
  recipe = used.recipe ∙ (ap (λ a. h.form.recipe ++ convert_keys classes a h.ty) (convert_row-parts by classes h.ty h.weight asked u row).2
      ∙ sym (ap (λ b. h.form.recipe ++ cond b [] (convert_keys classes asked h.ty)) other));
  fields = used.fields ∙ (ap (λ a. h.fields ++ convert_fields by classes a h.ty) (convert_row-parts by classes h.ty h.weight asked u row).2
      ∙ sym (ap (λ b. h.fields ++ cond b [] (convert_fields by classes asked h.ty)) other));
}
use-other by classes own asked u h (Err e) other row used = used

module _ (by : Rules) (table : LeafTable) (asked : MethodTy) (h : HandleView) (t : Tree) (st : Stands table h t) where
  -- the recipe of the handle's tree, used as the type that it has
  pub same-recipe : is_same_method_type h.ty asked ≡ true → recipe table (used_by by h.ty asked t) ≡ recipe table t
  same-recipe same = ap (λ b. recipe table (cond b t (converted by t asked))) same

  other-recipe : is_same_method_type h.ty asked ≡ false → recipe table (used_by by h.ty asked t) ≡ h.form.recipe ++ convert_keys table.classes asked h.ty
  other-recipe other =
      ap (λ b. recipe table (cond b t (converted by t asked))) other
      ∙ (recipe-converted by table t asked ∙ (λ i. sym st.made i ++ at_type (st.typed i) (convert_keys table.classes asked)))

  -- what is left of the work, said of the trees
  pub trees-make :
      (old new : Work) (r : Result Handle HandleError) → is_same_method_type h.ty asked ≡ false →
      MakesFrom h.form.recipe (h.form.recipe ++ convert_keys table.classes asked h.ty) old new r →
      MakesFrom (recipe table t) (recipe table (used_by by h.ty asked t)) old new r
  trees-make old new r other makes =
      subst (λ ks. MakesFrom (recipe table t) ks old new r) (sym (other-recipe other))
      (subst (λ ks. MakesFrom ks (h.form.recipe ++ convert_keys table.classes asked h.ty) old new r) st.made makes)

  pub used-makes :
      (u : MethodTy) (old new : Work) (r : Result Handle HandleError) → is_same_method_type h.ty asked ≡ false →
      convert_row by table.classes h.ty h.weight asked ≡ Ok u →
      MakesFrom h.form.recipe (h.form.recipe ++ convert_keys table.classes u h.ty) old new r →
      MakesFrom (recipe table t) (recipe table (used_by by h.ty asked t)) old new r
  used-makes u old new r other row makes =
      let asks : MethodTy → Type 0 = λ a. MakesFrom h.form.recipe (h.form.recipe ++ convert_keys table.classes a h.ty) old new r in
      trees-make old new r other (subst asks (convert_row-parts by table.classes h.ty h.weight asked u row).2 makes)

pub asked-stands :
    (by : Rules) (table : LeafTable) (asked u : MethodTy) (old : HandleView) (t : Tree) (r : Result Handle HandleError) →
    AreClasses table.classes → is_same_method_type old.ty asked ≡ false → convert_row by table.classes old.ty old.weight asked ≡ Ok u → Stands table old t →
    IfOk r (IsUsedAs by table.classes u old) → IfOk r (λ new. Stands table new (used_by by old.ty asked t))
asked-stands by table asked u old t r are other row st used =
    let P : MethodTy → Type 0 = λ a. IfOk r (IsUsedAs by table.classes a old) in
    used-stands by table asked u old t r are other row st (subst P (convert_row-parts by table.classes old.ty old.weight asked u row).2 used)
