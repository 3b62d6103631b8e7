-- A handle that grew by a part stands for the tree that is made of the handle's tree and the part's.
use Rattle.std.proofs.Common.{◌≡◌, sym, ap, ◌∙◌, ℕ, ◌+◌, ◌<◌, ◌^◌, List, [], ◌∷◌, ◌++◌, map, Ok}
use Rattle.mh_values.specs.declared.types.MethodTy.{MethodTy}
use Rattle.mh_values.specs.declared.value.Value.{Value}
use Rattle.mh_values.specs.HasType.{HaveTypes}
use Rattle.mh_leaf.specs.LeafTable.{LeafTable}
use Rattle.mh_tree.specs.Rows.{TypeOrRefusal}
use Rattle.mh_tree.specs.Tree.{Tree, weight}
use Rattle.mh_tree.specs.Typing.{type_of, with_type, held_before, sides}
use Rattle.mh_tree.specs.Meaning.{mean}
use Rattle.mh_tree.specs.Sound.{IsSound}
use Rattle.mh_form.specs.declared.field.Field.{Field}
use Rattle.mh_form.specs.Erasure.{basic_of, erased, erased_ran}
use Rattle.mh_form.specs.Run.{run_on}
use Rattle.mh_edit.specs.declared.key.Key.{Key}
use Rattle.mh_edit.specs.Applied.{applied}
use Rattle.mh_handle.specs.Grows.{Grows}
use Rattle.mh_handle.specs.Recipe.{at_type, recipe}
use Rattle.mh_handle.specs.Stands.{HandleView, IsMade, Stands, handle_body}
use Rattle.mh_handle.proofs.standing.Standing.{stands-grown}

-- a tree of two others, by the row and the key of a combinator with a part
pub record IsOfTwo (table : LeafTable) (row : MethodTy → ℕ → MethodTy → ℕ → TypeOrRefusal) (key_of : MethodTy → Key) (a b t : Tree) : Type 0 where
  pub typed : type_of table t ≡ with_type (type_of table a) (λ ty. with_type (type_of table b) (λ part. row ty (weight a) part (weight b)))
  pub weighed : weight t ≡ 1 + weight a + weight b
  pub holds : sides table t ≡ sides table a ++ held_before (type_of table b) (sides table b)
  pub keyed : recipe table t ≡ recipe table a ++ at_type (type_of table b) (λ part. key_of part ∷ [])

-- what the edited body is and does
pub record DoesAs (table : LeafTable) (h : HandleView) (k : Key) (f : Field) (u : MethodTy) (t : Tree) : Type 0 where
  pub fielded : (applied k (handle_body h)).fields ≡ (handle_body h).fields + 1
  pub shaped : (applied k (handle_body h)).params ≡ map basic_of u.params
  pub begun : IsMade (applied k (handle_body h))
  pub runs :
      (args : List Value) (n : ℕ) → HaveTypes table.classes args u.params → n < 2 ^ 32 →
      run_on table (applied k (handle_body h)) (h.fields ++ f ∷ []) (map erased args) n ≡ erased_ran (mean table t args n)
  pub returns : IsSound table.classes (mean table t) u

pub stands-parted :
    (table : LeafTable) (h h' g : HandleView) (a b t : Tree) (row : MethodTy → ℕ → MethodTy → ℕ → TypeOrRefusal)
    (key_of : MethodTy → Key) (u : MethodTy) (f : Field) →
    IsOfTwo table row key_of a b t →
    row h.ty h.weight g.ty g.weight ≡ Ok u →
    Grows h h' u (1 + h.weight + g.weight) (g.ty ∷ g.sides) (key_of g.ty) (f ∷ []) →
    Stands table h a →
    Stands table g b →
    DoesAs table h (key_of g.ty) f u t →
    Stands table h' t
stands-parted table h h' g a b t row key_of u f of_two gives grows st sp does =
    stands-grown table h h' a t u (1 + h.weight + g.weight) (g.ty ∷ g.sides) (key_of g.ty) (f ∷ []) grows st (record {
      typed = of_two.typed ∙ ((λ i. with_type (st.typed i) (λ ty. with_type (sp.typed i) (λ part. row ty (sym st.weighed i) part (sym sp.weighed i)))) ∙ gives);
      weighed = (λ i. 1 + st.weighed i + sp.weighed i) ∙ sym of_two.weighed;
      holds = of_two.holds ∙ (ap (λ c. sides table a ++ held_before c (sides table b)) sp.typed ∙ ap (λ s. sides table a ++ g.ty ∷ s) (sym sp.holds));
      keyed = of_two.keyed ∙ ap (λ c. recipe table a ++ at_type c (λ part. key_of part ∷ [])) sp.typed;
      fielded = does.fielded;
      shaped = does.shaped;
      begun = does.begun;
      runs = does.runs;
      returns = does.returns;
    })
