-- What holds of each joint: where its rule gives a type, its key fits the handle's form, and the handle that grows by it stands for the tree of both.
use Rattle.std.proofs.Common.{◌≡◌, sym, subst, ap, ◌∙◌, ◌+◌, ◌≤◌, List, ◌∷◌, [], ◌++◌, map, not, arith, Result, Ok}
use Rattle.mh_values.specs.declared.types.MethodTy.{MethodTy}
use Rattle.mh_leaf.specs.LeafTable.{LeafTable}
use Rattle.mh_tree.specs.declared.joints.Joint.{Joint}
use Rattle.mh_tree.specs.declared.joints.Joint.TheVariants as joint
use Rattle.mh_tree.specs.Joints.{joint_row, joint_tree}
use Rattle.mh_tree.specs.Tree.{Tree}
use Rattle.mh_tree.specs.Typing.{type_of}
use Rattle.mh_tree.proofs.RowParts.{filterret_row-parts}
use Rattle.mh_form.specs.declared.field.Field.{Field}
use Rattle.mh_form.specs.Erasure.{basic_of}
use Rattle.mh_edit.specs.declared.key.Key.{Key}
use Rattle.mh_handle.specs.declared.error.HandleError.{HandleError}
use Rattle.mh_handle.specs.declared.handle.Handle.{Handle}
use Rattle.mh_handle.specs.declared.work.Work.{Work}
use Rattle.mh_handle.specs.Grows.{Grows}
use Rattle.mh_handle.specs.Parts.{IsPartOf, held_by}
use Rattle.mh_handle.specs.Recipe.{at_type, recipe}
use Rattle.mh_handle.specs.Stands.{HandleView, IsShaped, Stands}
use Rattle.mh_handle.specs.Works.{Makes}
use Rattle.mh_adapt.specs.Parts.{IsCounted, joint_key}
use Rattle.mh_adapt.proofs.CollectStands.{collect-stands}
use Rattle.mh_adapt.proofs.FilterReturnStands.{filterret-stands}
use Rattle.mh_adapt.proofs.FilterStands.{filter-stands}
use Rattle.mh_adapt.proofs.FoldStands.{fold-stands}
use Rattle.mh_adapt.proofs.PartAnswers.{IsSuited}
use Rattle.mh_adapt.proofs.PartSuits.{collect-suited, filter-suited, fold-few, fold-suited}

module _ (t f : HandleView) (u : MethodTy) where
  pub joint-light : (j : Joint) → joint_row j t.ty t.weight f.ty f.weight ≡ Ok u → 1 + t.weight + f.weight ≤ 256
  joint-light (joint.Filter place) row = grind arith
  joint-light joint.FilterReturn row = grind arith
  joint-light (joint.Fold place) row = grind arith
  joint-light (joint.Collect place) row = grind arith

  module _ (shaped : IsShaped t) where
    pub joint-counted : (j : Joint) → joint_row j t.ty t.weight f.ty f.weight ≡ Ok u → IsCounted j f.ty
    joint-counted (joint.Filter place) row = tt
    joint-counted joint.FilterReturn row = tt
    joint-counted (joint.Fold place) row = fold-few t f shaped place u row
    joint-counted (joint.Collect place) row = tt

    pub joint-suited : (j : Joint) → joint_row j t.ty t.weight f.ty f.weight ≡ Ok u → IsSuited u t (joint_key j f.ty)
    joint-suited (joint.Filter place) row = filter-suited t f shaped place u row
    joint-suited joint.FilterReturn row = record {
      fit = ap not shaped.made;
      shaped = shaped.params ∙ ap (λ (m : MethodTy). map basic_of m.params) (sym (filterret_row-parts t.ty t.weight f.ty f.weight u row).1);
    }
    joint-suited (joint.Fold place) row = fold-suited t f shaped place u row
    joint-suited (joint.Collect place) row = collect-suited t f shaped place u row

module _ (table : LeafTable) (h g : HandleView) (a b : Tree) (st : Stands table h a) (sp : Stands table g b) where
  recipe-with : (keys : MethodTy → List Key) → recipe table a ++ at_type (type_of table b) keys ≡ h.form.recipe ++ keys g.ty
  recipe-with keys = λ i. sym st.made i ++ at_type (sp.typed i) keys

  joint-recipe : (j : Joint) → recipe table (joint_tree j a b) ≡ h.form.recipe ++ joint_key j g.ty ∷ []
  joint-recipe (joint.Filter place) = recipe-with (λ p. joint_key (joint.Filter place) p ∷ [])
  joint-recipe joint.FilterReturn = recipe-with (λ p. joint_key joint.FilterReturn p ∷ [])
  joint-recipe (joint.Fold place) = recipe-with (λ p. joint_key (joint.Fold place) p ∷ [])
  joint-recipe (joint.Collect place) = recipe-with (λ p. joint_key (joint.Collect place) p ∷ [])

  pub joint-makes : (j : Joint) (k : Key) (old new : Work) (r : Result Handle HandleError) → k ≡ joint_key j g.ty →
      Makes (h.form.recipe ++ k ∷ []) old new r → Makes (recipe table (joint_tree j a b)) old new r
  joint-makes j k old new r is makes =
      subst (λ ks. Makes ks old new r) (ap (λ x. h.form.recipe ++ x ∷ []) is ∙ sym (joint-recipe j)) makes

  pub joint-stands : (j : Joint) (h' : HandleView) (f : Field) (u : MethodTy) → joint_row j h.ty h.weight g.ty g.weight ≡ Ok u → IsPartOf g f →
      Grows h h' u (1 + h.weight + g.weight) (held_by g) (joint_key j g.ty) (f ∷ []) → Stands table h' (joint_tree j a b)
  joint-stands (joint.Filter place) h' f u row part grows = filter-stands table h h' g a b place f u row part grows st sp
  joint-stands joint.FilterReturn h' f u row part grows = filterret-stands table h h' g a b f u row part grows st sp
  joint-stands (joint.Fold place) h' f u row part grows = fold-stands table h h' g a b place f u row part grows st sp
  joint-stands (joint.Collect place) h' f u row part grows = collect-stands table h h' g a b place f u row part grows st sp
