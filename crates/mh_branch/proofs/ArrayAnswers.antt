-- What the call of a gather answers, from what it adds to the handle that it adapts.
use Rattle.std.proofs.Common.{◌≡◌, sym, subst, ap, ◌∙◌, [], ◌∷◌, ◌++◌, append-nil, Result, Ok, Err, IfOk}
use Rattle.std.specs.Prelude.{IsTrue}
use Rattle.mh_values.specs.Array.{item_type}
use Rattle.mh_values.specs.Classes.{AreClasses}
use Rattle.mh_leaf.specs.LeafTable.{LeafTable}
use Rattle.mh_tree.specs.Rows.{gather_row}
use Rattle.mh_tree.specs.Tree.{Tree}
use Rattle.mh_tree.specs.Tree as tree
use Rattle.mh_form.specs.Erasure.{basic_of}
use Rattle.mh_edit.specs.declared.key.Key.TheVariants as key
use Rattle.mh_edit.specs.Applied.{applied}
use Rattle.mh_edit.specs.Fit.{fits}
use Rattle.mh_handle.specs.declared.error.HandleError.{HandleError}
use Rattle.mh_handle.specs.declared.growth.Growth.{Growth}
use Rattle.mh_handle.specs.declared.handle.Handle.{Handle}
use Rattle.mh_handle.specs.Grows.{GainsNode, GrowsBy}
use Rattle.mh_handle.specs.Parts.{PartsView}
use Rattle.mh_handle.specs.declared.work.Work.{Work}
use Rattle.mh_handle.specs.Recipe.{at_some, recipe}
use Rattle.mh_handle.specs.Stands.{HandleView, HasShape, IsShaped, Stands, handle_body}
use Rattle.mh_handle.specs.Works.{Makes}
use Rattle.mh_branch.specs.declared.arrays.Gathered.{Gathered}
use Rattle.mh_branch.specs.Growths.{AddsGather, IsGather, gather_keys}
use Rattle.mh_branch.proofs.ArrayFits.{gather-fits}
use Rattle.mh_branch.proofs.ArrayShapes.{gather-shaped}
use Rattle.mh_branch.proofs.GatherStands.{gather-stands}

module _ (table : LeafTable) (h : HandleView) (g : Gathered) (by : Growth) (row : gather_row table.classes h.ty h.weight g.array g.count ≡ Ok by.ty)
    (adds : AddsGather h g.array g.count by) where
  is : IsGather h adds.0 g.count by
  is = adds.2

  pub gather-fits-by : IsShaped h → IsTrue (fits by.key (handle_body h))
  gather-fits-by shaped =
      subst (λ k. IsTrue (fits k (handle_body h))) (sym is.key)
      (gather-fits table.classes h.ty h.weight g.array g.count by.ty (basic_of (item_type adds.0)) (handle_body h) row shaped.made shaped.params)

  pub gather-shaped-by : IsShaped h → HasShape (applied by.key (handle_body h)) by.ty
  gather-shaped-by shaped =
      subst (λ k. HasShape (applied k (handle_body h)) by.ty) (sym is.key)
      (gather-shaped table.classes h.ty h.weight g.array g.count adds.0 by.ty (handle_body h) row adds.1 shaped.params)

  pub gather-makes :
      (t : Tree) (old new : Work) (r : Result Handle HandleError) →
      Stands table h t →
      Makes (h.form.recipe ++ by.key ∷ []) old new r →
      Makes (recipe table (tree.Gather t g.array g.count)) old new r
  gather-makes t old new r st makes =
      let keys : by.key ∷ [] ≡ gather_keys g.array g.count =
      ap (λ x. x ∷ []) is.key ∙ sym (ap (λ o. at_some o (λ d. key.Gather g.count (basic_of (item_type d)))) adds.1) in
      subst (λ ks. Makes ks old new r) (λ i. st.made i ++ keys i) makes

  pub gather-gains : (r : Result Handle HandleError) → GrowsBy h by r → IfOk r (GainsNode h)
  gather-gains (Ok x) grows = record {
    weighed = grows.weighed ∙ is.weight;
    holds = grows.holds ∙ (ap (λ (p : PartsView). h.sides ++ p.sides) is.parts ∙ append-nil h.sides);
  }
  gather-gains (Err e) grows = grows

  pub gather-answers : (r : Result Handle HandleError) (t : Tree) → AreClasses table.classes → GrowsBy h by r → Stands table h t →
      IfOk r (λ x. Stands table x (tree.Gather t g.array g.count))
  gather-answers (Ok x) t are grows st =
      gather-stands table h x t g.array g.count adds.0 by.ty are st row adds.1 (record {
        typed = grows.typed;
        weighed = grows.weighed ∙ is.weight;
        holds = grows.holds ∙ ap (λ (p : PartsView). h.sides ++ p.sides) is.parts;
        made = grows.made ∙ ap (λ j. h.form.recipe ++ j ∷ []) is.key;
        fielded = grows.fielded ∙ ap (λ (p : PartsView). h.fields ++ p.fields) is.parts;
      })
  gather-answers (Err e) t are grows st = grows
