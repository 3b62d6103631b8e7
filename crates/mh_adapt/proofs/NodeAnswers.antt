-- What the calls of adapters without a part need and answer, from what they add to the handle that they adapt.
use Rattle.std.proofs.Common.{ap, ◌∙◌, ◌+◌, List, [], ◌∷◌, ◌++◌, append-nil, Result, Ok, Err, IfOk}
use Rattle.mh_leaf.specs.LeafTable.{LeafTable}
use Rattle.mh_tree.specs.Tree.{Tree}
use Rattle.mh_form.specs.declared.field.Field.{Field}
use Rattle.mh_edit.specs.declared.key.Key.{Key}
use Rattle.mh_handle.specs.declared.error.HandleError.{HandleError}
use Rattle.mh_handle.specs.declared.growth.Growth.{Growth}
use Rattle.mh_handle.specs.declared.handle.Handle.{Handle}
use Rattle.mh_handle.specs.Grows.{GainsNode, Grows, GrowsBy}
use Rattle.mh_handle.specs.Parts.{PartsView}
use Rattle.mh_handle.specs.Stands.{HandleView, Stands}
use Rattle.mh_adapt.specs.Parts.{AddsNode}

module _ (t : HandleView) (k : Key) (fields : List Field) (by : Growth) (adds : AddsNode t k fields by) where
  node-grows : (h : HandleView) → Grows t h by.ty by.weight by.parts.sides by.key by.parts.fields → Grows t h by.ty (1 + t.weight) [] k fields
  node-grows h grows = record {
    typed = grows.typed;
    weighed = grows.weighed ∙ adds.weight;
    holds = grows.holds ∙ ap (λ (p : PartsView). t.sides ++ p.sides) adds.parts;
    made = grows.made ∙ ap (λ j. t.form.recipe ++ j ∷ []) adds.key;
    fielded = grows.fielded ∙ ap (λ (p : PartsView). t.fields ++ p.fields) adds.parts;
  }

  pub node-gains : (r : Result Handle HandleError) → GrowsBy t by r → IfOk r (GainsNode t)
  node-gains (Ok h) grows = let g = node-grows h grows in record { weighed = g.weighed; holds = g.holds ∙ append-nil t.sides }
  node-gains (Err e) grows = grows

  pub node-stands :
      (table : LeafTable) (tree : Tree) (r : Result Handle HandleError) →
      GrowsBy t by r →
      ((h : HandleView) → Grows t h by.ty (1 + t.weight) [] k fields → Stands table h tree) →
      IfOk r (λ h. Stands table h tree)
  node-stands table tree (Ok h) grows stands = stands h (node-grows h grows)
  node-stands table tree (Err e) grows stands = grows
