-- What the calls of adapters with a part need and answer, from what they add to the handle that they adapt.
use Rattle.std.proofs.Common.{◌≡◌, sym, subst, ap, ◌∙◌, ◌+◌, [], ◌∷◌, ◌++◌, map, Result, Ok, Err, IfOk}
use Rattle.std.specs.Prelude.{IsTrue}
use Rattle.mh_values.specs.declared.types.MethodTy.{MethodTy}
use Rattle.mh_leaf.specs.LeafTable.{LeafTable}
use Rattle.mh_tree.specs.Tree.{Tree}
use Rattle.mh_form.specs.declared.field.Field.{Field}
use Rattle.mh_form.specs.Erasure.{basic_of}
use Rattle.mh_edit.specs.declared.key.Key.{Key}
use Rattle.mh_edit.specs.Applied.{applied}
use Rattle.mh_edit.specs.Fit.{fits}
use Rattle.mh_handle.specs.declared.error.HandleError.{HandleError}
use Rattle.mh_handle.specs.declared.growth.Growth.{Growth}
use Rattle.mh_handle.specs.declared.handle.Handle.{Handle}
use Rattle.mh_handle.specs.Grows.{GainsPart, Grows}
use Rattle.mh_handle.specs.Parts.{IsPartOf, held_by}
use Rattle.mh_handle.specs.Stands.{HandleView, HasShape, Stands, handle_body}
use Rattle.mh_adapt.specs.Parts.{AddsPart, GrowsByPart}

-- the key fits what the handle's form does, and edits it to the shape of the type
pub record IsSuited (u : MethodTy) (t : HandleView) (k : Key) : Type 0 where
  pub fit : IsTrue (fits k (handle_body t))
  pub shaped : (applied k (handle_body t)).params ≡ map basic_of u.params

module _ (t : HandleView) (k : Key) (by : Growth) (is : by.key ≡ k) (suited : IsSuited by.ty t k) where
  pub suited-fits : IsTrue (fits by.key (handle_body t))
  suited-fits = subst (λ j. IsTrue (fits j (handle_body t))) (sym is) suited.fit

  pub suited-shaped : HasShape (applied by.key (handle_body t)) by.ty
  suited-shaped = ap (λ j. (applied j (handle_body t)).params) is ∙ suited.shaped

module _ (t : HandleView) (k : Key) (f : HandleView) (by : Growth) (adds : AddsPart t k f by) where
  adds-grows : (h : HandleView) (field : Field) → Grows t h by.ty by.weight (held_by f) by.key (field ∷ []) →
      Grows t h by.ty (1 + t.weight + f.weight) (held_by f) k (field ∷ [])
  adds-grows h field grows = record {
    typed = grows.typed;
    weighed = grows.weighed ∙ adds.weight;
    holds = grows.holds;
    made = grows.made ∙ ap (λ j. t.form.recipe ++ j ∷ []) adds.key;
    fielded = grows.fielded;
  }

  pub adds-gains : (r : Result Handle HandleError) → GrowsByPart t by f r → IfOk r (GainsPart f t)
  adds-gains (Ok h) grows =
      let g = adds-grows h grows.0 grows.2 in record { weighed = g.weighed; holds = g.holds; fielded = (grows.0, g.fielded, grows.1) }
  adds-gains (Err e) grows = grows

  pub adds-stands :
      (table : LeafTable) (tree : Tree) (r : Result Handle HandleError) →
      GrowsByPart t by f r →
      ((h : HandleView) (field : Field) → IsPartOf f field → Grows t h by.ty (1 + t.weight + f.weight) (held_by f) k (field ∷ []) → Stands table h tree) →
      IfOk r (λ h. Stands table h tree)
  adds-stands table tree (Ok h) grows stands = stands h grows.0 grows.1 (adds-grows h grows.0 grows.2)
  adds-stands table tree (Err e) grows stands = grows
