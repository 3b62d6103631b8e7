-- What the call of a catch answers, from what the catch is and its parts.
use Rattle.std.proofs.Common.{◌≡◌, sym, subst, ap, ◌∙◌, ℕ, ◌+◌, ◌≤◌, true, ◌&&◌, List, [], ◌∷◌, ◌++◌, length, length-append, Result, Ok, Err, IfOk, codes, arith}
use Rattle.std.specs.Prelude.{IsTrue}
use Rattle.std.proofs.lemmas.List.{length-map}
use Rattle.mh_values.specs.declared.types.Ty.{Ty}
use Rattle.mh_values.specs.declared.types.MethodTy.{MethodTy}
use Rattle.mh_values.specs.Class.{is_subclass, throwable_class}
use Rattle.mh_values.specs.Classes.{AreClasses}
use Rattle.mh_leaf.specs.LeafTable.{LeafTable}
use Rattle.mh_tree.specs.Rows.{catch_row, handles, illegal, limited, takes_exception}
use Rattle.mh_tree.specs.Tree.{Tree}
use Rattle.mh_tree.specs.Tree as tree
use Rattle.mh_tree.proofs.Provided.{provided-parts}
use Rattle.mh_tree.proofs.RowParts.{catch_row-parts}
use Rattle.mh_form.specs.Body.{nothing}
use Rattle.mh_form.specs.Erasure.{basic_of}
use Rattle.mh_edit.specs.declared.key.Key.{Key}
use Rattle.mh_edit.specs.Fit.{fits}
use Rattle.mh_handle.specs.declared.error.HandleError.{HandleError}
use Rattle.mh_handle.specs.declared.handle.Handle.{Handle}
use Rattle.mh_handle.specs.Grows.{Grows, base_handle}
use Rattle.mh_handle.specs.Parts.{PartsView}
use Rattle.mh_handle.specs.declared.work.Work.{Work}
use Rattle.mh_handle.specs.Recipe.{at_type, recipe}
use Rattle.mh_handle.specs.Stands.{IsShaped, Stands}
use Rattle.mh_handle.specs.Works.{Makes}
use Rattle.mh_handle.proofs.obeying.Limits.{limited-low}
use Rattle.mh_branch.specs.declared.growths.Caught.{Caught}
use Rattle.mh_branch.specs.Growths.{AreCatchParts, HasHandler, catch_key}
use Rattle.mh_branch.proofs.CatchStands.{catch-fits, catch-stands, handler-few}

module _ (table : LeafTable) (p : Caught) (u : MethodTy) (row : catch_row table.classes p.target.ty p.target.weight p.class p.handler.ty p.handler.weight
    ≡ Ok u) where
  target : u ≡ p.target.ty
  target = (catch_row-parts table.classes p.target.ty p.target.weight p.class p.handler.ty p.handler.weight u row).3

  bounds : (length p.target.ty.params ≤ 254) × (1 + p.target.weight + p.handler.weight ≤ 256)
  bounds =
      let weight = 1 + p.target.weight + p.handler.weight in
      let within = limited (codes "catch") weight p.target.ty in
      let q = provided-parts (is_subclass table.classes p.class throwable_class && handles table.classes p.class p.handler.ty p.target.ty)
      (illegal (codes "catch")) within u row in
      limited-low (codes "catch") weight p.target.ty u q.1

  takes : takes_exception table.classes p.class p.handler.ty.params p.target.ty.params ≡ true
  takes = (catch_row-parts table.classes p.target.ty p.target.weight p.class p.handler.ty p.handler.weight u row).1

  some_first : (params types : List Ty) → takes_exception table.classes p.class params types ≡ true → 1 ≤ length params
  some_first [] types first = absurd cc
  some_first (q ∷ params) types first = omega arith

  pub catch-some : 1 ≤ length p.handler.ty.params
  catch-some = some_first p.handler.ty.params p.target.ty.params takes

  pub catch-few : length p.handler.ty.params ≤ 255
  catch-few =
      let few = handler-few table.classes p.class p.handler.ty.params p.target.ty.params takes in
      let many = bounds.0 in
      omega (arith, length-map p.target.ty.params basic_of)

  pub catch-light : (weight : ℕ) → weight ≡ 1 + p.target.weight + p.handler.weight → weight ≤ 256
  catch-light weight is = let light = bounds.1 in omega (arith, is)

  module _ (k : Key) (is : k ≡ catch_key u p.handler.ty) where
    target-key : k ≡ catch_key p.target.ty p.handler.ty
    target-key = is ∙ ap (λ m. catch_key m p.handler.ty) target

    pub catch-fits-by : IsTrue (fits k nothing)
    catch-fits-by =
        subst (λ j. IsTrue (fits j nothing)) (sym target-key)
        (catch-fits table.classes p.target.ty p.target.weight p.class p.handler.ty p.handler.weight u row)

    pub catch-makes :
        (old new : Work) (r : Result Handle HandleError) (x y : Tree) →
        Stands table p.target x →
        Stands table p.handler y →
        Makes (k ∷ []) old new r →
        Makes (recipe table (tree.Catch x p.class y)) old new r
    catch-makes old new r x y stands handled makes =
        let keys : catch_key p.target.ty p.handler.ty ∷ [] ≡ recipe table (tree.Catch x p.class y) =
        λ i. at_type (sym stands.typed i) (λ ty. at_type (sym handled.typed i) (λ handler. catch_key ty handler ∷ [])) in
        subst (λ ks. Makes ks old new r) (ap (λ j. j ∷ []) target-key ∙ keys) makes

    module _ (weight : ℕ) (weighs : weight ≡ 1 + p.target.weight + p.handler.weight) (parts : PartsView) (are : AreCatchParts p.target p.class p.handler parts)
      where
        -- the branch holds no more types than it has nodes
        pub catch-held : IsShaped p.target × IsShaped p.handler → 1 + length parts.held ≤ weight
        catch-held shaped =
            let many : length parts.held ≡ length (p.target.held ++ p.handler.held) = ap length are.held in
            let all = length-append p.target.held p.handler.held in
            omega (arith, many, all, shaped.0.few, shaped.1.few, weighs)

        pub catch-gains : (r : Result Handle HandleError) → IfOk r (λ h. Grows base_handle h u weight parts.sides k parts.fields) →
            IfOk r (HasHandler p.target p.class p.handler)
        catch-gains (Ok x) g =
            let f = are.fields in
            record { weighed = g.weighed ∙ weighs; holds = g.holds ∙ are.sides; fielded = (f.0, f.1, g.fielded ∙ f.2, f.3, f.4) }
        catch-gains (Err x) g = g

        pub catch-answers :
            (r : Result Handle HandleError) (x y : Tree) →
            AreClasses table.classes →
            IfOk r (λ h. Grows base_handle h u weight parts.sides k parts.fields) →
            Stands table p.target x →
            Stands table p.handler y →
            IfOk r (λ z. Stands table z (tree.Catch x p.class y))
        catch-answers (Ok z) x y all g stands handled =
            let f = are.fields in
            catch-stands table z x p.class y u p.target p.handler f.0 f.1 all stands handled f.3 f.4 row (record {
              typed = g.typed;
              weighed = g.weighed ∙ weighs;
              holds = g.holds ∙ are.sides;
              made = g.made ∙ ap (λ j. j ∷ []) target-key;
              fielded = g.fielded ∙ f.2;
            })
        catch-answers (Err e) x y all g stands handled = g
