-- What the call of a guard answers, from what the guard is and its parts.
use Rattle.std.proofs.Common.{◌≡◌, sym, subst, ap, ◌∙◌, ℕ, ◌+◌, ◌≤◌, ◌&&◌, [], ◌∷◌, ◌++◌, length, length-append, Some, Result, Ok, Err, IfOk, codes, arith}
use Rattle.std.specs.Prelude.{IsTrue}
use Rattle.std.proofs.lemmas.List.{length-map}
use Rattle.mh_values.specs.declared.types.MethodTy.{MethodTy}
use Rattle.mh_values.specs.Same.{begins_with_types, is_same_method_type, is_same_return}
use Rattle.mh_leaf.specs.LeafTable.{LeafTable}
use Rattle.mh_leaf.specs.Outcome.{boolean_type}
use Rattle.mh_tree.specs.Rows.{guard_row, illegal, limited}
use Rattle.mh_tree.specs.Tree.{Tree}
use Rattle.mh_tree.specs.Tree as tree
use Rattle.mh_tree.proofs.Provided.{provided-parts}
use Rattle.mh_tree.proofs.RowParts.{guard_row-parts}
use Rattle.mh_form.specs.Body.{nothing}
use Rattle.mh_form.specs.Erasure.{basic_of}
use Rattle.mh_edit.specs.declared.key.Key.{Key}
use Rattle.mh_edit.specs.Fit.{fits}
use Rattle.mh_handle.specs.declared.error.HandleError.{HandleError}
use Rattle.mh_handle.specs.declared.handle.Handle.{Handle}
use Rattle.mh_handle.specs.Grows.{Grows, base_handle}
use Rattle.mh_handle.specs.Parts.{PartsView}
use Rattle.mh_handle.specs.declared.work.Work.{Work}
use Rattle.mh_handle.specs.Recipe.{at_type, recipe}
use Rattle.mh_handle.specs.Stands.{IsShaped, Stands}
use Rattle.mh_handle.specs.Works.{Makes}
use Rattle.mh_handle.proofs.obeying.Limits.{limited-low}
use Rattle.mh_branch.specs.declared.growths.Branches.{Branches}
use Rattle.mh_branch.specs.Growths.{AreGuardParts, HasBranches, guard_key}
use Rattle.mh_branch.proofs.Branching.{first-few}
use Rattle.mh_branch.proofs.GuardStands.{guard-fits, guard-stands}

module _ (p : Branches) (u : MethodTy) (row : guard_row p.test.ty p.test.weight p.target.ty p.target.weight p.fallback.ty p.fallback.weight ≡ Ok u) where
  own : u ≡ p.target.ty
  own = (guard_row-parts p.test.ty p.test.weight p.target.ty p.target.weight p.fallback.ty p.fallback.weight u row).3

  limits : (length p.target.ty.params ≤ 254) × (1 + p.test.weight + p.target.weight + p.fallback.weight ≤ 256)
  limits =
      let weight = 1 + p.test.weight + p.target.weight + p.fallback.weight in
      let within = limited (codes "guard") weight p.target.ty in
      let q = provided-parts (is_same_method_type p.fallback.ty p.target.ty && is_same_return p.test.ty.ret (Some boolean_type) && begins_with_types
      p.target.ty.params p.test.ty.params) (illegal (codes "guard")) within u row in
      limited-low (codes "guard") weight p.target.ty u q.1

  pub guard-few : length p.test.ty.params ≤ 254
  guard-few =
      let few = first-few p.target.ty.params p.test.ty.params (guard_row-parts p.test.ty p.test.weight p.target.ty p.target.weight p.fallback.ty
      p.fallback.weight u row).2 in
      let many = limits.0 in
      omega (arith, length-map p.target.ty.params basic_of)

  pub guard-light : (weight : ℕ) → weight ≡ 1 + p.test.weight + p.target.weight + p.fallback.weight → weight ≤ 256
  guard-light weight is = let light = limits.1 in omega (arith, is)

  module _ (k : Key) (is : k ≡ guard_key u p.test.ty) where
    own-key : k ≡ guard_key p.target.ty p.test.ty
    own-key = is ∙ ap (λ m. guard_key m p.test.ty) own

    pub guard-fits-by : IsTrue (fits k nothing)
    guard-fits-by =
        subst (λ j. IsTrue (fits j nothing)) (sym own-key)
        (guard-fits p.test.ty p.test.weight p.target.ty p.target.weight p.fallback.ty p.fallback.weight u row)

    pub guard-makes :
        (table : LeafTable) (old new : Work) (r : Result Handle HandleError) (x y z : Tree) →
        Stands table p.test x →
        Stands table p.target y →
        Makes (k ∷ []) old new r →
        Makes (recipe table (tree.Guard x y z)) old new r
    guard-makes table old new r x y z tests stands makes =
        let keys : guard_key p.target.ty p.test.ty ∷ [] ≡ recipe table (tree.Guard x y z) =
        λ i. at_type (sym stands.typed i) (λ ty. at_type (sym tests.typed i) (λ test. guard_key ty test ∷ [])) in
        subst (λ ks. Makes ks old new r) (ap (λ j. j ∷ []) own-key ∙ keys) makes

    module _ (weight : ℕ) (weighs : weight ≡ 1 + p.test.weight + p.target.weight + p.fallback.weight) (parts : PartsView) (are : AreGuardParts p.test p.target
        p.fallback parts) where
      -- the branch holds no more types than it has nodes
      pub guard-held : IsShaped p.test × IsShaped p.target × IsShaped p.fallback → 1 + length parts.held ≤ weight
      guard-held shaped =
          let many : length parts.held ≡ length ((p.test.held ++ p.target.held) ++ p.fallback.held) = ap length are.held in
          let all = length-append (p.test.held ++ p.target.held) p.fallback.held in
          let first = length-append p.test.held p.target.held in
          omega (arith, many, all, first, shaped.0.few, shaped.1.few, shaped.2.few, weighs)

      pub guard-gains : (r : Result Handle HandleError) → IfOk r (λ h. Grows base_handle h u weight parts.sides k parts.fields) →
          IfOk r (HasBranches p.test p.target p.fallback)
      guard-gains (Ok h) g =
          let f = are.fields in
          record { weighed = g.weighed ∙ weighs; holds = g.holds ∙ are.sides; fielded = (f.0, f.1, f.2, g.fielded ∙ f.3, f.4, f.5, f.6) }
      guard-gains (Err x) g = g

      pub guard-answers :
          (table : LeafTable) (r : Result Handle HandleError) (x y z : Tree) →
          IfOk r (λ h. Grows base_handle h u weight parts.sides k parts.fields) →
          Stands table p.test x →
          Stands table p.target y →
          Stands table p.fallback z →
          IfOk r (λ h. Stands table h (tree.Guard x y z))
      guard-answers table (Ok h) x y z g tests stands others =
          let f = are.fields in
          guard-stands table h x y z u p.test p.target p.fallback f.0 f.1 f.2 tests stands others f.4 f.5 f.6 row (record {
            typed = g.typed;
            weighed = g.weighed ∙ weighs;
            holds = g.holds ∙ are.sides;
            made = g.made ∙ ap (λ j. j ∷ []) own-key;
            fielded = g.fielded ∙ f.3;
          })
      guard-answers table (Err x') x y z g tests stands others = g
