-- What the call of a cleanup needs and answers.
use Rattle.std.proofs.Common.{◌≡◌, sym, subst, ap, ◌∙◌, ◌+◌, ◌≤◌, List, [], ◌∷◌, ◌++◌, append-nil, drop, length, length-append, map, Result, Ok, Err, IfOk, codes, arith}
use Rattle.std.specs.Prelude.{IsTrue}
use Rattle.std.proofs.lemmas.Bool.{le-leb}
use Rattle.std.proofs.lemmas.List.{length-drop, length-map}
use Rattle.mh_values.specs.declared.types.MethodTy.{MethodTy}
use Rattle.mh_leaf.specs.LeafTable.{LeafTable}
use Rattle.mh_tree.specs.Rows.{cleans_up, end_types, illegal, kept_by, limited, tryfinally_row}
use Rattle.mh_tree.specs.Tree.{Tree}
use Rattle.mh_tree.specs.Tree as tree
use Rattle.mh_tree.proofs.Provided.{provided-parts}
use Rattle.mh_tree.proofs.RowParts.{tryfinally_row-parts}
use Rattle.mh_form.specs.declared.field.Field.{Field}
use Rattle.mh_form.specs.Body.{nothing}
use Rattle.mh_form.specs.Erasure.{basic_of}
use Rattle.mh_edit.specs.Applied.{applied}
use Rattle.mh_edit.specs.Fit.{fits}
use Rattle.mh_handle.specs.declared.error.HandleError.{HandleError}
use Rattle.mh_handle.specs.declared.handle.Handle.{Handle}
use Rattle.mh_handle.specs.declared.work.Work.{Work}
use Rattle.mh_handle.specs.Grows.{Grows, base_handle}
use Rattle.mh_handle.specs.Recipe.{at_type, recipe, try_key}
use Rattle.mh_handle.specs.Stands.{HandleView, IsShaped, Stands}
use Rattle.mh_handle.specs.Works.{Makes}
use Rattle.mh_handle.proofs.obeying.Limits.{limited-low}
use Rattle.mh_branch.proofs.Branching.{first-few}
use Rattle.mh_more.specs.declared.several.Root.{Root}
use Rattle.mh_more.specs.Roots.{CanRoot, IsRoot, RootsParts}
use Rattle.mh_more.specs.Several.{ArePartsOf, HasParts, types_held_by}
use Rattle.mh_more.proofs.TryStands.{try-stands}

module _ (t c : HandleView) (u : MethodTy) (row : tryfinally_row t.ty t.weight c.ty c.weight ≡ Ok u) where
  limits : (length t.ty.params ≤ 254) × (1 + t.weight + c.weight ≤ 256)
  limits =
      let within = limited (codes "tryfinally") (1 + t.weight + c.weight) t.ty in
      let q = provided-parts (cleans_up c.ty t.ty) (illegal (codes "tryfinally")) within u row in
      limited-low (codes "tryfinally") (1 + t.weight + c.weight) t.ty u q.1

  -- the type is that of the target
  pub try-own : u ≡ t.ty
  try-own = (tryfinally_row-parts t.ty t.weight c.ty c.weight u row).3

  -- the cleanup takes how the target ended
  pub try-takes : length (end_types t.ty.ret) ≤ length c.ty.params
  try-takes = let few = first-few c.ty.params (end_types t.ty.ret) (tryfinally_row-parts t.ty t.weight c.ty c.weight u row).1 in
      omega (arith, few, length-map c.ty.params basic_of)

  -- and no more arguments than the target has
  kept-few : kept_by c.ty t.ty.ret ≤ length (map basic_of t.ty.params)
  kept-few =
      let few = first-few t.ty.params (drop (length (end_types t.ty.ret)) c.ty.params) (tryfinally_row-parts t.ty t.weight c.ty c.weight u row).2 in
      let size = length-drop (length (end_types t.ty.ret)) c.ty.params in
      omega (arith, few, size)

  pub try-few : kept_by c.ty t.ty.ret ≤ 255
  try-few = let few = kept-few in let many = limits.0 in omega (arith, few, many, length-map t.ty.params basic_of)

  module _ (root : Root) (is : IsRoot u (1 + t.weight + c.weight) (try_key t.ty c.ty) root) where
    -- its root can make a handle of the two
    pub try-can : IsShaped t × IsShaped c → CanRoot (t ∷ c ∷ []) root
    try-can shaped = record {
      fits = subst (λ k. IsTrue (fits k nothing)) (sym is.keyed) (le-leb (kept_by c.ty t.ty.ret) (length (map basic_of t.ty.params)) kept-few);
      shaped = ap (λ k. (applied k nothing).params) is.keyed
          ∙ ap (λ (m : MethodTy). map basic_of m.params) (sym (is.typed ∙ (tryfinally_row-parts t.ty t.weight c.ty c.weight u row).3));
      light = let light = limits.1 in omega (arith, light, is.weighed);
      few =
          let all = length-append t.held (c.held ++ []) in
          let last = length-append c.held [] in
          omega (arith, all, last, shaped.0.few, shaped.1.few, is.weighed);
    }

    pub try-makes :
        (table : LeafTable) (old new : Work) (r : Result Handle HandleError) (x y : Tree) →
        Stands table t x →
        Stands table c y →
        Makes (root.key ∷ []) old new r →
        Makes (recipe table (tree.TryFinally x y)) old new r
    try-makes table old new r x y stands cleans makes =
        let keys : try_key t.ty c.ty ∷ [] ≡ recipe table (tree.TryFinally x y) =
        λ i. at_type (sym stands.typed i) (λ a. at_type (sym cleans.typed i) (λ b. try_key a b ∷ [])) in
        subst (λ ks. Makes ks old new r) (ap (λ k. k ∷ []) is.keyed ∙ keys) makes

    pub try-gains : (r : Result Handle HandleError) → IfOk r (RootsParts root (t ∷ c ∷ [])) → IfOk r (HasParts 1 (t ∷ c ∷ []))
    try-gains (Ok h) g = record {
      weighed = g.1.weighed ∙ (is.weighed ∙ omega arith);
      holds = g.1.holds;
      fielded = subst (λ fs. ArePartsOf (t ∷ c ∷ []) fs) (sym g.1.fielded) g.2;
    }
    try-gains (Err e) g = g

    pub try-answers :
        (table : LeafTable) (r : Result Handle HandleError) (x y : Tree) →
        IfOk r (RootsParts root (t ∷ c ∷ [])) →
        Stands table t x →
        Stands table c y →
        IfOk r (λ z. Stands table z (tree.TryFinally x y))
    try-answers table (Ok z) x y made stands cleans = cases made.0 made.1 made.2
      where
        cases :
            (fs : List Field) →
            Grows base_handle z root.ty root.weight (types_held_by (t ∷ c ∷ [])) root.key fs →
            ArePartsOf (t ∷ c ∷ []) fs →
            Stands table z (tree.TryFinally x y)
        cases (f ∷ k ∷ []) g are =
            try-stands table z x y u t c f k stands cleans are.0 are.1.0 row (record {
              typed = g.typed ∙ is.typed;
              weighed = g.weighed ∙ is.weighed;
              holds = g.holds ∙ ap (λ l. (t.ty ∷ t.sides) ++ l) (append-nil (c.ty ∷ c.sides));
              made = g.made ∙ ap (λ j. j ∷ []) is.keyed;
              fielded = g.fielded;
            })
        cases [] g are = absurd are
        cases (f ∷ []) g are = absurd are.1
        cases (f ∷ k ∷ l ∷ fs) g are = absurd are.1.1
    try-answers table (Err e) x y made stands cleans = made
