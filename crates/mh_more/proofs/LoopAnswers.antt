-- What the call of a loop needs and answers.
use Rattle.std.proofs.Common.{◌≡◌, sym, subst, ap, ◌∙◌, ◌+◌, ◌≤◌, List, [], ◌∷◌, ◌++◌, append-nil, append_assoc, length, length-append, map, Result, Ok, Err, IfOk, codes, arith}
use Rattle.std.specs.Prelude.{IsTrue}
use Rattle.std.proofs.lemmas.Bool.{and_from, le-leb}
use Rattle.std.proofs.lemmas.List.{length-map}
use Rattle.mh_values.specs.declared.types.Ty.{Ty}
use Rattle.mh_values.specs.declared.types.MethodTy.{MethodTy}
use Rattle.mh_values.specs.Classes.{AreClasses}
use Rattle.mh_leaf.specs.LeafTable.{LeafTable}
use Rattle.mh_tree.specs.Rows.{counted_row, further, illegal, limited, loop_params, may_loop, taking, turn_types, unless_empty}
use Rattle.mh_tree.specs.Tree.{Tree}
use Rattle.mh_tree.specs.Tree as tree
use Rattle.mh_tree.proofs.Provided.{provided-parts}
use Rattle.mh_tree.proofs.RowParts.{counted_row-parts}
use Rattle.mh_form.specs.declared.field.Field.{Field}
use Rattle.mh_form.specs.Body.{nothing}
use Rattle.mh_form.specs.Erasure.{basic_of}
use Rattle.mh_edit.specs.Applied.{applied}
use Rattle.mh_edit.specs.Fit.{fits}
use Rattle.mh_handle.specs.declared.error.HandleError.{HandleError}
use Rattle.mh_handle.specs.declared.handle.Handle.{Handle}
use Rattle.mh_handle.specs.declared.work.Work.{Work}
use Rattle.mh_handle.specs.Grows.{Grows, base_handle}
use Rattle.mh_handle.specs.Recipe.{at_type, loop_key, recipe}
use Rattle.mh_handle.specs.Stands.{HandleView, IsShaped, Stands}
use Rattle.mh_handle.specs.Works.{Makes}
use Rattle.mh_handle.proofs.obeying.Limits.{limited-low}
use Rattle.mh_branch.proofs.Branching.{first-few}
use Rattle.mh_more.specs.declared.several.Root.{Root}
use Rattle.mh_more.specs.Roots.{CanRoot, IsRoot, RootsParts}
use Rattle.mh_more.specs.Several.{ArePartsOf, HasParts, types_held_by}
use Rattle.mh_more.proofs.LoopStands.{loop-stands}

-- a list that stands for another where it is not empty
unless-few : (xs ys : List Ty) → length xs ≤ length (unless_empty xs ys)
unless-few [] ys = omega arith
unless-few (x ∷ xs) ys = omega arith

module _ (n i b : HandleView) (u : MethodTy) (row : counted_row n.ty n.weight i.ty i.weight b.ty b.weight ≡ Ok u) where
  abbrev params : List Ty
  params = loop_params n.ty b.ty

  limits : (length params ≤ 254) × (126 + n.weight + i.weight + b.weight ≤ 256)
  limits =
      let made = taking params b.ty in
      let heavy = 126 + n.weight + i.weight + b.weight in
      let q = provided-parts (may_loop n.ty i.ty b.ty) (illegal (codes "counted")) (limited (codes "counted") heavy made) u row in
      limited-low (codes "counted") heavy made u q.1

  -- the type takes the parameters of the loop
  pub loop-own : u ≡ taking params b.ty
  loop-own = (counted_row-parts n.ty n.weight i.ty i.weight b.ty b.weight u row).5

  -- the body takes its own result and the number of the turn
  pub loop-takes : length (turn_types b.ty.ret) ≤ length b.ty.params
  loop-takes = let few = first-few b.ty.params (turn_types b.ty.ret) (counted_row-parts n.ty n.weight i.ty i.weight b.ty b.weight u row).1 in
      omega (arith, few, length-map b.ty.params basic_of)

  -- each part takes no more arguments than the loop has
  counts-few : length n.ty.params ≤ length (map basic_of params)
  counts-few = first-few params n.ty.params (counted_row-parts n.ty n.weight i.ty i.weight b.ty b.weight u row).3

  starts-few : length i.ty.params ≤ length (map basic_of params)
  starts-few = first-few params i.ty.params (counted_row-parts n.ty n.weight i.ty i.weight b.ty b.weight u row).4

  further-few : length (further b.ty) ≤ length (map basic_of params)
  further-few = let few = unless-few (further b.ty) n.ty.params in omega (arith, few, length-map params basic_of)

  pub loop-few : (length n.ty.params ≤ 255) × (length i.ty.params ≤ 255) × (length (further b.ty) ≤ 255)
  loop-few =
      let many = limits.0 in
      let size = length-map params basic_of in (
        (let few = counts-few in omega (arith, few, many, size)),
        (let few = starts-few in omega (arith, few, many, size)),
        (let few = further-few in omega (arith, few, many, size)),
      )

  module _ (root : Root) (is : IsRoot u (126 + n.weight + i.weight + b.weight) (loop_key n.ty i.ty b.ty) root) where
    -- its root can make a handle of the three
    pub loop-can : IsShaped n × IsShaped i × IsShaped b → CanRoot (n ∷ i ∷ b ∷ []) root
    loop-can shaped = record {
      fits = subst (λ k. IsTrue (fits k nothing)) (sym is.keyed)
          (and_from _ _ (le-leb (length n.ty.params) (length (map basic_of params)) counts-few)
          (and_from _ _ (le-leb (length i.ty.params) (length (map basic_of params)) starts-few)
          (le-leb (length (further b.ty)) (length (map basic_of params)) further-few)));
      shaped = ap (λ k. (applied k nothing).params) is.keyed
          ∙ ap (λ (m : MethodTy). map basic_of m.params) (sym (is.typed ∙ (counted_row-parts n.ty n.weight i.ty i.weight b.ty b.weight u row).5));
      light = let light = limits.1 in omega (arith, light, is.weighed);
      few =
          let one = length-append n.held (i.held ++ (b.held ++ [])) in
          let two = length-append i.held (b.held ++ []) in
          let three = length-append b.held [] in
          omega (arith, one, two, three, shaped.0.few, shaped.1.few, shaped.2.few, is.weighed);
    }

    pub loop-makes :
        (table : LeafTable) (old new : Work) (r : Result Handle HandleError) (x y z : Tree) →
        Stands table n x →
        Stands table i y →
        Stands table b z →
        Makes (root.key ∷ []) old new r →
        Makes (recipe table (tree.Counted x y z)) old new r
    loop-makes table old new r x y z counting starting turning makes =
        let keys : loop_key n.ty i.ty b.ty ∷ [] ≡ recipe table (tree.Counted x y z) =
        λ j. at_type (sym counting.typed j) (λ p. at_type (sym starting.typed j) (λ q. at_type (sym turning.typed j) (λ s. loop_key p q s ∷ []))) in
        subst (λ ks. Makes ks old new r) (ap (λ k. k ∷ []) is.keyed ∙ keys) makes

    pub loop-gains : (r : Result Handle HandleError) → IfOk r (RootsParts root (n ∷ i ∷ b ∷ [])) → IfOk r (HasParts 126 (n ∷ i ∷ b ∷ []))
    loop-gains (Ok h) g = record {
      weighed = g.1.weighed ∙ (is.weighed ∙ omega arith);
      holds = g.1.holds;
      fielded = subst (λ fs. ArePartsOf (n ∷ i ∷ b ∷ []) fs) (sym g.1.fielded) g.2;
    }
    loop-gains (Err e) g = g

    pub loop-answers :
        (table : LeafTable) (r : Result Handle HandleError) (x y z : Tree) →
        AreClasses table.classes →
        IfOk r (RootsParts root (n ∷ i ∷ b ∷ [])) →
        Stands table n x →
        Stands table i y →
        Stands table b z →
        IfOk r (λ h. Stands table h (tree.Counted x y z))
    loop-answers table (Ok h) x y z all made counting starting turning = cases made.0 made.1 made.2
      where
        cases :
            (fs : List Field) →
            Grows base_handle h root.ty root.weight (types_held_by (n ∷ i ∷ b ∷ [])) root.key fs →
            ArePartsOf (n ∷ i ∷ b ∷ []) fs →
            Stands table h (tree.Counted x y z)
        cases (f ∷ k ∷ l ∷ []) g are =
            loop-stands table x y z n i b f k l counting starting turning are.0 are.1.0 are.1.1.0 u row h all (record {
              typed = g.typed ∙ is.typed;
              weighed = g.weighed ∙ is.weighed;
              holds = g.holds ∙ (ap (λ s. (n.ty ∷ n.sides) ++ ((i.ty ∷ i.sides) ++ s)) (append-nil (b.ty ∷ b.sides))
                  ∙ sym (append_assoc (n.ty ∷ n.sides) (i.ty ∷ i.sides) (b.ty ∷ b.sides)));
              made = g.made ∙ ap (λ j. j ∷ []) is.keyed;
              fielded = g.fielded;
            })
        cases [] g are = absurd are
        cases (f ∷ []) g are = absurd are.1
        cases (f ∷ k ∷ []) g are = absurd are.1.1
        cases (f ∷ k ∷ l ∷ m ∷ fs) g are = absurd are.1.1.1
    loop-answers table (Err e) x y z all made counting starting turning = made
