-- What the call of a switch needs and answers.
use Rattle.std.proofs.Common.{◌≡◌, refl, sym, subst, ap, ◌∙◌, ℕ, ◌+◌, ◌≤◌, ◌&&◌, Bool, true, false, List, [], ◌∷◌, length, length-append, map, Some, Result, Ok, Err, IfOk, codes, arith}
use Rattle.std.specs.Prelude.{IsTrue, nat_le, nat_lt, slice_get}
use Rattle.std.specs.List.{list_all}
use Rattle.std.specs.Option.{option_map, option_map_or}
use Rattle.std.proofs.lemmas.Bool.{and_from, and_parts, leb-true}
use Rattle.std.proofs.lemmas.Option.{slice_get-map}
use Rattle.std.proofs.lemmas.List.{length-map}
use Rattle.mh_base.specs.Provided.{provided}
use Rattle.mh_values.specs.declared.types.MethodTy.{MethodTy}
use Rattle.mh_values.specs.Same.{is_same_method_type, is_same_return}
use Rattle.mh_values.proofs.SameTypes.{same_return-is}
use Rattle.mh_leaf.specs.LeafTable.{LeafTable}
use Rattle.mh_leaf.specs.Outcome.{int_type}
use Rattle.mh_tree.specs.declared.error.CheckError.{CheckError}
use Rattle.mh_tree.specs.Check.{TellsRow}
use Rattle.mh_tree.specs.Rows.{illegal, limited, may_switch, most_cases, switch_row}
use Rattle.mh_tree.specs.Tree.{Cases, Tree}
use Rattle.mh_tree.specs.Tree as tree
use Rattle.mh_tree.proofs.Provided.{provided-parts}
use Rattle.mh_tree.proofs.RowParts.{switch_row-parts}
use Rattle.mh_form.specs.declared.field.Field.{Field}
use Rattle.mh_form.specs.declared.basic.Basic.TheVariants as basic
use Rattle.mh_form.specs.Body.{nothing}
use Rattle.mh_form.specs.Erasure.{basic_of}
use Rattle.mh_edit.specs.Applied.{applied}
use Rattle.mh_edit.specs.Fit.{fits, is_basic_at, is_same_basic}
use Rattle.mh_handle.specs.declared.error.HandleError.{HandleError}
use Rattle.mh_handle.specs.declared.handle.Handle.{Handle}
use Rattle.mh_handle.specs.declared.work.Work.{Work}
use Rattle.mh_handle.specs.Grows.{Grows, base_handle}
use Rattle.mh_handle.specs.Recipe.{at_type, recipe, switch_key}
use Rattle.mh_handle.specs.Stands.{HandleView, IsShaped, Stands}
use Rattle.mh_handle.specs.Works.{Makes}
use Rattle.mh_handle.proofs.obeying.Limits.{limited-low}
use Rattle.mh_more.specs.declared.several.Root.{Root}
use Rattle.mh_more.specs.Roots.{CanRoot, IsRoot, RootsParts}
use Rattle.mh_more.specs.Several.{AreAllShaped, ArePartsOf, HasParts, StandForCases, holds_of, own_types, types_held_by, weights_of}
use Rattle.mh_more.proofs.SwitchStands.{cases-counted, switch-stands}

-- handles hold no more types than they weigh
holds-few : (hs : List HandleView) → AreAllShaped hs → length (holds_of hs) ≤ weights_of hs
holds-few [] shaped = omega arith
holds-few (h ∷ hs) shaped =
    let all = length-append h.held (holds_of hs) in
    let rest = holds-few hs shaped.1 in
    omega (arith, all, rest, shaped.0.few)

and-false : (b : Bool) → (b && false) ≡ false
and-false true = refl
and-false false = refl

-- where there are more cases than there may be, the weight is not looked at
pub unlooked : (own : MethodTy) (k m n : ℕ) (tys : List MethodTy) → (nat_le (length tys) most_cases ≡ true → m ≡ n) →
    switch_row own k tys m ≡ switch_row own k tys n
unlooked own k m n tys same = cases (nat_le (length tys) most_cases) refl
  where
    cases : (b : Bool) → nat_le (length tys) most_cases ≡ b → switch_row own k tys m ≡ switch_row own k tys n
    cases true is = ap (switch_row own k tys) (same is)
    cases false is = refused m ∙ sym (refused n)
      where
        may : may_switch own tys ≡ false
        may =
            let alike = list_all (λ c. is_same_method_type c own) tys in
            let picks = is_same_return (slice_get own.params 0) (Some int_type) in
            let some = nat_lt 0 (length tys) in
            ap (λ b. some && b && alike && picks) is ∙ ap (λ b. b && alike && picks) (and-false some)

        refused : (w : ℕ) → switch_row own k tys w ≡ Err (illegal (codes "switch"))
        refused w = ap (λ b. provided b (illegal (codes "switch")) (limited (codes "switch") (1 + k + w) own)) may

-- the check of the handles' types answers what the rule says
pub switch-told : (f : HandleView) (hs : List HandleView) (m : ℕ) (tys : List MethodTy) → tys ≡ own_types hs → (length hs ≤ most_cases → m ≡ weights_of hs) →
    (r : Result MethodTy CheckError) → TellsRow r (switch_row f.ty f.weight tys m) → TellsRow r (switch_row f.ty f.weight (own_types hs) (weights_of hs))
switch-told f hs m tys are weighs r told =
    let size = length-map hs (λ (h : HandleView). h.ty) in
    subst (TellsRow r)
    (ap (λ l. switch_row f.ty f.weight l m) are
    ∙ unlooked f.ty f.weight m (weights_of hs) (own_types hs)
    (λ is. let few = leb-true (length (own_types hs)) most_cases is in weighs (omega (arith, few, size)))) told

module _ (f : HandleView) (hs : List HandleView) (u : MethodTy) (row : switch_row f.ty f.weight (own_types hs) (weights_of hs) ≡ Ok u) where
  limits : (length f.ty.params ≤ 254) × (1 + f.weight + weights_of hs ≤ 256)
  limits = limited-low (codes "switch") (1 + f.weight + weights_of hs) f.ty u
      (provided-parts (may_switch f.ty (own_types hs)) (illegal (codes "switch")) (limited (codes "switch") (1 + f.weight + weights_of hs) f.ty) u row).1

  -- there are 1 to 16 cases
  counts : (nat_lt 0 (length (own_types hs)) ≡ true) × (nat_le (length (own_types hs)) most_cases ≡ true)
  counts =
      let some = nat_lt 0 (length (own_types hs)) in
      let few = nat_le (length (own_types hs)) most_cases in
      let same = list_all (λ c. is_same_method_type c f.ty) (own_types hs) in
      let picks = is_same_return (slice_get f.ty.params 0) (Some int_type) in
      let r = and_parts (some && few && same) picks (provided-parts (may_switch f.ty (own_types hs)) (illegal (codes "switch"))
      (limited (codes "switch") (1 + f.weight + weights_of hs) f.ty) u row).0 in
      let s = and_parts (some && few) same r.0 in
      and_parts some few s.0

  -- the type is that of the fallback
  pub switch-own : u ≡ f.ty
  switch-own = (switch_row-parts f.ty f.weight (own_types hs) (weights_of hs) u row).2

  pub switch-few : length hs ≤ most_cases
  switch-few = let few = leb-true (length (own_types hs)) most_cases counts.1 in omega (arith, few, length-map hs (λ (h : HandleView). h.ty))

  -- the first parameter is an int
  first-int : is_basic_at (map basic_of f.ty.params) 0 basic.I ≡ true
  first-int =
      let first : slice_get f.ty.params 0 ≡ Some int_type =
      same_return-is (slice_get f.ty.params 0) (Some int_type) (switch_row-parts f.ty f.weight (own_types hs) (weights_of hs) u row).1 in
      ap (λ o. option_map_or (is_same_basic basic.I) o false) (slice_get-map basic_of f.ty.params 0 ∙ ap (option_map basic_of) first)

  module _ (root : Root) (is : IsRoot u (1 + f.weight + weights_of hs) (switch_key f.ty (length hs)) root) where
    -- its root can make a handle of the fallback and the cases
    pub switch-can : IsShaped f × AreAllShaped hs → CanRoot (f ∷ hs) root
    switch-can shaped =
        let size = length-map hs (λ (h : HandleView). h.ty) in
        record {
          fits = subst (λ k. IsTrue (fits k nothing)) (sym is.keyed)
              (and_from _ _ first-int
              (and_from _ _ (subst (λ k. nat_lt 0 k ≡ true) size counts.0) (subst (λ k. nat_le k most_cases ≡ true) size counts.1)));
          shaped = ap (λ k. (applied k nothing).params) is.keyed
              ∙ ap (λ (m : MethodTy). map basic_of m.params) (sym (is.typed ∙ (switch_row-parts f.ty f.weight (own_types hs) (weights_of hs) u row).2));
          light = let light = limits.1 in omega (arith, light, is.weighed);
          few =
              let all = length-append f.held (holds_of hs) in
              let rest = holds-few hs shaped.1 in
              omega (arith, all, rest, shaped.0.few, is.weighed);
        }

    pub switch-makes :
        (table : LeafTable) (old new : Work) (r : Result Handle HandleError) (x : Tree) (cs : Cases) →
        Stands table f x →
        StandForCases table hs cs →
        Makes (root.key ∷ []) old new r →
        Makes (recipe table (tree.Switch x cs)) old new r
    switch-makes table old new r x cs stands stand makes =
        let keys : switch_key f.ty (length hs) ∷ [] ≡ recipe table (tree.Switch x cs) =
        λ j. at_type (sym stands.typed j) (λ p. switch_key p (cases-counted table hs cs stand j) ∷ []) in
        subst (λ ks. Makes ks old new r) (ap (λ k. k ∷ []) is.keyed ∙ keys) makes

    pub switch-gains : (r : Result Handle HandleError) → IfOk r (RootsParts root (f ∷ hs)) → IfOk r (HasParts 1 (f ∷ hs))
    switch-gains (Ok h) g = record {
      weighed = g.1.weighed ∙ (is.weighed ∙ omega arith);
      holds = g.1.holds;
      fielded = subst (λ fs. ArePartsOf (f ∷ hs) fs) (sym g.1.fielded) g.2;
    }
    switch-gains (Err e) g = g

    pub switch-answers :
        (table : LeafTable) (r : Result Handle HandleError) (x : Tree) (cs : Cases) →
        IfOk r (RootsParts root (f ∷ hs)) →
        Stands table f x →
        StandForCases table hs cs →
        IfOk r (λ h. Stands table h (tree.Switch x cs))
    switch-answers table (Ok h) x cs made stands stand = cases made.0 made.1 made.2
      where
        cases :
            (fs : List Field) →
            Grows base_handle h root.ty root.weight (types_held_by (f ∷ hs)) root.key fs →
            ArePartsOf (f ∷ hs) fs →
            Stands table h (tree.Switch x cs)
        cases (field ∷ fs) g are =
            switch-stands table h x cs u f hs field fs stands stand are.0 are.1 row (record {
              typed = g.typed ∙ is.typed;
              weighed = g.weighed ∙ is.weighed;
              holds = g.holds;
              made = g.made ∙ ap (λ j. j ∷ []) is.keyed;
              fielded = g.fielded;
            })
        cases [] g are = absurd are
    switch-answers table (Err e) x cs made stands stand = made
