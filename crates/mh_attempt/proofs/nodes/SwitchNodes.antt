-- A switch of operands: what its rule tells of them.
use Rattle.std.proofs.Common.{◌≡◌, refl, sym, ap, subst, ◌∙◌, ℕ, suc, ◌+◌, ◌≤◌, true, List, [], ◌∷◌, length, Result, Ok, codes, arith}
use Rattle.std.specs.List.{list_all}
use Rattle.std.proofs.lemmas.Bool.{and_parts, leb-true}
use Rattle.mh_base.proofs.Inversion.{ok_is}
use Rattle.mh_values.specs.declared.types.MethodTy.{MethodTy}
use Rattle.mh_values.specs.Same.{is_same_method_type}
use Rattle.mh_values.proofs.SameTypes.{same_method_type-is}
use Rattle.mh_intern.specs.Views.{SeatView}
use Rattle.mh_leaf.specs.LeafTable.{LeafTable}
use Rattle.mh_tree.specs.declared.error.CheckError.{CheckError}
use Rattle.mh_tree.specs.Check.{TellsRow}
use Rattle.mh_tree.specs.Rows.{illegal, limited, may_switch, most_cases, switch_row}
use Rattle.mh_tree.specs.Tree.{Cases, Tree, cases_of, cases_weight, weight}
use Rattle.mh_tree.specs.Tree as tree
use Rattle.mh_tree.specs.Typing.{and_types, type_of, types_of_cases, with_type, with_types}
use Rattle.mh_tree.proofs.Provided.{provided-parts}
use Rattle.mh_tree.proofs.RowParts.{and_types-parts, switch_row-parts, with_type-parts, with_types-parts}
use Rattle.mh_edit.specs.declared.key.Key.TheVariants as key
use Rattle.mh_form.specs.Erasure.{shape_of}
use Rattle.mh_handle.specs.Recipe.{at_type, recipe}
use Rattle.mh_handle.specs.Stands.{HandleView, Stands}
use Rattle.mh_handle.proofs.obeying.Limits.{limited-low}
use Rattle.mh_more.specs.Several.{StandForCases, own_types, weights_of}
use Rattle.mh_more.proofs.SwitchAnswers.{unlooked}
use Rattle.mh_more.proofs.SwitchStands.{cases-typed, cases-weighed}
use Rattle.mh_script.specs.declared.operand.Register.{Register}
use Rattle.mh_jobs.specs.Thrown.{◌>>=◌}
use Rattle.mh_link.specs.Operands.{Frame, handle_in}
use Rattle.mh_link.specs.Operations.{handles_in}
use Rattle.mh_attempt.specs.declared.handle.HandleOperand.{HandleOperand}
use Rattle.mh_attempt.specs.declared.handle.HandleOperand.TheVariants as operand
use Rattle.mh_attempt.specs.Cases.{AreAllHeldIn, AreLeavesOfType, IsLeafOfType, StandForEach, StandForSome, TellsCases, leaf_recipe, own_weight, own_weights}
use Rattle.mh_attempt.specs.Nodes.{AreAllOperands, IsTypedAs}
use Rattle.mh_attempt.specs.Registers.{StandsFor, StandsForSome}
use Rattle.mh_attempt.specs.Told.{TellsBy}

-- ---- operands

-- the form of a leaf of a type has its recipe
pub leaf-recipe : (leaves : LeafTable) (ty : MethodTy) (o : HandleOperand) (l : _) → o ≡ operand.Leaf l → IsLeafOfType leaves ty o →
    recipe leaves (tree.Leaf l) ≡ leaf_recipe ty
leaf-recipe leaves ty o l is of = ap (λ m. at_type m (λ t. key.LeafRoot (shape_of t) ∷ [])) (subst (IsLeafOfType leaves ty) is of)

-- an operand weighs what its tree weighs
pub own-weighed : (leaves : LeafTable) (o : HandleOperand) (t : Tree) → StandsFor leaves o t → own_weight o ≡ weight t
own-weighed leaves (operand.Held h) t stands = stands.weighed
own-weighed leaves (operand.Leaf l) t stands = ap weight (sym stands.0)

pub all-weighed : (leaves : LeafTable) (os : List HandleOperand) (ts : Cases) → StandForEach leaves os ts → own_weights os ≡ cases_weight ts
all-weighed leaves [] tree.no_cases stand = refl
all-weighed leaves (o ∷ os) (tree.one_case t ts) stand = λ i. own-weighed leaves o t stand.0 i + all-weighed leaves os ts stand.1 i
all-weighed leaves [] (tree.one_case t ts) stand = absurd stand
all-weighed leaves (o ∷ os) tree.no_cases stand = absurd stand

-- handles can be made of operands that stand for cases and are held
pub all-operands : (leaves : LeafTable) (seat : SeatView) (os : List HandleOperand) (ts : Cases) → StandForEach leaves os ts → AreAllHeldIn seat os →
    AreAllOperands leaves seat os
all-operands leaves seat [] ts stand held = tt
all-operands leaves seat (o ∷ os) (tree.one_case t ts) stand held =
    (record { stands = (t, stand.0); held = held.0 }, all-operands leaves seat os ts stand.1 held.1)
all-operands leaves seat (o ∷ os) tree.no_cases stand held = absurd stand

-- such operands stand for cases
pub all-stand : (leaves : LeafTable) (seat : SeatView) (os : List HandleOperand) → AreAllOperands leaves seat os → StandForSome leaves os
all-stand leaves seat [] all = (tree.no_cases, tt)
all-stand leaves seat (o ∷ os) all =
    let others = all-stand leaves seat os all.1 in
    (tree.one_case all.0.stands.0 others.0, (all.0.stands.1, others.1))

-- the first of operands that stand for cases, and the others
pub some-first : (leaves : LeafTable) (o : HandleOperand) (os : List HandleOperand) → StandForSome leaves (o ∷ os) → StandsForSome leaves o
some-first leaves o os (tree.no_cases, stand) = absurd stand
some-first leaves o os (tree.one_case t ts, stand) = (t, stand.0)

pub some-others : (leaves : LeafTable) (o : HandleOperand) (os : List HandleOperand) → StandForSome leaves (o ∷ os) → StandForSome leaves os
some-others leaves o os (tree.no_cases, stand) = absurd stand
some-others leaves o os (tree.one_case t ts, stand) = (ts, stand.1)

-- the types of no operands, and of one before others
pub types-none : (leaves : LeafTable) (tys : List MethodTy) (ts : Cases) → tys ≡ [] → StandForEach leaves [] ts → types_of_cases leaves ts ≡ Ok tys
types-none leaves tys tree.no_cases none stand = ap Ok (sym none)
types-none leaves tys (tree.one_case t ts) none stand = absurd stand

pub types-first : (leaves : LeafTable) (o : HandleOperand) (os : List HandleOperand) (ty : MethodTy) (tys all : List MethodTy) (ts : Cases) → all ≡ ty ∷ tys →
    ((t : Tree) → StandsFor leaves o t → type_of leaves t ≡ Ok ty) → ((cs : Cases) → StandForEach leaves os cs → types_of_cases leaves cs ≡ Ok tys) →
    StandForEach leaves (o ∷ os) ts → types_of_cases leaves ts ≡ Ok all
types-first leaves o os ty tys all (tree.one_case t ts) is first others stand =
    (λ i. and_types (first t stand.0 i) (others ts stand.1 i)) ∙ ap Ok (sym is)
types-first leaves o os ty tys all tree.no_cases is first others stand = absurd stand

-- no operands of cases, and one before others
pub told-none : (leaves : LeafTable) (frame : Frame) (os : List HandleOperand) → os ≡ [] → TellsCases leaves (Ok os) (handles_in frame [])
told-none leaves frame os none = ([], refl, subst (λ l. StandForEach leaves l tree.no_cases) (sym none) tt)

pub told-first : (leaves : LeafTable) (frame : Frame) (r : Register) (rs : List Register) (o : HandleOperand) (os all : List HandleOperand) → all ≡ o ∷ os →
    TellsBy (StandsFor leaves) (Ok o) (handle_in frame r) → TellsCases leaves (Ok os) (handles_in frame rs) →
    TellsCases leaves (Ok all) (handles_in frame (r ∷ rs))
told-first leaves frame r rs o os all is first others = (
  first.0 ∷ others.0,
  λ i. first.1 i >>= (λ t. others.1 i >>= (λ ts. Ok (t ∷ ts))),
  subst (λ l. StandForEach leaves l (cases_of (first.0 ∷ others.0))) (sym is) (first.2, others.2),
)

-- a leaf has the type of its tree
leaf-of : (leaves : LeafTable) (o : HandleOperand) (t : Tree) (ty : MethodTy) → StandsFor leaves o t → type_of leaves t ≡ Ok ty → IsLeafOfType leaves ty o
leaf-of leaves (operand.Held h) t ty stands typed = tt
leaf-of leaves (operand.Leaf l) t ty stands typed = ap (type_of leaves) (sym stands.0) ∙ typed

leaves-of : (leaves : LeafTable) (os : List HandleOperand) (ts : Cases) (tys : List MethodTy) (ty : MethodTy) → StandForEach leaves os ts →
    types_of_cases leaves ts ≡ Ok tys → list_all (λ c. is_same_method_type c ty) tys ≡ true → AreLeavesOfType leaves ty os
leaves-of leaves [] ts tys ty stand typed same = tt
leaves-of leaves (o ∷ os) (tree.one_case t ts) tys ty stand typed same =
    let q = and_types-parts (type_of leaves t) (types_of_cases leaves ts) tys typed in
    let all : list_all (λ c. is_same_method_type c ty) (q.0 ∷ q.1) ≡ true = ap (list_all (λ c. is_same_method_type c ty)) q.4 ∙ same in
    let one = and_parts (is_same_method_type q.0 ty) (list_all (λ c. is_same_method_type c ty) q.1) all in
    (leaf-of leaves o t ty stand.0 (q.2 ∙ ap Ok (same_method_type-is q.0 ty one.0)), leaves-of leaves os ts q.1 ty stand.1 q.3 one.1)
leaves-of leaves (o ∷ os) tree.no_cases tys ty stand typed same = absurd stand

-- ---- the rule

module _ (leaves : LeafTable) (o : HandleOperand) (os : List HandleOperand) (t : Tree) (ts : Cases) (u : MethodTy) (stands : StandsFor leaves o t)
    (stand : StandForEach leaves os ts) (typed : type_of leaves (tree.Switch t ts) ≡ Ok u) where
  -- all leaves have the type of the switch
  pub switch-alike : AreLeavesOfType leaves u (o ∷ os)
  switch-alike =
      let own = with_type-parts (type_of leaves t)
      (λ ty. with_types (types_of_cases leaves ts) (λ tys. switch_row ty (weight t) tys (cases_weight ts))) u typed in
      let cases = with_types-parts (types_of_cases leaves ts) (λ tys. switch_row own.0 (weight t) tys (cases_weight ts)) u own.2 in
      let parts = switch_row-parts own.0 (weight t) cases.0 (cases_weight ts) u cases.2 in (
        leaf-of leaves o t u stands (own.1 ∙ ap Ok (sym parts.2)),
        leaves-of leaves os ts cases.0 u stand cases.1 (ap (λ (m : MethodTy). list_all (λ c. is_same_method_type c m) cases.0) parts.2 ∙ parts.0),
      )

  -- the operands together are light
  pub switch-light : own_weight o + own_weights os ≤ 256
  switch-light =
      let own = with_type-parts (type_of leaves t)
      (λ ty. with_types (types_of_cases leaves ts) (λ tys. switch_row ty (weight t) tys (cases_weight ts))) u typed in
      let cases = with_types-parts (types_of_cases leaves ts) (λ tys. switch_row own.0 (weight t) tys (cases_weight ts)) u own.2 in
      let q = provided-parts (may_switch own.0 cases.0) (illegal (codes "switch")) (limited (codes "switch") (1 + weight t + cases_weight ts) own.0)
      u cases.2 in
      let low = limited-low (codes "switch") (1 + weight t + cases_weight ts) own.0 u q.1 in
      let light = low.1 in
      omega (arith, light, own-weighed leaves o t stands, all-weighed leaves os ts stand)

-- ---- the answer of the rule

-- there are as many types as operands
types-many : (leaves : LeafTable) (os : List HandleOperand) (ts : Cases) (tys : List MethodTy) → StandForEach leaves os ts →
    types_of_cases leaves ts ≡ Ok tys → length os ≡ length tys
types-many leaves [] tree.no_cases tys stand typed = ap length (ok_is [] tys typed)
types-many leaves (o ∷ os) (tree.one_case t ts) tys stand typed =
    let q = and_types-parts (type_of leaves t) (types_of_cases leaves ts) tys typed in
    ap suc (types-many leaves os ts q.1 stand.1 q.3) ∙ ap length q.4
types-many leaves [] (tree.one_case t ts) tys stand typed = absurd stand
types-many leaves (o ∷ os) tree.no_cases tys stand typed = absurd stand

-- the check of the operands' types answers what the tree's type is
pub switch-told : (leaves : LeafTable) (o : HandleOperand) (os : List HandleOperand) (t : Tree) (ts : Cases) (tys : List MethodTy) → StandsFor leaves o t →
    StandForEach leaves os ts → (own : MethodTy) (k : ℕ) → IsTypedAs leaves t own k → types_of_cases leaves ts ≡ Ok tys → (m : ℕ) →
    (length os ≤ most_cases → m ≡ own_weights os) → (r : Result MethodTy CheckError) → TellsRow r (switch_row own k tys m) →
    TellsRow r (type_of leaves (tree.Switch t ts))
switch-told leaves o os t ts tys stands stand own k typed all m weighs r told =
    let many = types-many leaves os ts tys stand all in
    let weighed : switch_row own k tys m ≡ switch_row own k tys (cases_weight ts) =
    unlooked own k m (cases_weight ts) tys (λ is. let few = leb-true (length tys) most_cases is in
    weighs (omega (arith, few, many)) ∙ all-weighed leaves os ts stand) in
    let rule : type_of leaves (tree.Switch t ts) ≡ switch_row own k tys (cases_weight ts) =
    λ i. with_type (typed.typed i) (λ a. with_types (all i) (λ l. switch_row a (sym typed.weighed i) l (cases_weight ts))) in
    subst (TellsRow r) (weighed ∙ sym rule) told

-- the rule of handles that stand for the trees
pub switch-ruled : (leaves : LeafTable) (h : HandleView) (hs : List HandleView) (t : Tree) (ts : Cases) → Stands leaves h t → StandForCases leaves hs ts →
    type_of leaves (tree.Switch t ts) ≡ switch_row h.ty h.weight (own_types hs) (weights_of hs)
switch-ruled leaves h hs t ts stands stand =
    λ i. with_type (stands.typed i) (λ a. with_types (cases-typed leaves hs ts stand i)
    (λ tys. switch_row a (sym stands.weighed i) tys (sym (cases-weighed leaves hs ts stand) i)))

-- handles stand for cases still
pub cases-yet : (leaves later : LeafTable) (hs : List HandleView) (ts : Cases) → later ≡ leaves → StandForCases leaves hs ts → StandForCases later hs ts
cases-yet leaves later hs ts same stand = subst (λ l. StandForCases l hs ts) (sym same) stand
