-- The handle of a switch stands for its tree.
use Rattle.std.proofs.Common.{◌≡◌, refl, sym, subst, ap, ◌∙◌, ℕ, zero, suc, ◌+◌, ◌<◌, ◌^◌, ℤ, pos, negsuc, true, List, [], ◌∷◌, ◌++◌, get_or, length, map, Some, Ok, arith}
use Rattle.std.specs.Prelude.{slice_get}
use Rattle.std.specs.List.{list_all}
use Rattle.std.specs.Option.{option_map}
use Rattle.std.proofs.lemmas.Bool.{and_parts}
use Rattle.std.proofs.lemmas.List.{length-map}
use Rattle.std.proofs.lemmas.Option.{slice_get-map}
use Rattle.std.specs.declared.sync.Arc.{Arc}
use Rattle.std.specs.declared.alloc.Global.{Global}
use Rattle.mh_values.specs.declared.types.MethodTy.{MethodTy}
use Rattle.mh_values.specs.declared.value.Num.TheVariants as num
use Rattle.mh_values.specs.declared.value.Value.{Value}
use Rattle.mh_values.specs.declared.value.Value.TheVariants as value
use Rattle.mh_values.specs.Computation.{Refines, found}
use Rattle.mh_leaf.specs.Ending.{picked_by}
use Rattle.mh_values.specs.HasType.{HaveTypes}
use Rattle.mh_values.specs.Returns.{Returns}
use Rattle.mh_values.specs.Same.{is_same_method_type}
use Rattle.mh_values.proofs.SameTypes.{same_method_type-is, same_return-is}
use Rattle.mh_leaf.specs.LeafTable.{LeafTable}
use Rattle.mh_leaf.specs.Outcome.{int_type}
use Rattle.mh_tree.specs.Rows.{switch_row}
use Rattle.mh_tree.specs.Tree.{Tree, Cases, cases_count, cases_weight, weight}
use Rattle.mh_tree.specs.Tree as tree
use Rattle.mh_tree.specs.Typing.{type_of, types_of_cases, and_types, cases_held, with_type, with_types, held_before, sides}
use Rattle.mh_tree.specs.Meaning.{Done, mean, mean_case, switched}
use Rattle.mh_tree.specs.Sound.{IsSound}
use Rattle.mh_tree.proofs.RowParts.{switch_row-parts}
use Rattle.mh_tree.proofs.SoundLoops.{is_int, switch-sound}
use Rattle.mh_tree.proofs.TypedLists.{types-get, types-length}
use Rattle.mh_form.specs.declared.slot.Slot.TheVariants as slot
use Rattle.mh_form.specs.declared.field.Bound.{Bound}
use Rattle.mh_form.specs.declared.field.Field.{Field}
use Rattle.mh_form.specs.declared.field.Field.TheVariants as field
use Rattle.mh_form.specs.Body.{nothing}
use Rattle.mh_form.specs.Erasure.{basic_of, basic_ret_of, shape_of, erased, erased_ran}
use Rattle.mh_form.specs.Run.{run_bound, run_on}
use Rattle.mh_form.proofs.Refines.{refines-is, refines-trans}
use Rattle.mh_edit.specs.Applied.{switch_body}
use Rattle.mh_edit.specs.Law.{case_of, returned}
use Rattle.mh_edit.proofs.RootEndings.{law-SwitchRoot}
use Rattle.mh_handle.specs.Form.{body_of}
use Rattle.mh_handle.specs.Grows.{Grows, base_handle}
use Rattle.mh_handle.specs.Parts.{IsPartOf}
use Rattle.mh_handle.specs.Recipe.{at_type, recipe, switch_key}
use Rattle.mh_handle.specs.Stands.{HandleView, Stands}
use Rattle.mh_handle.proofs.standing.Erasing.{returned-erased}
use Rattle.mh_branch.proofs.Rooted.{part-runs, stands-rooted}
use Rattle.mh_more.specs.Several.{ArePartsOf, StandForCases, own_types, types_held_by, weights_of}

-- ---- handles that stand for cases

pub cases-typed :
    (table : LeafTable) (hs : List HandleView) (cases : Cases) → StandForCases table hs cases → types_of_cases table cases ≡ Ok (own_types hs)
cases-typed table [] tree.no_cases stand = refl
cases-typed table (h ∷ hs) (tree.one_case t ts) stand = λ i. and_types (stand.0.typed i) (cases-typed table hs ts stand.1 i)
cases-typed table [] (tree.one_case t ts) stand = absurd stand
cases-typed table (h ∷ hs) tree.no_cases stand = absurd stand

pub cases-weighed : (table : LeafTable) (hs : List HandleView) (cases : Cases) → StandForCases table hs cases → weights_of hs ≡ cases_weight cases
cases-weighed table [] tree.no_cases stand = refl
cases-weighed table (h ∷ hs) (tree.one_case t ts) stand = λ i. stand.0.weighed i + cases-weighed table hs ts stand.1 i
cases-weighed table [] (tree.one_case t ts) stand = absurd stand
cases-weighed table (h ∷ hs) tree.no_cases stand = absurd stand

cases-held :
    (table : LeafTable) (hs : List HandleView) (cases : Cases) → StandForCases table hs cases → cases_held table cases ≡ types_held_by hs
cases-held table [] tree.no_cases stand = refl
cases-held table (h ∷ hs) (tree.one_case t ts) stand =
    λ i. held_before (stand.0.typed i) (sym stand.0.holds i) ++ cases-held table hs ts stand.1 i
cases-held table [] (tree.one_case t ts) stand = absurd stand
cases-held table (h ∷ hs) tree.no_cases stand = absurd stand

pub cases-counted : (table : LeafTable) (hs : List HandleView) (cases : Cases) → StandForCases table hs cases → length hs ≡ cases_count cases
cases-counted table [] tree.no_cases stand = refl
cases-counted table (h ∷ hs) (tree.one_case t ts) stand = ap suc (cases-counted table hs ts stand.1)
cases-counted table [] (tree.one_case t ts) stand = absurd stand
cases-counted table (h ∷ hs) tree.no_cases stand = absurd stand

-- their parts
abbrev boxes : (hs : List HandleView) (fs : List Field) → ArePartsOf hs fs → List (Arc Bound Global)
boxes [] [] parts = []
boxes (h ∷ hs) (f ∷ fs) parts = parts.0.0 ∷ boxes hs fs parts.1
boxes [] (f ∷ fs) parts = absurd parts
boxes (h ∷ hs) [] parts = absurd parts

boxes-are : (hs : List HandleView) (fs : List Field) (parts : ArePartsOf hs fs) → fs ≡ map field.Part (boxes hs fs parts)
boxes-are [] [] parts = refl
boxes-are (h ∷ hs) (f ∷ fs) parts = λ i. parts.0.1 i ∷ boxes-are hs fs parts.1 i
boxes-are [] (f ∷ fs) parts = absurd parts
boxes-are (h ∷ hs) [] parts = absurd parts

boxes-counted : (hs : List HandleView) (fs : List Field) (parts : ArePartsOf hs fs) → length (boxes hs fs parts) ≡ length hs
boxes-counted [] [] parts = refl
boxes-counted (h ∷ hs) (f ∷ fs) parts = ap suc (boxes-counted hs fs parts.1)
boxes-counted [] (f ∷ fs) parts = absurd parts
boxes-counted (h ∷ hs) [] parts = absurd parts

-- ---- the case of a number

case-returns :
    (table : LeafTable) (ty : MethodTy) (hs : List HandleView) (cases : Cases) → StandForCases table hs cases →
    list_all (λ c. is_same_method_type c ty) (own_types hs) ≡ true → (k : ℕ) (other : Done) (args : List Value) (n : ℕ) →
    Returns table.classes other ty.ret → HaveTypes table.classes args ty.params → Returns table.classes (mean_case table cases k other args n) ty.ret
case-returns table ty [] tree.no_cases stand same k other args n returns have = returns
case-returns table ty (h ∷ hs) (tree.one_case t ts) stand same zero other args n returns have =
    let one = and_parts (is_same_method_type h.ty ty) (list_all (λ c. is_same_method_type c ty) (own_types hs)) same in
    subst (λ (m : MethodTy). HaveTypes table.classes args m.params → Returns table.classes (mean table t args n) m.ret)
    (same_method_type-is h.ty ty one.0) (stand.0.returns args n) have
case-returns table ty (h ∷ hs) (tree.one_case t ts) stand same (suc k) other args n returns have =
    let one = and_parts (is_same_method_type h.ty ty) (list_all (λ c. is_same_method_type c ty) (own_types hs)) same in
    case-returns table ty hs ts stand.1 one.1 k other args n returns have
case-returns table ty [] (tree.one_case t ts) stand same k other args n returns have = absurd stand
case-returns table ty (h ∷ hs) tree.no_cases stand same k other args n returns have = absurd stand

-- its part does what it does, and that of no case what runs in any other
case-runs :
    (table : LeafTable) (ty : MethodTy) (hs : List HandleView) (cases : Cases) (fs : List Field) (parts : ArePartsOf hs fs) (box : Arc Bound Global) →
    StandForCases table hs cases → list_all (λ c. is_same_method_type c ty) (own_types hs) ≡ true → (k : ℕ) (other : Done) (args : List Value) (n : ℕ) →
    run_bound table box.value (map erased args) n ≡ erased_ran other → HaveTypes table.classes args ty.params → n < 2 ^ 32 →
    run_bound table (get_or (boxes hs fs parts) k box).value (map erased args) n ≡ erased_ran (mean_case table cases k other args n)
case-runs table ty [] tree.no_cases [] parts box stand same k other args n ran have low = ran
case-runs table ty (h ∷ hs) (tree.one_case t ts) (f ∷ fs) parts box stand same zero other args n ran have low =
    let one = and_parts (is_same_method_type h.ty ty) (list_all (λ c. is_same_method_type c ty) (own_types hs)) same in
    let have_case : HaveTypes table.classes args h.ty.params =
    subst (λ (m : MethodTy). HaveTypes table.classes args m.params) (sym (same_method_type-is h.ty ty one.0)) have in
    ap (λ x. x (map erased args) n) (part-runs table h f parts.0) ∙ stand.0.runs args n have_case low
case-runs table ty (h ∷ hs) (tree.one_case t ts) (f ∷ fs) parts box stand same (suc k) other args n ran have low =
    let one = and_parts (is_same_method_type h.ty ty) (list_all (λ c. is_same_method_type c ty) (own_types hs)) same in
    case-runs table ty hs ts fs parts.1 box stand.1 one.1 k other args n ran have low
case-runs table ty [] (tree.one_case t ts) fs parts box stand same k other args n ran have low = absurd stand
case-runs table ty (h ∷ hs) tree.no_cases fs parts box stand same k other args n ran have low = absurd stand
case-runs table ty [] tree.no_cases (f ∷ fs) parts box stand same k other args n ran have low = absurd parts
case-runs table ty (h ∷ hs) (tree.one_case t ts) [] parts box stand same k other args n ran have low = absurd parts

-- the same of what an int picks
picked-returns :
    (table : LeafTable) (ty : MethodTy) (z : ℤ) (pick : ℕ → Done) (other : Done) → ((k : ℕ) → Returns table.classes (pick k) ty.ret) →
    Returns table.classes other ty.ret → Returns table.classes (picked_by z pick other) ty.ret
picked-returns table ty (pos k) pick other each last = each k
picked-returns table ty (negsuc k) pick other each last = last

picked-runs :
    (table : LeafTable) (z : ℤ) (part : ℕ → Arc Bound Global) (box : Arc Bound Global) (pick : ℕ → Done) (other : Done) (args : List Value) (n : ℕ) →
    ((k : ℕ) → run_bound table (part k).value (map erased args) n ≡ erased_ran (pick k)) →
    run_bound table box.value (map erased args) n ≡ erased_ran other →
    run_bound table (picked_by z part box).value (map erased args) n ≡ erased_ran (picked_by z pick other)
picked-runs table (pos k) part box pick other args n each last = each k
picked-runs table (negsuc k) part box pick other args n each last = last

pub switch-stands :
    (table : LeafTable) (h : HandleView) (f : Tree) (cases : Cases) (u : MethodTy) (body : HandleView) (hs : List HandleView) (body_field : Field)
    (fs : List Field) →
    Stands table body f →
    StandForCases table hs cases →
    IsPartOf body body_field →
    ArePartsOf hs fs →
    switch_row body.ty body.weight (own_types hs) (weights_of hs) ≡ Ok u →
    Grows base_handle h u (1 + body.weight + weights_of hs) ((body.ty ∷ body.sides) ++ types_held_by hs) (switch_key body.ty (length hs)) (body_field ∷ fs) →
    Stands table h (tree.Switch f cases)
switch-stands table h f cases u body hs body_field fs stands stand body_part parts row grows =
    let classes = table.classes in
    let rules = switch_row-parts body.ty body.weight (own_types hs) (weights_of hs) u row in
    let same = rules.0 in
    let own : h.ty ≡ body.ty = grows.typed ∙ rules.2 in
    let own_row : switch_row body.ty body.weight (own_types hs) (weights_of hs) ≡ Ok h.ty = row ∙ ap Ok (sym grows.typed) in
    let box : Arc Bound Global = body_part.0 in
    let each = boxes hs fs parts in
    let count = length hs in
    let fields : h.fields ≡ field.Part box ∷ map field.Part each = grows.fielded ∙ (λ i. body_part.1 i ∷ boxes-are hs fs parts i) in
    let ret = basic_ret_of body.ty.ret in
    let made_body = switch_body (shape_of body.ty) count in
    let typed : type_of table (tree.Switch f cases) ≡ switch_row body.ty body.weight (own_types hs) (weights_of hs) =
    λ i. with_type (stands.typed i) (λ bt. with_types (cases-typed table hs cases stand i) (λ ts.
    switch_row bt (sym stands.weighed i) ts (sym (cases-weighed table hs cases stand) i))) in
    let heavy : 1 + body.weight + weights_of hs ≡ 1 + weight f + cases_weight cases =
    λ i. 1 + stands.weighed i + cases-weighed table hs cases stand i in
    let keys : recipe table (tree.Switch f cases) ≡ switch_key body.ty count ∷ [] =
    λ i. at_type (stands.typed i) (λ bt. switch_key bt (sym (cases-counted table hs cases stand) i) ∷ []) in
    let held : sides table (tree.Switch f cases) ≡ (body.ty ∷ body.sides) ++ types_held_by hs =
    λ i. held_before (stands.typed i) (sym stands.holds i) ++ cases-held table hs cases stand i in
    let pick : List Value → ℕ → ℕ → Done = λ args n k. mean_case table cases k (mean table f args n) args n in
    let sound : IsSound classes (mean table (tree.Switch f cases)) h.ty =
    subst (IsSound classes (mean table (tree.Switch f cases))) (sym own)
    (switch-sound classes (mean table f) (λ k args n. pick args n k) body.ty stands.returns
    (λ k args n have. case-returns table body.ty hs cases stand same k (mean table f args n) args n (stands.returns args n have) have) rules.1) in
    let does : (args : List Value) (n : ℕ) → HaveTypes classes args h.ty.params → n < 2 ^ 32 →
    Refines (erased_ran (mean table (tree.Switch f cases) args n)) (run_on table made_body h.fields (map erased args) n) =
    λ args n have low.
    let have_body : HaveTypes classes args body.ty.params = subst (λ (m : MethodTy). HaveTypes classes args m.params) own have in
    let slots = map erased args in
    let other : Done = mean table f args n in
    let v = types-get classes args body.ty.params 0 int_type have_body (same_return-is (slice_get body.ty.params 0) (Some int_type) rules.1) in
    let z = is_int classes v.0 v.2 in
    let there : slice_get args 0 ≡ Some (value.Prim (num.I z.0)) = v.1 ∙ ap Some z.1 in
    let at : slice_get slots 0 ≡ Some (slot.I z.0) = slice_get-map erased args 0 ∙ ap (option_map erased) there in
    let means : mean table (tree.Switch f cases) args n ≡ picked_by z.0 (pick args n) other =
    ap (λ o. found o (λ s. switched s (pick args n) other)) there in
    let ran : run_bound table box.value slots n ≡ erased_ran other =
    ap (λ x. x slots n) (part-runs table body body_field body_part) ∙ stands.runs args n have_body low in
    let part : Arc Bound Global = picked_by z.0 (λ k. get_or each k box) box in
    let runs : run_bound table part.value slots n ≡ erased_ran (picked_by z.0 (pick args n) other) =
    picked-runs table z.0 (λ k. get_or each k box) box (pick args n) other args n
    (λ k. case-runs table body.ty hs cases fs parts box stand same k other args n ran have_body low) ran in
    let returns : Returns classes (picked_by z.0 (pick args n) other) body.ty.ret =
    picked-returns table body.ty z.0 (pick args n) other
    (λ k. case-returns table body.ty hs cases stand same k other args n (stands.returns args n have_body) have_body) (stands.returns args n have_body) in
    let result : returned ret (run_bound table part.value slots n) ≡ erased_ran (picked_by z.0 (pick args n) other) =
    ap (returned ret) runs ∙ returned-erased classes (picked_by z.0 (pick args n) other) body.ty.ret returns in
    let picked : found (slice_get slots 0) (λ s. found (case_of box each s) (λ p. returned ret (run_bound table p.value slots n)))
    ≡ returned ret (run_bound table part.value slots n) =
    ap (λ o. found o (λ s. found (case_of box each s) (λ p. returned ret (run_bound table p.value slots n)))) at in
    let long : length slots ≡ length (shape_of body.ty).params =
    length-map args erased ∙ (types-length classes args body.ty.params have_body ∙ sym (length-map body.ty.params basic_of)) in
    let law = law-SwitchRoot (shape_of body.ty) count nothing table box each slots n (boxes-counted hs fs parts) long in
    refines-trans _ _ _ (refines-is _ _ (ap erased_ran means ∙ sym (picked ∙ result)))
    (refines-trans _ _ _ law (refines-is _ _ (ap (λ gs. run_on table made_body gs slots n) (sym fields)))) in
    let next : suc count ≡ count + 1 = omega arith in
    let many : length h.fields ≡ count + 1 =
    ap length fields ∙ (ap suc (length-map each field.Part ∙ boxes-counted hs fs parts) ∙ next) in
    stands-rooted table h (tree.Switch f cases) made_body sound (typed ∙ own_row) (grows.weighed ∙ heavy) (grows.made ∙ sym keys)
    (grows.holds ∙ sym held) (ap body_of grows.made) many (ap (λ (m : MethodTy). map basic_of m.params) (sym own)) refl does
