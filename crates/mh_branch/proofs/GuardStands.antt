-- The handle of a guard stands for its tree.
use Rattle.std.proofs.Common.{◌≡◌, refl, sym, subst, ap, ◌∙◌, ℕ, ◌+◌, ◌<◌, ◌≤◌, ◌^◌, if◌then◌else◌, List, [], ◌∷◌, ◌++◌, take, length, map, Option, Some, Ok}
use Rattle.std.specs.Prelude.{option_to_list, IsTrue}
use Rattle.std.proofs.lemmas.List.{length-map, take-map}
use Rattle.std.proofs.lemmas.Bool.{le-leb}
use Rattle.std.specs.declared.sync.Arc.{Arc}
use Rattle.std.specs.declared.alloc.Global.{Global}
use Rattle.mh_values.specs.declared.types.MethodTy.{MethodTy}
use Rattle.mh_values.specs.declared.value.Value.{Value}
use Rattle.mh_values.specs.Computation.{Ran, Refines, and_then}
use Rattle.mh_values.specs.HasType.{HaveTypes}
use Rattle.mh_values.proofs.SameTypes.{same_return-is, same_method_type-is}
use Rattle.mh_leaf.specs.LeafTable.{LeafTable}
use Rattle.mh_leaf.specs.Outcome.{boolean_type}
use Rattle.mh_tree.specs.Rows.{guard_row}
use Rattle.mh_tree.specs.Tree.{Tree, weight}
use Rattle.mh_tree.specs.Tree as tree
use Rattle.mh_tree.specs.Typing.{type_of, arity_of, with_type, held_before, sides}
use Rattle.mh_tree.specs.Meaning.{Done, decided, mean}
use Rattle.mh_tree.proofs.RowParts.{guard_row-parts}
use Rattle.mh_tree.proofs.SoundBranches.{first-typed, guard-sound}
use Rattle.mh_tree.specs.Sound.{IsSound}
use Rattle.mh_tree.proofs.TypedLists.{types-length}
use Rattle.mh_form.specs.declared.slot.Slot.{Slot}
use Rattle.mh_form.specs.declared.field.Bound.{Bound}
use Rattle.mh_form.specs.declared.field.Field.{Field}
use Rattle.mh_form.specs.declared.field.Field.TheVariants as field
use Rattle.mh_form.specs.Body.{nothing}
use Rattle.mh_form.specs.Erasure.{basic_of, basic_ret_of, shape_of, erased, erased_option, erased_ran}
use Rattle.mh_form.specs.Run.{run_bound, run_on}
use Rattle.mh_form.specs.Slots.{filled, holds_one, none_as_zero}
use Rattle.mh_form.proofs.Refines.{refines-is, refines-trans}
use Rattle.mh_edit.specs.declared.key.Key.TheVariants as key
use Rattle.mh_edit.specs.Applied.{guard_body}
use Rattle.mh_edit.specs.Fit.{fits}
use Rattle.mh_edit.specs.Law.{returned}
use Rattle.mh_edit.proofs.RootLaws.{law-GuardRoot}
use Rattle.mh_handle.specs.Form.{body_of}
use Rattle.mh_handle.specs.Grows.{Grows, base_handle}
use Rattle.mh_handle.specs.Parts.{IsPartOf}
use Rattle.mh_handle.specs.Recipe.{at_type, recipe}
use Rattle.mh_handle.specs.Stands.{HandleView, Stands, handle_run}
use Rattle.mh_branch.proofs.Computing.{and_then-erased}
use Rattle.mh_branch.proofs.Rooted.{part-runs, stands-rooted}
use Rattle.mh_branch.proofs.Branching.{first-few, decides, branch-does}

-- the key of a guard fits the body that is nothing
pub guard-fits :
    (test : MethodTy) (test_weight : ℕ) (body : MethodTy) (body_weight : ℕ) (other : MethodTy) (other_weight : ℕ) (u : MethodTy) →
    guard_row test test_weight body body_weight other other_weight ≡ Ok u →
    IsTrue (fits (key.GuardRoot (shape_of body) (length test.params)) nothing)
guard-fits test test_weight body body_weight other other_weight u row =
    let parts = guard_row-parts test test_weight body body_weight other other_weight u row in
    le-leb (length test.params) (length (map basic_of body.params)) (first-few body.params test.params parts.2)

pub guard-stands :
    (table : LeafTable) (h : HandleView) (c t e : Tree) (u : MethodTy) (test body other : HandleView) (test_field body_field other_field : Field) →
    Stands table test c →
    Stands table body t →
    Stands table other e →
    IsPartOf test test_field →
    IsPartOf body body_field →
    IsPartOf other other_field →
    guard_row test.ty test.weight body.ty body.weight other.ty other.weight ≡ Ok u →
    Grows base_handle h u (1 + test.weight + body.weight + other.weight)
    ((test.ty ∷ test.sides) ++ (body.ty ∷ body.sides) ++ (other.ty ∷ other.sides))
    (key.GuardRoot (shape_of body.ty) (length test.ty.params))
    (test_field ∷ body_field ∷ other_field ∷ []) →
    Stands table h (tree.Guard c t e)
guard-stands table h c t e u test body other test_field body_field other_field tests stands others test_part body_part other_part row grows =
    let parts = guard_row-parts test.ty test.weight body.ty body.weight other.ty other.weight u row in
    let own : h.ty ≡ body.ty = grows.typed ∙ parts.3 in
    let test_box : Arc Bound Global = test_part.0 in
    let body_box : Arc Bound Global = body_part.0 in
    let other_box : Arc Bound Global = other_part.0 in
    let fields : h.fields ≡ field.Part test_box ∷ field.Part body_box ∷ field.Part other_box ∷ [] =
    grows.fielded ∙ (λ i. test_part.1 i ∷ body_part.1 i ∷ other_part.1 i ∷ []) in
    let alike : other.ty ≡ body.ty = same_method_type-is other.ty body.ty parts.0 in
    let count = length test.ty.params in
    let made_body = guard_body (shape_of body.ty) count in
    let typed : type_of table (tree.Guard c t e) ≡ guard_row test.ty test.weight body.ty body.weight other.ty other.weight =
    λ i. with_type (tests.typed i)
    (λ ct. with_type (stands.typed i) (λ bt. with_type (others.typed i) (λ ot. guard_row ct (sym tests.weighed i) bt (sym stands.weighed i) ot
    (sym others.weighed i)))) in
    let heavy : 1 + test.weight + body.weight + other.weight ≡ 1 + weight c + weight t + weight e = λ i. 1 + tests.weighed i + stands.weighed i + others.weighed
    i in
    let keys : recipe table (tree.Guard c t e) ≡ key.GuardRoot (shape_of body.ty) count ∷ [] =
    λ i. at_type (stands.typed i) (λ bt. at_type (tests.typed i) (λ ct. key.GuardRoot (shape_of bt) (length ct.params) ∷ [])) in
    let held : sides table (tree.Guard c t e) ≡ (test.ty ∷ test.sides) ++ (body.ty ∷ body.sides) ++ (other.ty ∷ other.sides) =
    λ i. held_before (tests.typed i) (sym tests.holds i) ++ held_before (stands.typed i) (sym stands.holds i) ++ held_before (others.typed i)
    (sym others.holds i) in
    let sound : IsSound table.classes (mean table (tree.Guard c t e)) h.ty =
    subst (λ o. IsSound table.classes (λ args n. and_then (mean table c (take (arity_of o) args) n) n
    (λ r k. decided r (mean table t args k) (mean table e args k))) h.ty) (sym tests.typed)
    (guard-sound table.classes (mean table c) (mean table t) (mean table e) test.ty test.weight body.ty body.weight other.ty other.weight h.ty tests.returns
    stands.returns others.returns (row ∙ ap Ok (sym grows.typed))) in
    let does : (args : List Value) (n : ℕ) → HaveTypes table.classes args h.ty.params → n < 2 ^ 32 →
    Refines (erased_ran (mean table (tree.Guard c t e) args n)) (run_on table made_body h.fields (map erased args) n) =
    λ args n have low.
    let have_body : HaveTypes table.classes args body.ty.params = subst (λ (m : MethodTy). HaveTypes table.classes args m.params) own have in
    let have_other : HaveTypes table.classes args other.ty.params = subst (λ (m : MethodTy). HaveTypes table.classes args m.params) (sym alike) have_body in
    let first = take count args in
    let have_test : HaveTypes table.classes first test.ty.params = first-typed table.classes args body.ty.params test.ty.params parts.2 have_body in
    let slots = map erased args in
    let ret = basic_ret_of body.ty.ret in
    let r : Done = mean table c first n in
    let next : Option Value → ℕ → Done = λ v k. decided v (mean table t args k) (mean table e args k) in
    let run : Slot → ℕ → Ran (Option Slot) = λ s k. returned ret (run_bound table (if holds_one s then body_box.value else other_box.value) slots k) in
    let tested : run_bound table test_box.value (take count slots) n ≡ erased_ran r =
    ap (λ f. f (take count slots) n) (part-runs table test test_field test_part) ∙ (ap (λ xs. handle_run table test xs n) (take-map erased count args) ∙
    tests.runs first n have_test low) in
    let means : mean table (tree.Guard c t e) args n ≡ and_then r n next = ap (λ o. and_then (mean table c (take (arity_of o) args) n) n next) tests.typed in
    let branches : (v : Option Value) (k : ℕ) → HaveTypes table.classes (option_to_list v) (option_to_list test.ty.ret) → k < 2 ^ 32 →
    Refines (erased_ran (next v k)) (run (none_as_zero (erased_option v)) k) =
    λ v k given small.
    let boolean : HaveTypes table.classes (option_to_list v) (boolean_type ∷ []) = subst (λ o. HaveTypes table.classes (option_to_list v) (option_to_list o))
    (same_return-is test.ty.ret (Some boolean_type) parts.1) given in
    let no_branch : Refines (erased_ran (mean table e args k)) (returned ret (run_bound table other_box.value slots k)) =
    subst (λ (m : MethodTy). Refines (erased_ran (mean table e args k)) (returned (basic_ret_of m.ret) (run_bound table other_box.value slots k))) alike
    (branch-does table other e other_box.value args k others (part-runs table other other_field other_part) have_other small) in
    decides table v (mean table t args k) (mean table e args k) body_box.value other_box.value ret slots k boolean (branch-does table body t body_box.value args
    k stands (part-runs table body body_field body_part) have_body small) no_branch in
    let all : Refines (erased_ran (and_then r n next)) (and_then (filled (erased_ran r)) n run) =
    and_then-erased table.classes r n test.ty.ret run next (tests.returns first n have_test) low branches in
    let long : length slots ≡ length (shape_of body.ty).params =
    length-map args erased ∙ (types-length table.classes args body.ty.params have_body ∙ sym (length-map body.ty.params basic_of)) in
    let few : count ≤ length (shape_of body.ty).params = first-few body.ty.params test.ty.params parts.2 in
    let law = law-GuardRoot (shape_of body.ty) count nothing few table test_box body_box other_box slots n long in
    refines-trans _ _ _ (refines-is _ _ (ap erased_ran means))
    (refines-trans _ _ _ all
    (refines-trans _ _ _ (refines-is _ _ (ap (λ x. and_then (filled x) n run) (sym tested)))
    (refines-trans _ _ _ law (refines-is _ _ (ap (λ fs. run_on table made_body fs slots n) (sym fields)))))) in
    stands-rooted table h (tree.Guard c t e) made_body sound (typed ∙ (row ∙ ap Ok (sym grows.typed))) (grows.weighed ∙ heavy) (grows.made ∙ sym keys)
    (grows.holds ∙ sym held) (ap body_of grows.made)
    (ap length fields) (ap (λ (m : MethodTy). map basic_of m.params) (sym own)) refl does
