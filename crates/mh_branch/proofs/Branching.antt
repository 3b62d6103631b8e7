-- The branches of a guard do what their trees do.
use Rattle.std.proofs.Common.{◌≡◌, sym, subst, ap, ◌∙◌, ℕ, ◌+◌, ◌<◌, ◌≤◌, ◌^◌, Bool, true, false, if◌then◌else◌, List, [], ◌∷◌, length, length-append, map, Option, Some, None, arith}
use Rattle.std.specs.Prelude.{option_to_list}
use Rattle.std.proofs.lemmas.List.{length-map}
use Rattle.mh_values.specs.declared.types.Ty.{Ty}
use Rattle.mh_values.specs.declared.value.Num.TheVariants as num
use Rattle.mh_values.specs.declared.value.Value.{Value}
use Rattle.mh_values.specs.declared.value.Value.TheVariants as value
use Rattle.mh_values.specs.Computation.{Refines}
use Rattle.mh_values.specs.HasType.{HaveTypes}
use Rattle.mh_values.specs.Same.{begins_with_types}
use Rattle.mh_values.proofs.SameTypes.{begins_with-rest}
use Rattle.mh_leaf.specs.LeafTable.{LeafTable}
use Rattle.mh_leaf.specs.Outcome.{boolean_type}
use Rattle.mh_leaf.proofs.ArgumentTypes.{is_boolean}
use Rattle.mh_tree.specs.Tree.{Tree}
use Rattle.mh_tree.specs.Meaning.{Done, decided, mean}
use Rattle.mh_form.specs.declared.basic.BasicRet.{BasicRet}
use Rattle.mh_form.specs.declared.slot.Slot.{Slot}
use Rattle.mh_form.specs.declared.field.Bound.{Bound}
use Rattle.mh_form.specs.Erasure.{basic_of, basic_ret_of, erased, erased_option, erased_ran}
use Rattle.mh_form.specs.Run.{run_bound}
use Rattle.mh_form.specs.Slots.{holds_one, none_as_zero}
use Rattle.mh_form.proofs.Refines.{refines-is}
use Rattle.mh_edit.specs.Law.{returned}
use Rattle.mh_handle.specs.Stands.{HandleView, Stands, handle_run}
use Rattle.mh_handle.proofs.standing.Erasing.{returned-erased}

-- the first parameters are no more than all
pub first-few : (types front : List Ty) → begins_with_types types front ≡ true → length front ≤ length (map basic_of types)
first-few types front begins =
    let rest = begins_with-rest types front begins in
    let all : length types ≡ length front + length rest.0 = ap length rest.1 ∙ length-append front rest.0 in
    let same : length (map basic_of types) ≡ length types = length-map types basic_of in
    omega arith

-- a boolean decides for trees and for their parts alike
by_boolean :
    (b : Bool) (s : Slot) (yes_tree no_tree : Done) (table : LeafTable) (t e : Bound) (ret : BasicRet) (args : List Slot) (k : ℕ) →
    s ≡ erased (value.Prim (num.Z b)) →
    Refines (erased_ran yes_tree) (returned ret (run_bound table t args k)) →
    Refines (erased_ran no_tree) (returned ret (run_bound table e args k)) →
    Refines (erased_ran (decided (Some (value.Prim (num.Z b))) yes_tree no_tree)) (returned ret (run_bound table (if holds_one s then t else e) args k))
by_boolean true s yes_tree no_tree table t e ret args k is h g =
    let P : Slot → Type 0 = λ x. Refines (erased_ran yes_tree) (returned ret (run_bound table (if holds_one x then t else e) args k)) in
    subst P (sym is) h
by_boolean false s yes_tree no_tree table t e ret args k is h g =
    let P : Slot → Type 0 = λ x. Refines (erased_ran no_tree) (returned ret (run_bound table (if holds_one x then t else e) args k)) in
    subst P (sym is) g

pub decides :
    (table : LeafTable) (r : Option Value) (yes_tree no_tree : Done) (t e : Bound) (ret : BasicRet) (args : List Slot) (k : ℕ) →
    HaveTypes table.classes (option_to_list r) (boolean_type ∷ []) →
    Refines (erased_ran yes_tree) (returned ret (run_bound table t args k)) →
    Refines (erased_ran no_tree) (returned ret (run_bound table e args k)) →
    Refines (erased_ran (decided r yes_tree no_tree)) (returned ret (run_bound table (if holds_one (none_as_zero (erased_option r)) then t else e) args k))
decides table None yes_tree no_tree t e ret args k have h g = absurd have
decides table (Some v) yes_tree no_tree t e ret args k have h g =
    let b = is_boolean table.classes v have.0 in
    let P : Value → Type 0 = λ x. Refines (erased_ran (decided (Some x) yes_tree no_tree))
    (returned ret (run_bound table (if holds_one (erased v) then t else e) args k)) in
    subst P (sym b.1) (by_boolean b.0 (erased v) yes_tree no_tree table t e ret args k (ap erased b.1) h g)

-- a branch on all arguments
pub branch-does :
    (table : LeafTable) (h : HandleView) (t : Tree) (part : Bound) (args : List Value) (k : ℕ) →
    Stands table h t →
    run_bound table part ≡ handle_run table h →
    HaveTypes table.classes args h.ty.params →
    k < 2 ^ 32 →
    Refines (erased_ran (mean table t args k)) (returned (basic_ret_of h.ty.ret) (run_bound table part (map erased args) k))
branch-does table h t part args k st same have low =
    let r : Done = mean table t args k in
    let ran : run_bound table part (map erased args) k ≡ erased_ran r = ap (λ f. f (map erased args) k) same ∙ st.runs args k have low in
    refines-is _ _ (sym (ap (returned (basic_ret_of h.ty.ret)) ran ∙ returned-erased table.classes r h.ty.ret (st.returns args k have)))
