-- A handle that gathers its last arguments into an array stands for the Gather of its tree.
use Rattle.std.proofs.Common.{◌≡◌, ◌≢◌, refl, sym, subst, ap, ◌∙◌, ℕ, ◌+◌, ◌-◌, ◌<◌, ◌≤◌, ◌^◌, true, List, [], ◌∷◌, ◌++◌, append-nil, take, drop, length, map, replicate, Option, Some, Ok, arith}
use Rattle.std.specs.Prelude.{slice_get}
use Rattle.std.proofs.lemmas.List.{length-map, length-replicate}
use Rattle.std.proofs.lemmas.Option.{slice_get_within}
use Rattle.mh_values.specs.declared.types.Comp.{Comp}
use Rattle.mh_values.specs.declared.types.Ty.{Ty}
use Rattle.mh_values.specs.declared.types.Ty.TheVariants as ty
use Rattle.mh_values.specs.declared.types.MethodTy.{MethodTy}
use Rattle.mh_values.specs.declared.value.Value.{Value}
use Rattle.mh_values.specs.Array.{array_of, item_type}
use Rattle.mh_values.specs.Classes.{AreClasses}
use Rattle.mh_values.specs.Computation.{Ran, Stuck, and_then, found, spliced}
use Rattle.mh_values.specs.HasType.{has_type, HaveTypes, is_type_below}
use Rattle.mh_values.proofs.BelowTypes.{value-below}
use Rattle.mh_leaf.specs.LeafTable.{LeafTable}
use Rattle.mh_tree.specs.Rows.{component_of, gather_row, taking}
use Rattle.mh_tree.specs.Tree.{Tree}
use Rattle.mh_tree.specs.Tree as tree
use Rattle.mh_tree.specs.Typing.{type_of, arity_of, with_type, sides}
use Rattle.mh_tree.specs.Meaning.{Done, mean, or_throw, part_of}
use Rattle.mh_tree.specs.Sound.{IsSound}
use Rattle.mh_tree.proofs.RowParts.{gather_row-few, gather_row-parts}
use Rattle.mh_tree.proofs.SoundAdapters.{one-taken}
use Rattle.mh_tree.proofs.SoundGather.{array-converts, gather-sound, last-there}
use Rattle.mh_tree.proofs.TypedLists.{types-length, types-part, types-splice}
use Rattle.mh_form.specs.declared.slot.Slot.{Slot}
use Rattle.mh_form.specs.declared.field.Field.TheVariants as field
use Rattle.mh_form.specs.Erasure.{basic_of, erased, erased_ran}
use Rattle.mh_form.specs.Run.{run_on}
use Rattle.mh_form.specs.Slots.{made_array}
use Rattle.mh_form.proofs.Refines.{refined}
use Rattle.mh_edit.specs.declared.key.Key.TheVariants as key
use Rattle.mh_edit.specs.Applied.{applied}
use Rattle.mh_edit.proofs.Arrays.{law-Gather}
use Rattle.mh_edit.proofs.Places.{length-spliced}
use Rattle.mh_handle.specs.Grows.{Grows}
use Rattle.mh_handle.specs.Recipe.{at_some, recipe}
use Rattle.mh_handle.specs.Stands.{HandleView, Stands, handle_body}
use Rattle.mh_handle.proofs.standing.Erasing.{part-map, returns-runs, spliced-map}
use Rattle.mh_handle.proofs.standing.Standing.{stands-grown}
use Rattle.mh_branch.proofs.ArrayShapes.{gather-shaped}
use Rattle.mh_branch.proofs.Rooted.{made-named}
use Rattle.mh_branch.proofs.GatheredArrays.{array-erased, array-then}

pub gather-stands :
    (table : LeafTable) (h h' : HandleView) (t : Tree) (array : Option Ty) (count : ℕ) (c : Comp) (u : MethodTy) →
    AreClasses table.classes →
    Stands table h t →
    gather_row table.classes h.ty h.weight array count ≡ Ok u →
    component_of array ≡ Some c →
    Grows h h' u (1 + h.weight) [] (key.Gather count (basic_of (item_type c))) (field.Comp c ∷ []) →
    Stands table h' (tree.Gather t array count)
gather-stands table h h' t array count c u are st row some grows =
    let parts = gather_row-parts table.classes h.ty h.weight array count u row in
    let few = gather_row-few table.classes h.ty h.weight array count u row in
    let same : Some parts.0 ≡ Some c = sym parts.1 ∙ some in
    let is : parts.0 ≡ c = cc in
    let place = length h.ty.params - 1 in
    let made : u ≡ taking (spliced place 1 (replicate count (item_type c)) h.ty.params) h.ty =
    parts.3 ∙ ap (λ d. taking (spliced place 1 (replicate count (item_type d)) h.ty.params) h.ty) is in
    let gather = tree.Gather t array count in
    let b = basic_of (item_type c) in
    let own = key.Gather count b in
    let old = handle_body h in
    let new = applied own old in
    let items = replicate count (item_type c) in
    let params = spliced place 1 items h.ty.params in
    let many : length items ≡ count = length-replicate count (item_type c) in
    let last = last-there table.classes parts.0 (slice_get h.ty.params place) parts.2 in
    let below : is_type_below table.classes (ty.Array c) last.0 ≡ true = subst (λ d. is_type_below table.classes (ty.Array d) last.0 ≡ true) is last.2 in
    let inside : place < length h.ty.params = slice_get_within h.ty.params place last.0 last.1 in
    let arity : length old.params ≡ length h.ty.params = ap length st.shaped ∙ length-map h.ty.params basic_of in
    let typed : type_of table gather ≡ Ok u = (λ i. with_type (st.typed i) (λ m. gather_row table.classes m (sym st.weighed i) array count)) ∙ row in
    let sound : IsSound table.classes (mean table gather) u =
    subst (λ o. IsSound table.classes (λ args n. found (component_of array) (λ d. or_throw (array_of d (part_of (arity_of o - 1) count args))
    (λ v. mean table t (spliced (arity_of o - 1) count (v ∷ []) args) n))) u) (sym st.typed)
    (gather-sound table.classes are (mean table t) h.ty h.weight array count u st.returns row) in
    let runs : (args : List Value) (n : ℕ) → HaveTypes table.classes args u.params → n < 2 ^ 32 →
    run_on table new (h.fields ++ field.Comp c ∷ []) (map erased args) n ≡ erased_ran (mean table gather args n) =
    λ args n have low.
    let have' : HaveTypes table.classes args params = subst (λ (m : MethodTy). HaveTypes table.classes args m.params) made have in
    let place-within : place ≤ length h.ty.params = omega arith in
    let vs = part_of place count args in
    let mine : HaveTypes table.classes vs items = subst (λ m. HaveTypes table.classes (part_of place m args) items) many
    (types-part table.classes args h.ty.params items place 1 place-within have') in
    let slots = map erased args in
    let run : Slot → ℕ → Ran (Option Slot) = λ s k. run_on table old h.fields (spliced place count (s ∷ []) slots) k in
    let next : Value → Done = λ v. mean table t (spliced place count (v ∷ []) args) n in
    let each : (v : Value) → has_type table.classes v (ty.Array c) ≡ true → run (erased v) n ≡ erased_ran (next v) =
    λ v given.
    let one : HaveTypes table.classes (v ∷ []) (take 1 (drop place h.ty.params)) =
    subst (HaveTypes table.classes (v ∷ [])) (sym (one-taken h.ty.params place last.0 last.1)) (
      value-below table.classes are (ty.Array c) last.0 below v given,
      tt,
    ) in
    let put = types-splice table.classes args (v ∷ []) h.ty.params items place 1 place-within have' one in
    let whole : HaveTypes table.classes (spliced place count (v ∷ []) args) h.ty.params =
    subst (λ m. HaveTypes table.classes (spliced place m (v ∷ []) args) h.ty.params) many put in
    ap (λ xs. run_on table old h.fields xs n) (sym (spliced-map erased place count (v ∷ []) args)) ∙ st.runs (spliced place count (v ∷ []) args) n whole low in
    let gathering : and_then (made_array table.classes c (take count (drop place slots))) n run ≡ erased_ran (or_throw (array_of c vs) next) =
    ap (λ r. and_then r n run) (ap (made_array table.classes c) (sym (part-map erased place count args)) ∙ array-erased table.classes c count vs
    (types-length table.classes vs items mine ∙ many) mine)
    ∙ array-then table.classes (array_of c vs) (ty.Array c) n run next (array-converts table.classes are c count vs few mine) each in
    let means : mean table gather args n ≡ or_throw (array_of c vs) next =
    ap (λ o. found (component_of array) (λ d. or_throw (array_of d (part_of (arity_of o - 1) count args))
    (λ v. mean table t (spliced (arity_of o - 1) count (v ∷ []) args) n))) st.typed
    ∙ ap (λ o. found o (λ d. or_throw (array_of d vs) next)) some in
    let law_run : and_then (made_array table.classes c (take count (drop (length old.params - 1) slots))) n
    (λ s k. run_on table old h.fields (spliced (length old.params - 1) count (s ∷ []) slots) k) ≡ erased_ran (mean table gather args n) =
    ap (λ m. and_then (made_array table.classes c (take count (drop (m - 1) slots))) n (λ s k. run_on table old h.fields (spliced (m - 1) count (s ∷ []) slots)
    k)) arity
    ∙ (gathering ∙ sym (ap erased_ran means)) in
    let runs_well : erased_ran (mean table gather args n) ≢ Stuck = returns-runs table.classes (mean table gather args n) u.ret (sound args n have) in
    let long : length slots + 1 ≡ length old.params + count =
    omega (arith, length-map args erased, types-length table.classes args params have', length-spliced place 1 items h.ty.params (omega arith), arity, many) in
    let law = law-Gather count b old (omega (arith, arity)) table h.fields c slots n st.fielded long in
    refined _ _ (λ e. runs_well (sym law_run ∙ e)) law ∙ law_run in
    stands-grown table h h' t gather u (1 + h.weight) [] own (field.Comp c ∷ []) grows st (record {
      typed = typed;
      weighed = ap (λ k. 1 + k) st.weighed;
      holds = sym (append-nil (sides table t));
      keyed = ap (λ o. recipe table t ++ at_some o (λ d. key.Gather count (basic_of (item_type d)))) some;
      fielded = refl;
      shaped = gather-shaped table.classes h.ty h.weight array count c u old row some st.shaped;
      begun = made-named new _ _ refl;
      runs = runs;
      returns = sound;
    })
