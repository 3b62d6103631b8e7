-- A handle that spreads its last argument stands for the Spread of its tree.
use Rattle.std.proofs.Common.{◌≡◌, ◌≢◌, refl, sym, subst, ap, ◌∙◌, ℕ, ◌+◌, ◌-◌, ◌<◌, ◌≤◌, ◌^◌, true, List, [], ◌∷◌, ◌++◌, append-nil, take, drop, length, map, Option, Some, Ok, nat_le, arith}
use Rattle.std.proofs.lemmas.Bool.{and_parts}
use Rattle.std.specs.Prelude.{slice_get}
use Rattle.std.specs.List.{list_all}
use Rattle.std.specs.Option.{option_map}
use Rattle.std.proofs.lemmas.List.{length-map, length-drop, take_all}
use Rattle.std.proofs.lemmas.Option.{slice_get-map}
use Rattle.mh_values.specs.declared.types.Comp.{Comp}
use Rattle.mh_values.specs.declared.types.Ty.{Ty}
use Rattle.mh_values.specs.declared.types.Ty.TheVariants as ty
use Rattle.mh_values.specs.declared.types.MethodTy.{MethodTy}
use Rattle.mh_values.specs.declared.value.Value.{Value}
use Rattle.mh_values.specs.Array.{item_type, spread_values}
use Rattle.mh_values.specs.Classes.{AreClasses}
use Rattle.mh_values.specs.Computation.{Ran, Stuck, and_then, found, spliced}
use Rattle.mh_values.specs.HasType.{HaveTypes}
use Rattle.mh_values.specs.Same.{is_same_type}
use Rattle.mh_leaf.specs.LeafTable.{LeafTable}
use Rattle.mh_tree.specs.Rows.{component_of, spread_row, taking}
use Rattle.mh_tree.specs.Tree.{Tree}
use Rattle.mh_tree.specs.Tree as tree
use Rattle.mh_tree.specs.Typing.{type_of, arity_of, with_type, sides}
use Rattle.mh_tree.specs.Meaning.{Done, mean}
use Rattle.mh_tree.specs.Sound.{IsSound}
use Rattle.mh_tree.proofs.RowParts.{spread_row-parts}
use Rattle.mh_tree.proofs.SoundAdapters.{at_most}
use Rattle.mh_tree.proofs.SoundSpread.{spreads, spliced_at, spread-sound}
use Rattle.mh_tree.proofs.TypedLists.{types-get, types-length, types-splice}
use Rattle.mh_form.specs.declared.slot.Slot.{Slot}
use Rattle.mh_form.specs.Erasure.{basic_of, erased, erased_ran}
use Rattle.mh_form.specs.Run.{run_on}
use Rattle.mh_form.specs.Slots.{spread_slots}
use Rattle.mh_form.proofs.Refines.{refined}
use Rattle.mh_edit.specs.declared.key.Key.TheVariants as key
use Rattle.mh_edit.specs.Applied.{applied}
use Rattle.mh_edit.proofs.Arrays.{law-Spread}
use Rattle.mh_edit.proofs.Places.{length-spliced}
use Rattle.mh_handle.specs.Grows.{Grows}
use Rattle.mh_handle.specs.Recipe.{at_some, recipe}
use Rattle.mh_handle.specs.Stands.{HandleView, Stands, handle_body}
use Rattle.mh_handle.proofs.standing.Erasing.{returns-runs, spliced-map}
use Rattle.mh_handle.proofs.standing.Standing.{stands-grown}
use Rattle.mh_branch.proofs.ArrayShapes.{spread-shaped}
use Rattle.mh_spread.proofs.SpreadItems.{items-then, spread-erased}
use Rattle.mh_branch.proofs.Rooted.{made-named}

pub spread-stands :
    (table : LeafTable) (h h' : HandleView) (t : Tree) (array : Option Ty) (count : ℕ) (c : Comp) (u : MethodTy) →
    AreClasses table.classes →
    Stands table h t →
    spread_row h.ty h.weight array count ≡ Ok u →
    component_of array ≡ Some c →
    Grows h h' u (1 + h.weight) [] (key.Spread count (basic_of (item_type c))) [] →
    Stands table h' (tree.Spread t array count)
spread-stands table h h' t array count c u are st row some grows =
    let parts = spread_row-parts h.ty h.weight array count u row in
    let same : Some parts.0 ≡ Some c = sym parts.1 ∙ some in
    let is : parts.0 ≡ c = cc in
    let made : u ≡ taking (spliced (length h.ty.params - count) count (ty.Array c ∷ []) h.ty.params) h.ty =
    parts.3 ∙ ap (λ d. taking (spliced (length h.ty.params - count) count (ty.Array d ∷ []) h.ty.params) h.ty) is in
    let spread = tree.Spread t array count in
    let own = key.Spread count (basic_of (item_type c)) in
    let old = handle_body h in
    let new = applied own old in
    let place = length h.ty.params - count in
    let params = spliced place count (ty.Array c ∷ []) h.ty.params in
    let last = and_parts (nat_le count (length h.ty.params)) (list_all (λ p. is_same_type p (item_type parts.0)) (drop place h.ty.params)) parts.2 in
    let within : count ≤ length h.ty.params = at_most count (length h.ty.params) last.0 in
    let all : list_all (λ p. is_same_type p (item_type c)) (drop place h.ty.params) ≡ true =
    subst (λ d. list_all (λ p. is_same_type p (item_type d)) (drop place h.ty.params) ≡ true) is last.1 in
    let arity : length old.params ≡ length h.ty.params = ap length st.shaped ∙ length-map h.ty.params basic_of in
    let typed : type_of table spread ≡ Ok u = (λ i. with_type (st.typed i) (λ m. spread_row m (sym st.weighed i) array count)) ∙ row in
    let sound : IsSound table.classes (mean table spread) u =
    subst (λ o. IsSound table.classes (λ args n. found (slice_get args (arity_of o - count)) (λ v. and_then (spread_values count v) n
    (λ items k. mean table t (spliced (arity_of o - count) 1 items args) k))) u) (sym st.typed)
    (spread-sound table.classes are (mean table t) h.ty h.weight array count u st.returns row) in
    let runs : (args : List Value) (n : ℕ) → HaveTypes table.classes args u.params → n < 2 ^ 32 →
    run_on table new (h.fields ++ []) (map erased args) n ≡ erased_ran (mean table spread args n) =
    λ args n have low.
    let have' : HaveTypes table.classes args params = subst (λ (m : MethodTy). HaveTypes table.classes args m.params) made have in
    let place-within : place ≤ length h.ty.params = omega arith in
    let v = types-get table.classes args params place (ty.Array c) have' (spliced_at h.ty.params place count (ty.Array c) place-within) in
    let many : length (drop place h.ty.params) ≡ count = omega (arith, length-drop place h.ty.params) in
    let few : length (drop place h.ty.params) ≤ count = omega (arith, many) in
    let taken : take count (drop place h.ty.params) ≡ drop place h.ty.params = take_all count (drop place h.ty.params) few in
    let slots = map erased args in
    let run : List Slot → ℕ → Ran (Option Slot) = λ items k. run_on table old h.fields (spliced place 1 items slots) k in
    let next : List Value → ℕ → Done = λ items k. mean table t (spliced place 1 items args) k in
    let each : (items : List Value) (k : ℕ) → HaveTypes table.classes items (drop place h.ty.params) → k < 2 ^ 32 →
    run (map erased items) k ≡ erased_ran (next items k) =
    λ items k given small.
    let whole : HaveTypes table.classes (spliced place 1 items args) h.ty.params =
    types-splice table.classes args items h.ty.params (ty.Array c ∷ []) place count place-within have' (subst (HaveTypes table.classes
    items) (sym taken) given) in
    ap (λ xs. run_on table old h.fields xs k) (sym (spliced-map erased place 1 items args)) ∙ st.runs (spliced place 1 items args) k whole small in
    let spreading : and_then (spread_slots count (erased v.0)) n run ≡ erased_ran (and_then (spread_values count v.0) n next) =
    ap (λ r. and_then r n run) (spread-erased table.classes c count v.0 v.2)
    ∙ items-then table.classes (spread_values count v.0) n (drop place h.ty.params) run next (spreads table.classes are c count v.0 (drop place h.ty.params) v.2
    all many) low each in
    let slot : slice_get slots place ≡ Some (erased v.0) = slice_get-map erased args place ∙ ap (option_map erased) v.1 in
    let means : mean table spread args n ≡ and_then (spread_values count v.0) n next =
    ap (λ o. found (slice_get args (arity_of o - count)) (λ x. and_then (spread_values count x) n
    (λ items k. mean table t (spliced (arity_of o - count) 1 items args) k))) st.typed
    ∙ ap (λ o. found o (λ x. and_then (spread_values count x) n next)) v.1 in
    let law_run : found (slice_get slots (length old.params - count))
    (λ s. and_then (spread_slots count s) n (λ items k. run_on table old h.fields (spliced (length old.params - count) 1 items slots) k)) ≡ erased_ran
    (mean table spread args n) =
    ap (λ m. found (slice_get slots (m - count))
    (λ s. and_then (spread_slots count s) n (λ items k. run_on table old h.fields (spliced (m - count) 1 items slots) k))) arity
    ∙ (ap (λ o. found o (λ s. and_then (spread_slots count s) n run)) slot ∙ (spreading ∙ sym (ap erased_ran means))) in
    let runs_well : erased_ran (mean table spread args n) ≢ Stuck = returns-runs table.classes (mean table spread args n) u.ret (sound args n have) in
    let long : length slots + count ≡ length old.params + 1 =
    omega (
      arith,
      length-map args erased,
      types-length table.classes args params have',
      length-spliced place count (ty.Array c ∷ []) h.ty.params (omega arith),
      arity,
    ) in
    let inside : count ≤ length old.params = omega (arith, arity) in
    let law = law-Spread count (basic_of (item_type c)) old inside table h.fields slots n st.fielded long in
    ap (λ fs. run_on table new fs slots n) (append-nil h.fields) ∙ (refined _ _ (λ e. runs_well (sym law_run ∙ e)) law ∙ law_run) in
    stands-grown table h h' t spread u (1 + h.weight) [] own [] grows st (record {
      typed = typed;
      weighed = ap (λ k. 1 + k) st.weighed;
      holds = sym (append-nil (sides table t));
      keyed = ap (λ o. recipe table t ++ at_some o (λ d. key.Spread count (basic_of (item_type d)))) some;
      fielded = refl;
      shaped = spread-shaped h.ty h.weight array count c u old row some st.shaped;
      begun = made-named new _ _ refl;
      runs = runs;
      returns = sound;
    })
