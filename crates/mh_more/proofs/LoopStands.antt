-- The handle of a loop stands for its tree.
use Rattle.std.proofs.Common.{◌≡◌, refl, sym, subst, ap, ap₂, ◌∙◌, ℕ, ◌+◌, ◌<◌, ◌≤◌, ◌^◌, pos, true, List, [], ◌∷◌, ◌++◌, take, length, map, Option, Some, Ok, arith}
use Rattle.std.specs.Prelude.{option_to_list}
use Rattle.std.proofs.lemmas.List.{length-map, map-append, take-map}
use Rattle.mh_values.specs.declared.types.Ty.{Ty}
use Rattle.mh_values.specs.declared.class.Class.{Class}
use Rattle.mh_values.specs.declared.types.MethodTy.{MethodTy}
use Rattle.mh_values.specs.declared.value.Num.TheVariants as num
use Rattle.mh_values.specs.declared.value.Value.{Value}
use Rattle.mh_values.specs.declared.value.Value.TheVariants as value
use Rattle.mh_values.specs.Classes.{AreClasses}
use Rattle.mh_values.specs.Computation.{Ran, Refines, and_then}
use Rattle.mh_leaf.specs.Ending.{most_turns, turned}
use Rattle.mh_values.specs.HasType.{HaveTypes}
use Rattle.mh_values.specs.Returns.{Returns}
use Rattle.mh_values.specs.Same.{begins_with_types}
use Rattle.mh_values.proofs.SameTypes.{same_return-is}
use Rattle.mh_leaf.specs.LeafTable.{LeafTable}
use Rattle.mh_leaf.specs.Outcome.{int_type}
use Rattle.mh_tree.specs.Rows.{TypeOrRefusal, counted_row, further, loop_params, taking}
use Rattle.mh_tree.specs.Tree.{Tree, weight}
use Rattle.mh_tree.specs.Tree as tree
use Rattle.mh_tree.specs.Typing.{type_of, arity_of, with_type, held_before, sides}
use Rattle.mh_tree.specs.Meaning.{Done, bounded_by, further_count, mean}
use Rattle.mh_tree.specs.Sound.{Body, IsSound}
use Rattle.mh_tree.proofs.RowParts.{counted_row-parts}
use Rattle.mh_tree.proofs.SoundBranches.{first-typed}
use Rattle.mh_tree.proofs.SoundLoops.{counted-sound, turn-typed}
use Rattle.mh_tree.proofs.TypedLists.{types-length}
use Rattle.mh_form.specs.declared.name.LoopCounts.{LoopCounts}
use Rattle.mh_form.specs.declared.slot.Slot.{Slot}
use Rattle.mh_form.specs.declared.slot.Slot.TheVariants as slot
use Rattle.mh_form.specs.declared.field.Field.{Field}
use Rattle.mh_form.specs.declared.field.Field.TheVariants as field
use Rattle.mh_form.specs.Body.{nothing}
use Rattle.mh_form.specs.Erasure.{basic_of, basic_ret_of, shape_of, erased, erased_option, erased_ran}
use Rattle.mh_form.specs.Run.{loop_run, run_bound, run_on, turn_of}
use Rattle.mh_form.specs.Slots.{bounded_slot, filled, given, none_as_zero}
use Rattle.mh_form.proofs.Refines.{refines-is, refines-trans}
use Rattle.mh_edit.specs.Applied.{counts_of, loop_body}
use Rattle.mh_edit.proofs.RootEndings.{law-LoopRoot}
use Rattle.mh_handle.specs.Form.{body_of}
use Rattle.mh_handle.specs.Grows.{Grows, base_handle}
use Rattle.mh_handle.specs.Parts.{IsPartOf}
use Rattle.mh_handle.specs.Recipe.{at_type, loop_key, recipe}
use Rattle.mh_handle.specs.Stands.{HandleView, Stands, handle_run}
use Rattle.mh_branch.proofs.Computing.{and_then-erased}
use Rattle.mh_branch.proofs.Rooted.{part-runs, stands-rooted}
use Rattle.mh_more.proofs.ErasedEndings.{as_result, bounded-erased, given-slots, result-then, turned-erased}

-- a part that takes the first arguments does what its tree does
first-runs :
    (table : LeafTable) (part : HandleView) (t : Tree) (f : Field) (is_part : IsPartOf part f) (params : List Ty) (args : List Value) (n : ℕ) →
    Stands table part t →
    begins_with_types params part.ty.params ≡ true →
    HaveTypes table.classes args params →
    n < 2 ^ 32 →
    run_bound table is_part.0.value (take (length part.ty.params) (map erased args)) n ≡ erased_ran (mean table t (take (length part.ty.params) args) n)
first-runs table part t f is_part params args n stands begins have low =
    let count = length part.ty.params in
    ap (λ x. x (take count (map erased args)) n) (part-runs table part f is_part)
    ∙ (ap (λ xs. handle_run table part xs n) (take-map erased count args)
    ∙ stands.runs (take count args) n (first-typed table.classes args params part.ty.params begins have) low)

-- what follows a part, erased, where its run is known
after-part :
    (table : LeafTable) (r : Done) (n : ℕ) (t : Option Ty) (ret : Option Ty) (q : Ran (Option Slot)) (next : Option Value → ℕ → Done)
    (run : Slot → ℕ → Ran Slot) →
    Returns table.classes r t →
    n < 2 ^ 32 →
    q ≡ erased_ran r →
    ((v : Option Value) (k : ℕ) → HaveTypes table.classes (option_to_list v) (option_to_list t) → k < 2 ^ 32 →
    Refines (erased_ran (next v k)) (as_result (basic_ret_of ret) (run (none_as_zero (erased_option v)) k))) →
    Refines (erased_ran (and_then r n next)) (as_result (basic_ret_of ret) (and_then (filled q) n run))
after-part table r n t ret q next run returns low is does =
    let b = basic_ret_of ret in
    let all = and_then-erased table.classes r n t (λ s k. as_result b (run s k)) next returns low does in
    let P : Ran (Option Slot) → Type 0 = λ x. Refines (erased_ran (and_then r n next)) (and_then (filled x) n (λ s k. as_result b (run s k))) in
    let Q : Ran (Option Slot) → Type 0 = λ x. Refines (erased_ran (and_then r n next)) x in
    subst Q (sym (result-then b (filled q) n run)) (subst P (sym is) all)

module _
    (table : LeafTable) (n i b : Tree) (counts starts turns : HandleView) (counts_field starts_field turns_field : Field)
    (counting : Stands table counts n) (starting : Stands table starts i) (turning : Stands table turns b)
    (counts_part : IsPartOf counts counts_field) (starts_part : IsPartOf starts starts_field) (turns_part : IsPartOf turns turns_field)
    (u : MethodTy) (row : counted_row counts.ty counts.weight starts.ty starts.weight turns.ty turns.weight ≡ Ok u) where
  abbrev params : List Ty
  params = loop_params counts.ty turns.ty

  abbrev classes : List Class
  classes = table.classes

  abbrev each : LoopCounts
  each = counts_of (length counts.ty.params) (length starts.ty.params) (length (further turns.ty))

  -- what a turn of the tree does
  abbrev tree_turn : List Value → ℕ → Option Value → ℕ → Done
  tree_turn args j w k = mean table b (option_to_list w ++ (value.Prim (num.I (pos j)) ∷ take (length (further turns.ty)) args)) k

  -- what a turn of the form does
  abbrev form_turn : List Value → ℕ → Slot → ℕ → Ran Slot
  form_turn args = turn_of (run_bound table turns_part.0.value) (length (further turns.ty)) (basic_ret_of turns.ty.ret) (map erased args)

  turn-does :
      (args : List Value) → HaveTypes classes args params → (j : ℕ) (w : Option Value) (k : ℕ) → j < most_turns →
      HaveTypes classes (option_to_list w) (option_to_list turns.ty.ret) → k < 2 ^ 32 →
      form_turn args j (none_as_zero (erased_option w)) k ≡ filled (erased_ran (tree_turn args j w k))
  turn-does args have j w k few typed low =
      let rest = take (length (further turns.ty)) args in
      let number : Value = value.Prim (num.I (pos j)) in
      let xs = option_to_list w ++ (number ∷ rest) in
      let same : given (basic_ret_of turns.ty.ret) (none_as_zero (erased_option w)) ++ (slot.I (pos j) ∷ take (length (further turns.ty)) (map erased args))
      ≡ map erased xs =
      ap₂ (λ (x y : List Slot). x ++ (slot.I (pos j) ∷ y)) (given-slots classes w turns.ty.ret typed) (take-map erased (length (further turns.ty)) args)
      ∙ sym (map-append erased (option_to_list w) (number ∷ rest)) in
      let have_turn : HaveTypes classes xs turns.ty.params = turn-typed classes counts.ty turns.ty args j w few
      (counted_row-parts counts.ty counts.weight starts.ty starts.weight turns.ty turns.weight u row).1 have typed in
      ap (λ ys. filled (run_bound table turns_part.0.value ys k)) same
      ∙ ap filled (ap (λ x. x (map erased xs) k) (part-runs table turns turns_field turns_part) ∙ turning.runs xs k have_turn low)

  -- the turns, after the start
  turns-do :
      (args : List Value) → HaveTypes classes args params → (left : ℕ) (v : Option Value) (k : ℕ) → left ≤ most_turns →
      HaveTypes classes (option_to_list v) (option_to_list starts.ty.ret) → k < 2 ^ 32 →
      Refines (erased_ran (turned (tree_turn args) 0 left v k))
      (as_result (basic_ret_of turns.ty.ret) (turned (form_turn args) 0 left (none_as_zero (erased_option v)) k))
  turns-do args have left v k few typed low =
      turned-erased classes turns.ty.ret (tree_turn args) (form_turn args)
      (λ j w m more given_type. turning.returns _ m (turn-typed classes counts.ty turns.ty args j w more
      (counted_row-parts counts.ty counts.weight starts.ty starts.weight turns.ty turns.weight u row).1 have given_type))
      (turn-does args have) left 0 v k (omega (arith, few))
      (subst (λ o. HaveTypes classes (option_to_list v) (option_to_list o)) (same_return-is starts.ty.ret turns.ty.ret
      (counted_row-parts counts.ty counts.weight starts.ty starts.weight turns.ty turns.weight u row).2) typed) low

  -- the start and the turns, after the iterations
  abbrev tree_rest : List Value → ℕ → ℕ → Done
  tree_rest args k left = and_then (mean table i (take (length starts.ty.params) args) k) k (λ v m. turned (tree_turn args) 0 left v m)

  abbrev form_rest : List Value → ℕ → ℕ → Ran Slot
  form_rest args k left =
      and_then (filled (run_bound table starts_part.0.value (take (length starts.ty.params) (map erased args)) k)) k
      (λ v m. turned (form_turn args) 0 left v m)

  rest-does :
      (args : List Value) → HaveTypes classes args params → (k left : ℕ) → left ≤ most_turns → k < 2 ^ 32 →
      Refines (erased_ran (tree_rest args k left)) (as_result (basic_ret_of turns.ty.ret) (form_rest args k left))
  rest-does args have k left few low =
      let first = take (length starts.ty.params) args in
      after-part table (mean table i first k) k starts.ty.ret turns.ty.ret
      (run_bound table starts_part.0.value (take (length starts.ty.params) (map erased args)) k)
      (λ v m. turned (tree_turn args) 0 left v m) (λ v m. turned (form_turn args) 0 left v m)
      (starting.returns first k (first-typed classes args params starts.ty.params
      (counted_row-parts counts.ty counts.weight starts.ty starts.weight turns.ty turns.weight u row).4 have)) low
      (first-runs table starts i starts_field starts_part params args k starting
      (counted_row-parts counts.ty counts.weight starts.ty starts.weight turns.ty turns.weight u row).4 have low)
      (λ v m typed small. turns-do args have left v m few typed small)

  -- all of the loop
  loop-does :
      (args : List Value) → HaveTypes classes args params → (m : ℕ) → m < 2 ^ 32 →
      Refines
      (erased_ran (and_then (mean table n (take (length counts.ty.params) args) m) m (λ r k. bounded_by r (tree_rest args k))))
      (as_result (basic_ret_of turns.ty.ret)
      (loop_run (run_bound table counts_part.0.value) (run_bound table starts_part.0.value) (run_bound table turns_part.0.value) each
      (basic_ret_of turns.ty.ret) (map erased args) m))
  loop-does args have m low =
      let first = take (length counts.ty.params) args in
      after-part table (mean table n first m) m counts.ty.ret turns.ty.ret
      (run_bound table counts_part.0.value (take (length counts.ty.params) (map erased args)) m)
      (λ r k. bounded_by r (tree_rest args k)) (λ s k. bounded_slot s (form_rest args k))
      (counting.returns first m (first-typed classes args params counts.ty.params
      (counted_row-parts counts.ty counts.weight starts.ty starts.weight turns.ty turns.weight u row).3 have)) low
      (first-runs table counts n counts_field counts_part params args m counting
      (counted_row-parts counts.ty counts.weight starts.ty starts.weight turns.ty turns.weight u row).3 have low)
      (λ r k typed small.
      bounded-erased classes r (basic_ret_of turns.ty.ret) (tree_rest args k) (form_rest args k)
      (subst (λ o. HaveTypes classes (option_to_list r) (option_to_list o)) (same_return-is counts.ty.ret (Some int_type)
      (counted_row-parts counts.ty counts.weight starts.ty starts.weight turns.ty turns.weight u row).0) typed)
      (λ left few. rest-does args have k left few small))

  pub loop-stands :
      (h : HandleView) →
      AreClasses classes →
      Grows base_handle h u (126 + counts.weight + starts.weight + turns.weight)
      ((counts.ty ∷ counts.sides) ++ (starts.ty ∷ starts.sides) ++ (turns.ty ∷ turns.sides))
      (loop_key counts.ty starts.ty turns.ty)
      (counts_field ∷ starts_field ∷ turns_field ∷ []) →
      Stands table h (tree.Counted n i b)
  loop-stands h are grows =
      let own : h.ty ≡ taking params turns.ty =
      grows.typed ∙ (counted_row-parts counts.ty counts.weight starts.ty starts.weight turns.ty turns.weight u row).5 in
      let own_row : counted_row counts.ty counts.weight starts.ty starts.weight turns.ty turns.weight ≡ Ok h.ty = row ∙ ap Ok (sym grows.typed) in
      let fields : h.fields ≡ field.Part counts_part.0 ∷ field.Part starts_part.0 ∷ field.Part turns_part.0 ∷ [] =
      grows.fielded ∙ (λ j. counts_part.1 j ∷ starts_part.1 j ∷ turns_part.1 j ∷ []) in
      let shape = shape_of (taking params turns.ty) in
      let made_body = loop_body shape each in
      let typed : type_of table (tree.Counted n i b) ≡ counted_row counts.ty counts.weight starts.ty starts.weight turns.ty turns.weight =
      λ j. with_type (counting.typed j) (λ nt. with_type (starting.typed j) (λ it. with_type (turning.typed j) (λ bt.
      counted_row nt (sym counting.weighed j) it (sym starting.weighed j) bt (sym turning.weighed j)))) in
      let heavy : 126 + counts.weight + starts.weight + turns.weight ≡ 126 + weight n + weight i + weight b =
      λ j. 126 + counting.weighed j + starting.weighed j + turning.weighed j in
      let keys : recipe table (tree.Counted n i b) ≡ loop_key counts.ty starts.ty turns.ty ∷ [] =
      λ j. at_type (counting.typed j) (λ nt. at_type (starting.typed j) (λ it. at_type (turning.typed j) (λ bt. loop_key nt it bt ∷ []))) in
      let held : sides table (tree.Counted n i b)
      ≡ (counts.ty ∷ counts.sides) ++ (starts.ty ∷ starts.sides) ++ (turns.ty ∷ turns.sides) =
      λ j. held_before (counting.typed j) (sym counting.holds j) ++ held_before (starting.typed j) (sym starting.holds j)
      ++ held_before (turning.typed j) (sym turning.holds j) in
      let run : TypeOrRefusal → TypeOrRefusal → TypeOrRefusal → Body = λ o v w args m. and_then (mean table n (take (arity_of o) args) m) m
      (λ x k. bounded_by x (λ left. and_then (mean table i (take (arity_of v) args) k) k (λ y l.
      turned (λ j z q. mean table b (option_to_list z ++ (value.Prim (num.I (pos j)) ∷ take (further_count w) args)) q) 0 left y l))) in
      let sound : IsSound classes (mean table (tree.Counted n i b)) h.ty =
      subst (λ o. IsSound classes (run o (type_of table i) (type_of table b)) h.ty) (sym counting.typed)
      (subst (λ o. IsSound classes (run (Ok counts.ty) o (type_of table b)) h.ty) (sym starting.typed)
      (subst (λ o. IsSound classes (run (Ok counts.ty) (Ok starts.ty) o) h.ty) (sym turning.typed)
      (counted-sound classes are (mean table n) (mean table i) (mean table b) counts.ty counts.weight starts.ty starts.weight turns.ty turns.weight h.ty
      counting.returns starting.returns turning.returns own_row))) in
      let does : (args : List Value) (m : ℕ) → HaveTypes classes args h.ty.params → m < 2 ^ 32 →
      Refines (erased_ran (mean table (tree.Counted n i b) args m)) (run_on table made_body h.fields (map erased args) m) =
      λ args m have low.
      let have_loop : HaveTypes classes args params = subst (λ (t : MethodTy). HaveTypes classes args t.params) own have in
      let slots = map erased args in
      let means : mean table (tree.Counted n i b) args m
      ≡ and_then (mean table n (take (length counts.ty.params) args) m) m (λ r k. bounded_by r (tree_rest args k)) =
      λ j. run (counting.typed j) (starting.typed j) (turning.typed j) args m in
      let long : length slots ≡ length shape.params =
      length-map args erased ∙ (types-length classes args params have_loop ∙ sym (length-map params basic_of)) in
      let law = law-LoopRoot shape (length counts.ty.params) (length starts.ty.params) (length (further turns.ty)) nothing table counts_part.0 starts_part.0
      turns_part.0 slots m long in
      refines-trans _ _ _ (refines-is _ _ (ap erased_ran means))
      (refines-trans _ _ _ (loop-does args have_loop m low)
      (refines-trans _ _ _ law (refines-is _ _ (ap (λ fs. run_on table made_body fs slots m) (sym fields))))) in
      stands-rooted table h (tree.Counted n i b) made_body sound (typed ∙ own_row) (grows.weighed ∙ heavy) (grows.made ∙ sym keys)
      (grows.holds ∙ sym held) (ap body_of grows.made) (ap length fields) (ap (λ (t : MethodTy). map basic_of t.params) (sym own)) refl does
