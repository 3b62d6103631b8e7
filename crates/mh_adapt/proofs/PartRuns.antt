-- A part runs as its handle does, before the handle that it is a part of or after it.
use Rattle.std.proofs.Common.{◌≡◌, sym, subst, ap, ap₂, ◌∙◌, ℕ, ◌<◌, ◌^◌, List, take, drop, map, Option}
use Rattle.std.specs.Prelude.{option_to_list}
use Rattle.std.specs.declared.sync.Arc.{Arc}
use Rattle.std.specs.declared.alloc.Global.{Global}
use Rattle.mh_values.specs.declared.value.Value.{Value}
use Rattle.mh_values.specs.Computation.{Ran, and_then, spliced}
use Rattle.mh_values.specs.HasType.{HaveTypes}
use Rattle.mh_leaf.specs.LeafTable.{LeafTable}
use Rattle.mh_tree.specs.Tree.{Tree}
use Rattle.mh_tree.specs.Meaning.{Done, mean, part_of}
use Rattle.mh_form.specs.declared.slot.Slot.{Slot}
use Rattle.mh_form.specs.declared.field.Bound.{Bound}
use Rattle.mh_form.specs.Erasure.{basic_ret_of, erased, erased_ran}
use Rattle.mh_form.specs.Run.{run_bound, run_on}
use Rattle.mh_form.specs.Slots.{filled, given}
use Rattle.mh_edit.specs.Law.{returned, slots_of_result}
use Rattle.mh_handle.specs.Stands.{HandleView, Stands, handle_body, handle_run}
use Rattle.mh_handle.proofs.standing.Erasing.{part-map, part-then, result-then, spliced-map}

module _ (table : LeafTable) (h g : HandleView) (a b : Tree) (part : Arc Bound Global) (st : Stands table h a) (sp : Stands table g b)
    (body : part.value.body.now ≡ handle_body g) (fields : part.value.fields.items ≡ g.fields) where
  part-runs : (args : List Value) (n : ℕ) → HaveTypes table.classes args g.ty.params → n < 2 ^ 32 →
      run_bound table part.value (map erased args) n ≡ erased_ran (mean table b args n)
  part-runs args n have low = ap (λ run. run (map erased args) n) (ap₂ (run_on table) body fields) ∙ sp.runs args n have low

  -- the part on arguments of its own, and then the handle with the part's result put in
  pub first-runs :
      (args : List Value) (n place count put : ℕ) →
      n < 2 ^ 32 →
      HaveTypes table.classes (part_of place count args) g.ty.params →
      ((o : Option Value) → HaveTypes table.classes (option_to_list o) (option_to_list g.ty.ret) →
      HaveTypes table.classes (spliced place put (option_to_list o) args) h.ty.params) →
      and_then (filled (run_bound table part.value (take count (drop place (map erased args))) n)) n
      (λ s k. handle_run table h (spliced place put (given (basic_ret_of g.ty.ret) s) (map erased args)) k)
      ≡ erased_ran (and_then (mean table b (part_of place count args) n) n (λ o k. mean table a (spliced place put (option_to_list o) args) k))
  first-runs args n place count put low own whole =
      let slots = map erased args in
      let first : run_bound table part.value (take count (drop place slots)) n ≡ erased_ran (mean table b (part_of place count args) n) =
      ap (λ xs. run_bound table part.value xs n) (sym (part-map erased place count args)) ∙ part-runs (part_of place count args) n own low in
      let run : List Slot → ℕ → Ran (Option Slot) = λ xs k. handle_run table h (spliced place put xs slots) k in
      let means : List Value → ℕ → Done = λ vs k. mean table a (spliced place put vs args) k in
      ap (λ r. and_then (filled r) n (λ s k. run (given (basic_ret_of g.ty.ret) s) k)) first
      ∙ part-then table.classes (mean table b (part_of place count args) n) n g.ty.ret run means low (sp.returns (part_of place count args) n own)
      (λ o k have klow.
      ap (λ xs. handle_run table h xs k) (sym (spliced-map erased place put (option_to_list o) args)) ∙ st.runs (spliced place put (option_to_list o) args) k
      (whole o have) klow)

  -- the handle on all arguments, and then the part on its result, if any
  pub last-runs :
      (args : List Value) (n : ℕ) →
      n < 2 ^ 32 →
      HaveTypes table.classes args h.ty.params →
      g.ty.params ≡ option_to_list h.ty.ret →
      and_then (handle_run table h (map erased args) n) n (λ o k. returned (basic_ret_of g.ty.ret) (run_bound table part.value (slots_of_result o) k))
      ≡ erased_ran (and_then (mean table a args n) n (λ o k. mean table b (option_to_list o) k))
  last-runs args n low have takes =
      let own : (o : Option Value) → HaveTypes table.classes (option_to_list o) (option_to_list h.ty.ret) →
      HaveTypes table.classes (option_to_list o) g.ty.params =
      λ o given. subst (HaveTypes table.classes (option_to_list o)) (sym takes) given in
      let run : List Slot → ℕ → Ran (Option Slot) = run_bound table part.value in
      ap (λ r. and_then r n (λ o k. returned (basic_ret_of g.ty.ret) (run (slots_of_result o) k))) (st.runs args n have low)
      ∙ result-then table.classes (mean table a args n) n h.ty.ret g.ty.ret run (mean table b) low (st.returns args n have)
      (λ o k given. sp.returns (option_to_list o) k (own o given))
      (λ o k given klow. part-runs (option_to_list o) k (own o given) klow)
