-- The items of an array, taken one after the other.
use Rattle.std.proofs.Common.{◌≡◌, refl, Bool, true, false, Some, ℕ, suc, ◌+◌, List, [], ◌∷◌, ◌++◌, sym, ap, ◌∙◌, length, map, append_assoc, add-zero, codes, arith}
use Rattle.std.specs.Prelude.{slice_get, if◌then◌else◌, ◌==◌}
use Rattle.std.proofs.lemmas.List.{length-map, append-nil}
use Rattle.std.proofs.lemmas.Bool.{eqb-true}
use Rattle.mh_values.specs.declared.value.Value.{Value}
use Rattle.mh_values.specs.declared.value.Value.TheVariants as value
use Rattle.mh_values.specs.declared.value.Exc.{Exc}
use Rattle.mh_values.specs.declared.calls.LeafCall.{LeafCall}
use Rattle.mh_values.specs.Array.{value_of_item, values_of_array}
use Rattle.mh_values.specs.Class.{illegal_argument_class, null_pointer_class}
use Rattle.mh_values.specs.Exception.{bare, saying}
use Rattle.mh_values.specs.Computation.{Ran, Gave, Threw, and_then, found, mapped}
use Rattle.mh_form.specs.declared.name.Name.TheVariants.{Elem}
use Rattle.mh_form.specs.declared.slot.Slot.{Slot}
use Rattle.mh_form.specs.declared.slot.Slot.TheVariants as slot
use Rattle.mh_form.specs.Erasure.{erased}
use Rattle.mh_form.specs.Slots.{item_in, spread_slots}
use Rattle.mh_form.specs.Run.{Sense, run_names, step}
use Rattle.mh_form.proofs.Computations.{and_then-pure}
use Rattle.mh_edit.specs.Applied.{elem_names}
use Rattle.mh_edit.proofs.Renaming.{slice_get-append_left}

-- the items of the array in a slot, when so many were wanted
pub record Holds (count : ℕ) (s : Slot) (items : List Slot) : Type 0 where
  pub many : length items ≡ count
  pub finds : (k : ℕ) (x : Slot) → slice_get items k ≡ Some x → item_in s k ≡ Some x

pub holds-if :
    (count : ℕ) (v : Value) (b : Bool) (vs : List Value) (e : Exc) (calls : List LeafCall) (items : List Slot) →
    (b ≡ true → length vs ≡ count) →
    values_of_array v ≡ vs →
    mapped (map erased) (if b then Gave vs [] else Threw e []) ≡ Gave items calls →
    Holds count (slot.L v) items
holds-if count v true vs e calls items many is h =
    let same : map erased vs ≡ items = cc in
    record {
      many = ap length (sym same) ∙ (length-map vs erased ∙ many refl);
      finds = λ k x at. ap (λ u. slice_get (map erased u) k) is ∙ (ap (λ u. slice_get u k) same ∙ at);
    }
holds-if count v false vs e calls items many is h = absurd cc

-- what is spread is what the array in the slot holds
pub holds-spread :
    (count : ℕ) (s : Slot) (items : List Slot) (calls : List LeafCall) → spread_slots count s ≡ Gave items calls → Holds count s items
holds-spread count (slot.I n) items calls h = absurd cc
holds-spread count (slot.J n) items calls h = absurd cc
holds-spread count (slot.L value.Null) items calls h =
    holds-if count value.Null (count == 0) [] (bare null_pointer_class) calls items (λ yes. sym (eqb-true count 0 yes)) refl h
holds-spread count (slot.L (value.Array c cells)) items calls h =
    holds-if count (value.Array c cells) (length cells == count) (map value_of_item cells) (saying illegal_argument_class (codes "spread")) calls items
    (λ yes. length-map cells value_of_item ∙ eqb-true (length cells) count yes) refl h
holds-spread count (slot.L (value.Prim x)) items calls h = absurd cc
holds-spread count (slot.L (value.Boxed x)) items calls h = absurd cc
holds-spread count (slot.L (value.Text x)) items calls h = absurd cc
holds-spread count (slot.L (value.Object c x)) items calls h = absurd cc
holds-spread count (slot.L (value.Thrown x)) items calls h = absurd cc

-- the names that take the items one after the other put them in order
pub run-elems :
    {B : Type 0} →
    (items : List Slot) (pos from : ℕ) (s : Slot) (senses : List Sense) (env : List Slot) (n : ℕ) (end : List Slot → ℕ → Ran B) →
    slice_get env pos ≡ Some s →
    ((k : ℕ) (x : Slot) → slice_get items k ≡ Some x → item_in s (from + k) ≡ Some x) →
    run_names (elem_names pos from (length items)) senses env n end ≡ end (env ++ items) n
run-elems [] pos from s senses env n end at finds = ap (λ v. end v n) (sym (append-nil env))
run-elems {B = B} (x ∷ items) pos from s senses env n end at finds =
    let rest : Slot → ℕ → Ran B = λ v k. run_names (elem_names pos (from + 1) (length items)) senses (env ++ v ∷ []) k end in
    let here : item_in s from ≡ Some x = ap (item_in s) (sym (add-zero from)) ∙ finds 0 x refl in
    let ran : step (Elem pos from) senses env n ≡ Gave x [] =
    ap (λ o. found o (λ v. found (item_in v from) (λ item. Gave item []))) at ∙ ap (λ o. found o (λ item. Gave item [])) here in
    let more : (k : ℕ) (y : Slot) → slice_get items k ≡ Some y → item_in s (from + 1 + k) ≡ Some y =
    λ k y h. let e : from + 1 + k ≡ from + suc k = omega arith in ap (item_in s) e ∙ finds (suc k) y h in
    ap (λ r. and_then r n rest) ran
    ∙ (and_then-pure x n rest
    ∙ (run-elems items pos (from + 1) s senses (env ++ x ∷ []) n end (slice_get-append_left env (x ∷ []) pos s at) more
    ∙ ap (λ v. end v n) (append_assoc env (x ∷ []) items)))
