-- Arguments and a result that are converted, with types erased.
use Rattle.std.proofs.Common.{◌≡◌, refl, sym, ap, ◌∙◌, ℕ, List, map, Option, Some, Result, Ok, Err}
use Rattle.mh_values.specs.declared.class.Class.{Class}
use Rattle.mh_values.specs.declared.types.Ty.{Ty}
use Rattle.mh_values.specs.declared.value.Exc.{Exc}
use Rattle.mh_values.specs.declared.value.Value.{Value}
use Rattle.mh_values.specs.Classes.{AreClasses}
use Rattle.mh_values.specs.Computation.{Ran, Gave, Threw, Stuck, and_then, after}
use Rattle.mh_values.specs.HasType.{HaveTypes}
use Rattle.mh_values.specs.Returns.{Returns}
use Rattle.mh_convert.specs.declared.conv.RetConv.{RetConv}
use Rattle.mh_convert.specs.declared.conv.Rules.{Rules}
use Rattle.mh_convert.specs.Conversion.{ret_conversion_of}
use Rattle.mh_leaf.specs.LeafTable.{LeafTable}
use Rattle.mh_tree.specs.Meaning.{Done, or_throw, conv_result}
use Rattle.mh_tree.proofs.Returning.{returned-typed}
use Rattle.mh_tree.proofs.SoundConversions.{ConvertAll}
use Rattle.mh_form.specs.declared.slot.Slot.{Slot}
use Rattle.mh_form.specs.Erasure.{erased, erased_option, erased_ran}
use Rattle.mh_form.proofs.Computations.{mapped-after}
use Rattle.mh_edit.specs.Law.{ret_entry_on}
use Rattle.mh_handle.specs.Recipe.{ret_entry_of}
use Rattle.mh_handle.proofs.conversions.ConvertedSlots.{result-converted}

-- what runs, and then its result converted
pub then-converted :
    (by : Rules) (table : LeafTable) → AreClasses table.classes → (s t : Option Ty) (c : RetConv) (m : Done) (n : ℕ) →
    ret_conversion_of by table.classes s t ≡ Some c → Returns table.classes m s →
    and_then (erased_ran m) n (λ r k. ret_entry_on by table (ret_entry_of table.classes s t) c r) ≡ erased_ran
    (and_then m n (λ r k. conv_result by table.classes s t r))
then-converted by table are s t c (Gave r calls) n is returns =
    ap (after calls) (result-converted by table are s t c r is (returned-typed table.classes r calls s returns))
    ∙ sym (mapped-after erased_option calls (conv_result by table.classes s t r))
then-converted by table are s t c (Threw e calls) n is returns = refl
then-converted by table are s t c Stuck n is returns = absurd returns

pub or_throw-erased :
    (classes : List Class) (ts : List Ty) (r : Result (List Value) Exc) (f : List Slot → Ran (Option Slot)) (g : List Value → Done) →
    ConvertAll classes r ts → ((vs : List Value) → HaveTypes classes vs ts → f (map erased vs) ≡ erased_ran (g vs)) →
    or_throw r (λ vs. f (map erased vs)) ≡ erased_ran (or_throw r g)
or_throw-erased classes ts (Ok vs) f g typed same = same vs typed
or_throw-erased classes ts (Err e) f g typed same = refl
