use Rattle.std.proofs.Common.{◌≡◌, Some, sym, ap, ◌∙◌, rules}
use Rattle.mh_values.specs.declared.value.Value.TheVariants.{Array}
use Rattle.mh_form.specs.declared.slot.Slot.TheVariants.{L}
use Rattle.mh_form.specs.Erasure.{erased}
use Rattle.mh_form.specs.Slots.{item_in}
use Rattle.mh_form.proofs.Items.{item-erased}
use Rattle.mh_form.proofs.array.item_in.Goals as goal

pub returns : goal.returns
returns c =
    let array : c.args.slot.now ≡ L (Array c.in-L-Array.field-0-0 c.in-L-Array.items) = search rules in
    let value : erased c.in_ok-value_of.field-0 ≡ c.erase.result = sym c.erase.ensures in
    ap (λ s. item_in s c.args.at) array
    ∙ (item-erased c.in-L-Array.items c.args.at c.get.result.now c.get.ensures ∙ ap Some (ap erased (sym c.in_ok-value_of.ensures) ∙ value))
