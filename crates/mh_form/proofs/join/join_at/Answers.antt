use Rattle.std.proofs.Common.{◌∙◌, ap, ap₂, sym, []}
use Rattle.mh_values.specs.Computation.{Gave, Threw}
use Rattle.mh_values.specs.declared.value.Value.TheVariants.{Text}
use Rattle.mh_form.specs.declared.slot.Slot.TheVariants.{L}
use Rattle.mh_form.specs.Joins.{joined_text_at}
use Rattle.mh_form.proofs.Joins.{joins-long, joins-short, joins-there}
use Rattle.mh_form.proofs.join.join_at.Goals as goal

pub joined_length-requires : goal.joined_length-requires
joined_length-requires c =
    λ none. joins-there c.args.classes.now c.args.slots.now c.args.pieces.now c.args.places.now c.requires
    (ap₂ (joined_text_at c.args.classes.now c.args.slots.now) (sym c.as_slice-pieces.ensures) (sym c.as_slice-places.ensures) ∙ none)

pub returns-in_default : goal.returns-in_default
returns-in_default c =
    let is = ap₂ (joined_text_at c.args.classes.now c.args.slots.now) (sym c.as_slice-pieces.ensures) (sym c.as_slice-places.ensures) in
    ap (λ e. Threw e []) c.in_ok-refusal.ensures
    ∙ joins-long c.args.classes.now c.args.slots.now c.args.pieces.now c.args.places.now _ c.requires is c.in_default.ensures

pub returns : goal.returns
returns c =
    let is = ap₂ (joined_text_at c.args.classes.now c.args.slots.now) (sym c.as_slice-pieces.ensures) (sym c.as_slice-places.ensures) in
    ap (λ s. Gave (L (Text s)) []) (c.in_ok-text.ensures ∙ c.from_vec.ensures)
    ∙ joins-short c.args.classes.now c.args.slots.now c.args.pieces.now c.args.places.now c.in-Some.characters _ _ _ c.requires is c.in-Some.ensures
    c.in_ok-chars.ensures.items c.in_ok-push_joined.ensures
