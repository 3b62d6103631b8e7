use Rattle.std.proofs.Common.{sym, ◌∙◌, ap}
use Rattle.mh_form.specs.Run.{picked}
use Rattle.mh_form.proofs.Picks.{picked-none}
use Rattle.mh_form.proofs.slots.pick.Goals as goal

pub slot_at-requires : goal.slot_at-requires
slot_at-requires c =
    let places = c.as_slice-place-items.result.now in
    λ none. c.requires (ap (picked c.args.slots.now) (sym c.as_slice-place-items.ensures) ∙ (c.loop-place.invariant
    ∙ picked-none c.args.slots.now places c.loop-place.place-index c.loop-place.xs c.loop-place-test.true none))
