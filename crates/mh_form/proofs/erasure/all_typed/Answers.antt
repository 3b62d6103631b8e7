use Rattle.std.proofs.Common.{◌≡◌, ◌+◌, Some, sym, ap, ◌∙◌, refl, drop, length, arith}
use Rattle.std.specs.Prelude.{slice_get}
use Rattle.std.proofs.lemmas.Grind.{common_steps}
use Rattle.std.proofs.lemmas.List.{drop-set-lt}
use Rattle.std.proofs.lemmas.Option.{slice_get_read}
use Rattle.mh_form.specs.Erasure.{all_typed}
use Rattle.mh_form.proofs.Typing.{typed_on, typed-short, typed-none, typed-next}
use Rattle.mh_form.proofs.erasure.all_typed.Goals as goal

pub unreachable-requires : goal.unreachable-requires
unreachable-requires c =
    c.requires (c.loop-i.invariant ∙ typed-short c.args.classes.now c.args.types.now c.loop-i.slots.items c.loop-i.values c.loop-i.i (omega arith)
    (omega arith))

pub typed-requires : goal.typed-requires
typed-requires c =
    let slots = c.loop-i.slots.items in
    let here : slice_get slots c.loop-i.i ≡ Some c.replace-slot.result =
    slice_get_read slots (length slots) c.loop-i.i c.index_mut.result.now refl (omega arith) c.index_mut.ensures.value ∙
    ap Some (sym c.replace-slot.ensures.value) in
    λ none. c.requires (c.loop-i.invariant
    ∙ typed-none c.args.classes.now c.args.types.now slots c.loop-i.values c.loop-i.i c.get.result.now c.replace-slot.result c.get.ensures here none)

pub loop-i-preserved : goal.loop-i-preserved
loop-i-preserved c =
    let slots = c.loop-i.slots.items in
    let i = c.loop-i.i in
    let here : slice_get slots i ≡ Some c.replace-slot.result =
    slice_get_read slots (length slots) i c.index_mut.result.now refl (omega arith) c.index_mut.ensures.value ∙ ap Some (sym c.replace-slot.ensures.value) in
    let next = typed-next c.args.classes.now c.args.types.now slots c.loop-i.values c.push.new.self i c.get.result.now c.replace-slot.result c.typed.result _
    c.loop-i.invariant c.get.ensures here c.typed.ensures.is (grind (arith, common_steps)) in
    next ∙ ap (λ u. typed_on c.push.new.self (all_typed c.args.classes.now (drop (i + 1) c.args.types.now) u))
    (sym (drop-set-lt (i + 1) slots i c.replace-slot.new.dest (omega arith)))
