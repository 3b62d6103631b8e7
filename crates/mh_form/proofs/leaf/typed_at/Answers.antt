use Rattle.std.proofs.Common.{◌∙◌, arith}
use Rattle.std.proofs.lemmas.Grind.{common_steps}
use Rattle.mh_form.proofs.CalledAt.{at-next, at-none, at-short}
use Rattle.mh_form.proofs.leaf.typed_at.Goals as goal

pub unreachable-requires : goal.unreachable-requires
unreachable-requires c =
    c.requires.typed (c.loop-i.invariant ∙ at-short c.args.classes.now c.args.slots.now c.args.types.now c.args.places.now c.loop-i.values.items
    c.loop-i.i (omega arith) (omega arith))

pub typed_slot-requires : goal.typed_slot-requires
typed_slot-requires c =
    λ none. c.requires.typed (c.loop-i.invariant
    ∙ at-none c.args.classes.now c.args.slots.now c.args.types.now c.args.places.now c.loop-i.values.items c.loop-i.i
    c.get.result.now c.get-in-loop-i.result.now c.get.ensures c.get-in-loop-i.ensures none)

pub loop-i-preserved : goal.loop-i-preserved
loop-i-preserved c =
    at-next c.args.classes.now c.args.slots.now c.args.types.now c.args.places.now c.loop-i.values.items c.push.new.self.items c.loop-i.i c.get.result.now
    c.get-in-loop-i.result.now c.in_ok-value.value _
    c.loop-i.invariant c.get.ensures c.get-in-loop-i.ensures c.in_ok-value.ensures (grind (arith, common_steps))
