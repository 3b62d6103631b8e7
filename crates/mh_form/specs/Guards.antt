-- A guarded part on a stack, and the handler of its exception.
use Rattle.std.specs.Prelude.{ℕ, ◌∷◌, take, if◌then◌else◌, Option, []}
use Rattle.mh_values.specs.declared.value.Value.TheVariants as value
use Rattle.mh_values.specs.Computation.{Ran, Threw, raised, is_caught}
use Rattle.mh_leaf.specs.LeafTable.{LeafTable}
use Rattle.mh_form.specs.declared.field.Bound.{Bound}
use Rattle.mh_form.specs.declared.interpreter.Guard.{Guard}
use Rattle.mh_form.specs.declared.slot.Slot.{Slot}
use Rattle.mh_form.specs.declared.slot.Slot.TheVariants as slot
use Rattle.mh_form.specs.Run.{guarded_field, run_field, senses_in}
use Rattle.mh_form.specs.Stack.{StackView}

-- the guarded part, and its handler, on the slots of the run under way
abbrev pub guarded_on : LeafTable → ℕ → Bound → Guard → StackView → Ran (Option Slot)
guarded_on table n bound g m =
    guarded_field (senses_in table bound) g.part (is_caught table.classes g.class) g.handler g.kept m.frame (raised n m.calls)

-- What the handler gives on the exception that was thrown last and the first slots of the run under way. An exception of another class goes on.
abbrev pub caught_on : LeafTable → ℕ → Bound → Guard → StackView → Ran (Option Slot)
caught_on table n bound g m =
    if is_caught table.classes g.class m.thrown then
    run_field (senses_in table bound) g.handler (slot.L (value.Thrown m.thrown) ∷ take g.kept m.frame) (raised n m.calls)
    else Threw m.thrown []
