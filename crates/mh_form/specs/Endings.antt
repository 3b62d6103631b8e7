-- Cleanups and loops on a stack.
use Rattle.std.specs.Prelude.{ℕ, ◌∷◌, ◌++◌, take, Option, Some, None}
use Rattle.mh_values.specs.declared.value.Value.TheVariants as value
use Rattle.mh_values.specs.Computation.{Ran, Gave, Threw, and_then, raised}
use Rattle.mh_leaf.specs.Ending.{rethrown, turned}
use Rattle.mh_leaf.specs.LeafTable.{LeafTable}
use Rattle.mh_form.specs.declared.field.Bound.{Bound}
use Rattle.mh_form.specs.declared.ending.Ending.{Ending}
use Rattle.mh_form.specs.declared.ending.Looping.{Looping}
use Rattle.mh_form.specs.declared.slot.Slot.{Slot}
use Rattle.mh_form.specs.declared.slot.Slot.TheVariants as slot
use Rattle.mh_form.specs.Run.{finally_field, run_field, senses_in, turn_of}
use Rattle.mh_form.specs.Slots.{bounded_slot, default_slots, filled, given}
use Rattle.mh_form.specs.Stack.{StackView}

-- what a part gave, after its slot was taken, or the exception that it threw
abbrev pub taken : Option Slot → StackView → Ran Slot
taken (Some s) m = Gave s m.calls
taken None m = Threw m.thrown m.calls

-- the part in a field, on the slots of the run under way
abbrev pub field_on : LeafTable → ℕ → Bound → ℕ → StackView → Ran Slot
field_on table n bound field m = filled (run_field (senses_in table bound) field m.frame (raised n m.calls))

-- a part with its cleanup, on the slots of the run under way
abbrev pub finally_on : LeafTable → ℕ → Bound → Ending → StackView → Ran Slot
finally_on table n bound f m = finally_field (senses_in table bound) f.part f.cleanup f.kept f.ret m.frame (raised n m.calls)

-- its cleanup, after it gave a slot
abbrev pub cleaned_up : LeafTable → ℕ → Bound → Ending → Slot → StackView → Ran Slot
cleaned_up table n bound f s m =
    filled (run_field (senses_in table bound) f.cleanup (slot.L value.Null ∷ (given f.ret s ++ take f.kept m.frame)) (raised n m.calls))

-- its cleanup and the exception, after it threw
abbrev pub rethrown_on : LeafTable → ℕ → Bound → Ending → StackView → Ran Slot
rethrown_on table n bound f m =
    rethrown m.thrown (filled (run_field (senses_in table bound) f.cleanup
    (slot.L (value.Thrown m.thrown) ∷ (default_slots f.ret ++ take f.kept m.frame)) (raised n m.calls)))

-- a loop, on the slots of the run under way
abbrev pub loop_on : LeafTable → ℕ → Bound → Looping → StackView → Ran Slot
loop_on table n bound l m =
    and_then (filled (run_field (senses_in table bound) l.iterations (take l.counts.iterations m.frame) (raised n m.calls))) (raised n m.calls)
    (λ s k. bounded_slot s (λ turns.
    and_then (filled (run_field (senses_in table bound) l.init (take l.counts.init m.frame) k)) k
    (λ v j. turned (turn_of (run_field (senses_in table bound) l.body) l.counts.body l.ret m.frame) 0 turns v j)))

-- a loop of this many turns, before its start
abbrev pub started_on : LeafTable → ℕ → Bound → Looping → ℕ → StackView → Ran Slot
started_on table n bound l turns m =
    and_then (filled (run_field (senses_in table bound) l.init (take l.counts.init m.frame) (raised n m.calls))) (raised n m.calls)
    (λ v k. turned (turn_of (run_field (senses_in table bound) l.body) l.counts.body l.ret m.frame) 0 turns v k)

-- a loop whose iterations gave a slot
abbrev pub bounded_on : LeafTable → ℕ → Bound → Looping → Slot → StackView → Ran Slot
bounded_on table n bound l s m = bounded_slot s (λ turns. started_on table n bound l turns m)

-- the turns of a loop from a number on, if this many are left, on the slots of the run under way
abbrev pub turns_on : LeafTable → ℕ → Bound → Looping → ℕ → ℕ → Slot → StackView → Ran Slot
turns_on table n bound l number left s m =
    turned (turn_of (run_field (senses_in table bound) l.body) l.counts.body l.ret m.frame) number left s (raised n m.calls)
