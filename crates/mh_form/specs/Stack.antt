-- What a stack holds while runs of forms use it, and what was done on it.
use Rattle.std.specs.Prelude.{ℕ, ◌-◌, List, [], ◌∷◌, ◌++◌, Result, Ok, Err, take, drop, length}
use Rattle.mh_values.specs.declared.calls.LeafCall.{LeafCall}
use Rattle.mh_values.specs.declared.value.Exc.{Exc}
use Rattle.mh_values.specs.declared.value.Value.{Value}
use Rattle.mh_values.specs.Computation.{Ran, Gave, Threw, after, mapped, raised}
use Rattle.mh_leaf.specs.LeafTable.{LeafTable}
use Rattle.mh_form.specs.declared.field.Bound.{Bound}
use Rattle.mh_form.specs.declared.going.Going.{Going}
use Rattle.mh_form.specs.declared.going.Going.TheVariants as going
use Rattle.mh_form.specs.declared.name.Name.{Name}
use Rattle.mh_form.specs.declared.slot.Slot.{Slot}
use Rattle.mh_form.specs.Run.{Sense, run_names, senses_in, step}

-- The slots of the runs that wait, and those of the run under way. Then the arguments of the leaf that is called, the leaf calls so far, and the exception that
-- was thrown last.
pub record StackView : Type 0 where
  pub below : List Slot
  pub frame : List Slot
  pub args : List Value
  pub calls : List LeafCall
  pub thrown : Exc

-- one slot more of the run under way
abbrev pub with_slot : StackView → Slot → StackView
with_slot m s = record m { frame = m.frame ++ s ∷ [] }

-- these slots more
abbrev pub with_slots : StackView → List Slot → StackView
with_slots m xs = record m { frame = m.frame ++ xs }

-- the first slots of the run under way wait, and the others begin a run
abbrev pub begun : ℕ → StackView → StackView
begun count m = record m { below = m.below ++ take count m.frame; frame = drop count m.frame }

-- the slots of the run under way are dropped, and the run goes on with the last of those below, this many
abbrev pub left : ℕ → StackView → StackView
left count m = record m { below = take (length m.below - count) m.below; frame = drop (length m.below - count) m.below }

-- what was done, as a computation of the slots of the run under way
abbrev pub done : Going → StackView → Ran (List Slot)
done going.On m = Gave m.frame m.calls
done going.Threw m = Threw m.thrown m.calls

-- a slot or an exception, without leaf calls
abbrev pub slot_or_exc : Result Slot Exc → Ran Slot
slot_or_exc (Ok s) = Gave s []
slot_or_exc (Err e) = Threw e []

-- a computation of one slot, done on a stack: its leaf calls come after those so far, and its slot after those of the run under way
abbrev pub on_stack : StackView → Ran Slot → Ran (List Slot)
on_stack m r = after m.calls (mapped (λ s. m.frame ++ s ∷ []) r)

-- what a name gives on the slots of the run under way, after n earlier leaf calls of the invocation
abbrev pub step_on : LeafTable → ℕ → Bound → Name → StackView → Ran Slot
step_on table n bound name m = step name (senses_in table bound) m.frame (raised n m.calls)

-- the slots after names in order, if none throws
abbrev pub run_slots : List Name → List Sense → List Slot → ℕ → Ran (List Slot)
run_slots names senses slots n = run_names names senses slots n (λ all k. Gave all [])

-- the slots of the run under way after the names of a body
abbrev pub slots_on : LeafTable → ℕ → Bound → StackView → Ran (List Slot)
slots_on table n bound m = run_slots bound.body.now.names (senses_in table bound) m.frame (raised n m.calls)
