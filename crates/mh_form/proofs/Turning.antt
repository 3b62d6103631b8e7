-- The turns of a loop above the slots of the run that waits for them.
use Rattle.std.proofs.Common.{◌≡◌, refl, sym, subst, ap, ap₂, ◌∙◌, ℕ, suc, ◌+◌, ◌-◌, ◌<◌, ◌≤◌, List, ◌∷◌, ◌++◌, take, length, length-append, pos, arith}
use Rattle.mh_values.specs.Computation.{Ran, Gave, Threw, Stuck, after, and_then, raised}
use Rattle.mh_leaf.specs.Ending.{turned}
use Rattle.mh_leaf.specs.LeafTable.{LeafTable}
use Rattle.mh_form.specs.declared.field.Bound.{Bound}
use Rattle.mh_form.specs.declared.ending.Looping.{Looping}
use Rattle.mh_form.specs.declared.slot.Slot.{Slot}
use Rattle.mh_form.specs.declared.slot.Slot.TheVariants as slot
use Rattle.mh_form.specs.Endings.{field_on, turns_on}
use Rattle.mh_form.specs.Run.{run_field, senses_in, turn_of}
use Rattle.mh_form.specs.Slots.{filled, given}
use Rattle.mh_form.specs.Stack.{StackView, left}
use Rattle.mh_form.proofs.Endings.{turn-gave, turn-threw}
use Rattle.mh_form.proofs.Frames.{left-frame}

-- a turn that is begun: what its body runs on, above the slots of the run that waits
pub record BeginsTurn (l : Looping) (number : ℕ) (v : Slot) (own : ℕ) (m begun : StackView) : Type 0 where
  pub frame : begun.frame ≡ given l.ret v ++ (slot.I (pos number) ∷ take l.counts.body m.frame)
  pub below : begun.below ≡ m.below ++ m.frame
  pub calls : begun.calls ≡ m.calls
  pub count : own ≡ length m.frame

pub turn-begins :
    (l : Looping) (number : ℕ) (v : Slot) (own : ℕ) (m begun : StackView) (before : List Slot) →
    begun.frame ≡ before ++ (slot.I (pos number) ∷ take l.counts.body m.frame) →
    before ≡ given l.ret v →
    begun.below ≡ m.below ++ m.frame →
    begun.calls ≡ m.calls →
    own ≡ length m.frame →
    BeginsTurn l number v own m begun
turn-begins l number v own m begun before frame is below calls count =
    record { frame = frame ∙ ap (λ G. G ++ (slot.I (pos number) ∷ take l.counts.body m.frame)) is; below = below; calls = calls; count = count }

module _ (table : LeafTable) (n : ℕ) (bound : Bound) (l : Looping) (number turns : ℕ) (v : Slot) (own : ℕ) (m begun : StackView)
    (more : number < turns) (begins : BeginsTurn l number v own m begun) where
  -- the run that waits has as many slots as are below
  pub turn-waits : own ≤ length begun.below
  turn-waits =
      subst (λ b. own ≤ length b) (sym begins.below)
      (let all = length-append m.below m.frame in let same = begins.count in omega (arith, all, same))

  abbrev body : ℕ → Slot → ℕ → Ran Slot
  body = turn_of (run_field (senses_in table bound) l.body) l.counts.body l.ret m.frame

  -- the run of the body is that of the turn
  turn-run : after begun.calls (field_on table n bound l.body begun) ≡ after m.calls (body number v (raised n m.calls))
  turn-run =
      ap₂ (λ F C. after C (filled (run_field (senses_in table bound) l.body F (raised n C)))) begins.frame begins.calls

  left-over : turns - number ≡ suc (turns - (number + 1))
  left-over = omega arith

  next : suc number ≡ number + 1
  next = omega arith

  -- a turn that gave a slot, and the turns that are left
  pub turn-next :
      (ran : StackView) (s : Slot) →
      Gave s ran.calls ≡ after begun.calls (field_on table n bound l.body begun) →
      ran.frame ≡ (left own begun).frame →
      after m.calls (turns_on table n bound l number (turns - number) v m)
      ≡ after ran.calls (turns_on table n bound l (number + 1) (turns - (number + 1)) s ran)
  turn-next ran s gave waits =
      let same : ran.frame ≡ m.frame = waits ∙ left-frame m.below m.frame begun.below own begins.below begins.count in
      ap (λ k. after m.calls (turned body number k v (raised n m.calls))) left-over
      ∙ (turn-gave body number (turns - (number + 1)) v s m.calls ran.calls n (gave ∙ turn-run)
      ∙ ap₂ (λ k F. after ran.calls (turned (turn_of (run_field (senses_in table bound) l.body) l.counts.body l.ret F) k (turns - (number + 1)) s
      (raised n ran.calls))) next (sym same))

  -- a turn that threw
  pub turn-ends :
      (ran : StackView) →
      Threw ran.thrown ran.calls ≡ after begun.calls (field_on table n bound l.body begun) →
      after m.calls (turns_on table n bound l number (turns - number) v m) ≡ Threw ran.thrown ran.calls
  turn-ends ran threw =
      ap (λ k. after m.calls (turned body number k v (raised n m.calls))) left-over
      ∙ turn-threw body number (turns - (number + 1)) v m.calls ran.calls n ran.thrown (threw ∙ turn-run)

  -- where the body is stuck, all turns that are left are
  pub turn-stuck :
      run_field (senses_in table bound) l.body begun.frame (raised n begun.calls) ≡ Stuck →
      after m.calls (turns_on table n bound l number (turns - number) v m) ≡ Stuck
  turn-stuck stuck =
      let none : after m.calls (body number v (raised n m.calls)) ≡ Stuck = sym turn-run ∙ ap (λ r. after begun.calls (filled r)) stuck in
      ap (λ k. after m.calls (turned body number k v (raised n m.calls))) left-over ∙ stuck-turn (body number v (raised n m.calls)) none
    where
      stuck-turn : (x : Ran Slot) → after m.calls x ≡ Stuck → after m.calls (and_then x (raised n m.calls) (λ b k. turned body (suc number) (turns -
          (number + 1)) b k)) ≡ Stuck
      stuck-turn (Gave a calls) h = absurd cc
      stuck-turn (Threw e calls) h = absurd cc
      stuck-turn Stuck h = refl
