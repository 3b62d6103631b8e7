-- Cleanups and loops above the slots of the run that waits for them: what their parts need, and what follows each.
use Rattle.std.proofs.Common.{◌≡◌, refl, sym, subst, ap, ap₂, ◌∙◌, ℕ, ◌-◌, ◌≤◌, Bool, true, false, List, [], ◌∷◌, ◌++◌, take, drop, length, length-append, nat_le, codes, arith}
use Rattle.std.specs.Prelude.{if◌then◌else◌}
use Rattle.mh_values.specs.Class.{internal_error_class}
use Rattle.mh_values.specs.Exception.{saying}
use Rattle.mh_values.specs.declared.calls.LeafCall.{LeafCall}
use Rattle.mh_values.specs.declared.value.Exc.{Exc}
use Rattle.mh_values.specs.declared.value.Value.TheVariants as value
use Rattle.mh_values.specs.Computation.{Ran, Gave, Threw, Stuck, after, and_then, mapped, raised}
use Rattle.mh_leaf.specs.Ending.{ended_by, most_turns, rethrown, turned, turns_to}
use Rattle.mh_leaf.specs.LeafTable.{LeafTable}
use Rattle.mh_form.specs.declared.ending.Ending.{Ending}
use Rattle.mh_form.specs.declared.ending.Looping.{Looping}
use Rattle.mh_form.specs.declared.field.Bound.{Bound}
use Rattle.mh_form.specs.declared.slot.Slot.{Slot}
use Rattle.mh_form.specs.declared.slot.Slot.TheVariants as slot
use Rattle.mh_form.specs.Endings.{bounded_on, cleaned_up, field_on, finally_on, loop_on, rethrown_on, started_on, turns_on}
use Rattle.mh_form.specs.Run.{run_field, senses_in, turn_of}
use Rattle.mh_form.specs.Slots.{bounded_slot, default_slots, filled, given}
use Rattle.mh_form.specs.Stack.{StackView, left, on_stack}
use Rattle.mh_form.proofs.Endings.{ended-gave, ended-threw, slot-threw, slots-after, then-gave, then-threw}
use Rattle.mh_form.proofs.Frames.{left-below, left-frame}
use Rattle.mh_form.proofs.Guarding.{after-stuck}

-- ---- the run that waits

-- a run that was begun above the slots of the one that waits
pub record Entered (own : ℕ) (old begun : StackView) : Type 0 where
  pub below : begun.below ≡ old.below ++ old.frame
  pub calls : begun.calls ≡ old.calls
  pub count : own ≡ length old.frame

-- the slots of the run that waits are below
pub enough-below : (own : ℕ) (old begun : StackView) → Entered own old begun → own ≤ length begun.below
enough-below own old begun e =
    subst (λ b. own ≤ length b) (sym e.below) (let all = length-append old.below old.frame in let same = e.count in omega (arith, all, same))

-- it goes on with its slots
pub frame-again : (own : ℕ) (old begun ran : StackView) → Entered own old begun → ran.frame ≡ (left own begun).frame → ran.frame ≡ old.frame
frame-again own old begun ran e is = is ∙ left-frame old.below old.frame begun.below own e.below e.count

pub below-again : (own : ℕ) (old begun ran : StackView) → Entered own old begun → ran.below ≡ (left own begun).below → ran.below ≡ old.below
below-again own old begun ran e is = is ∙ left-below old.below old.frame begun.below own e.below e.count

-- the slots of the run that waits for that one are below it still
pub under-again : (count : ℕ) (old ran : StackView) → ran.below ≡ old.below → count ≤ length old.below → count ≤ length ran.below
under-again count old ran same low = subst (λ b. count ≤ length b) (sym same) low

-- what follows puts its slot after those of that run
pub follows :
    (count : ℕ) (old ran : StackView) (x y : Ran Slot) →
    ran.below ≡ old.below →
    after old.calls x ≡ after ran.calls y →
    on_stack (left count ran) y ≡ on_stack (left count old) x
follows count old ran x y below same =
    ap (λ b. after ran.calls (mapped (λ s. drop (length b - count) b ++ s ∷ []) y)) below
    ∙ sym (slots-after (left count old).frame old.calls ran.calls x y same)

-- an exception goes on to it
pub goes-on :
    (count : ℕ) (old : StackView) (calls : List LeafCall) (e : Exc) (x : Ran Slot) →
    after old.calls x ≡ Threw e calls →
    Threw e calls ≡ on_stack (left count old) x
goes-on count old calls e x threw = slot-threw (left count old).frame old.calls calls x e threw

-- where what follows is stuck, all is
pub follows-stuck : {A : Type 0} (old ran : StackView) (x y : Ran A) → after old.calls x ≡ after ran.calls y → y ≡ Stuck → x ≡ Stuck
follows-stuck old ran x y same stuck = after-stuck old.calls x (same ∙ ap (after ran.calls) stuck)

-- ---- cleanups

module _ (table : LeafTable) (n : ℕ) (bound : Bound) (f : Ending) where
  -- the cleanup of a part that gave a slot, on the slots of the run that waits
  abbrev after_slot : List Slot → Slot → ℕ → Ran Slot
  after_slot F s k = filled (run_field (senses_in table bound) f.cleanup (slot.L value.Null ∷ (given f.ret s ++ take f.kept F)) k)

  -- the cleanup of one that threw
  abbrev after_exception : List Slot → Exc → ℕ → Ran Slot
  after_exception F e k =
      filled (run_field (senses_in table bound) f.cleanup (slot.L (value.Thrown e) ∷ (default_slots f.ret ++ take f.kept F)) k)

  -- where the part is stuck, all is
  pub finally-stuck :
      (own : ℕ) (old begun : StackView) → begun.frame ≡ old.frame → Entered own old begun →
      run_field (senses_in table bound) f.part begun.frame (raised n begun.calls) ≡ Stuck →
      finally_on table n bound f old ≡ Stuck
  finally-stuck own old begun frame e stuck =
      ap₂ (λ (F : List Slot) (C : List LeafCall). ended_by (filled (run_field (senses_in table bound) f.part F (raised n C))) (raised n old.calls)
      (after_slot old.frame) (after_exception old.frame)) (sym frame) (sym e.calls)
      ∙ ap (λ r. ended_by (filled r) (raised n old.calls) (after_slot old.frame) (after_exception old.frame)) stuck

  -- the part as it runs on copies of the slots
  part-run :
      (own : ℕ) (old begun : StackView) → begun.frame ≡ old.frame → Entered own old begun →
      after begun.calls (field_on table n bound f.part begun) ≡ after old.calls (field_on table n bound f.part old)
  part-run own old begun frame e =
      ap₂ (λ (F : List Slot) (C : List LeafCall). after C (filled (run_field (senses_in table bound) f.part F (raised n C)))) frame e.calls

  -- the cleanup follows a part that gave a slot
  pub finally-gave :
      (own : ℕ) (old begun ran : StackView) (s : Slot) → begun.frame ≡ old.frame → Entered own old begun → ran.frame ≡ old.frame →
      Gave s ran.calls ≡ after begun.calls (field_on table n bound f.part begun) →
      after old.calls (finally_on table n bound f old) ≡ after ran.calls (cleaned_up table n bound f s ran)
  finally-gave own old begun ran s frame e waits gave =
      ended-gave (field_on table n bound f.part old) s old.calls ran.calls n (after_slot old.frame) (after_exception old.frame)
      (gave ∙ part-run own old begun frame e)
      ∙ ap (λ F. after ran.calls (after_slot F s (raised n ran.calls))) (sym waits)

  -- and one that threw
  pub finally-threw :
      (own : ℕ) (old begun ran : StackView) → begun.frame ≡ old.frame → Entered own old begun → ran.frame ≡ old.frame →
      Threw ran.thrown ran.calls ≡ after begun.calls (field_on table n bound f.part begun) →
      after old.calls (finally_on table n bound f old) ≡ after ran.calls (rethrown_on table n bound f ran)
  finally-threw own old begun ran frame e waits threw =
      ended-threw (field_on table n bound f.part old) ran.thrown old.calls ran.calls n (after_slot old.frame) (after_exception old.frame)
      (threw ∙ part-run own old begun frame e)
      ∙ ap (λ F. after ran.calls (rethrown ran.thrown (after_exception F ran.thrown (raised n ran.calls)))) (sym waits)

  -- what the cleanup runs on, after a slot
  pub cleaned-run :
      (old ends : StackView) (s : Slot) (more : List Slot) →
      ends.frame ≡ slot.L value.Null ∷ (more ++ take f.kept old.frame) →
      more ≡ given f.ret s →
      ends.calls ≡ old.calls →
      cleaned_up table n bound f s old ≡ filled (run_field (senses_in table bound) f.cleanup ends.frame (raised n ends.calls))
  cleaned-run old ends s more frame is calls =
      ap₂ (λ (F : List Slot) (C : List LeafCall). filled (run_field (senses_in table bound) f.cleanup F (raised n C)))
      (sym (frame ∙ ap (λ (g : List Slot). slot.L value.Null ∷ (g ++ take f.kept old.frame)) is)) (sym calls)

  -- and after an exception
  pub rethrown-run :
      (old ends : StackView) (e : Exc) (more : List Slot) →
      ends.frame ≡ slot.L (value.Thrown e) ∷ (more ++ take f.kept old.frame) →
      more ≡ default_slots f.ret →
      ends.calls ≡ old.calls →
      e ≡ old.thrown →
      rethrown_on table n bound f old
      ≡ rethrown e (filled (run_field (senses_in table bound) f.cleanup ends.frame (raised n ends.calls)))
  rethrown-run old ends e more frame is calls thrown =
      let all : ends.frame ≡ slot.L (value.Thrown old.thrown) ∷ (default_slots f.ret ++ take f.kept old.frame) =
      frame ∙ ap₂ (λ (d : Exc) (g : List Slot). slot.L (value.Thrown d) ∷ (g ++ take f.kept old.frame)) thrown is in
      ap₂ (λ (F : List Slot) (C : List LeafCall). rethrown old.thrown (filled (run_field (senses_in table bound) f.cleanup F (raised n C)))) (sym all)
      (sym calls)
      ∙ ap (λ d. rethrown d (filled (run_field (senses_in table bound) f.cleanup ends.frame (raised n ends.calls)))) (sym thrown)

-- ---- loops

module _ (table : LeafTable) (n : ℕ) (bound : Bound) (l : Looping) where
  -- the turns on the slots of the run that waits
  abbrev turns_of : List Slot → ℕ → Slot → ℕ → Ran Slot
  turns_of F turns v k = turned (turn_of (run_field (senses_in table bound) l.body) l.counts.body l.ret F) 0 turns v k

  -- the start, and then the turns
  abbrev start_of : List Slot → ℕ → ℕ → Ran Slot
  start_of F turns k =
      and_then (filled (run_field (senses_in table bound) l.init (take l.counts.init F) k)) k (λ v j. turns_of F turns v j)

  -- where the iterations are stuck, all is
  pub loop-stuck :
      (own : ℕ) (old begun : StackView) → begun.frame ≡ take l.counts.iterations old.frame → Entered own old begun →
      run_field (senses_in table bound) l.iterations begun.frame (raised n begun.calls) ≡ Stuck →
      loop_on table n bound l old ≡ Stuck
  loop-stuck own old begun frame e stuck =
      ap₂ (λ (F : List Slot) (C : List LeafCall). and_then (filled (run_field (senses_in table bound) l.iterations F (raised n C))) (raised n old.calls)
      (λ s k. bounded_slot s (λ turns. start_of old.frame turns k))) (sym frame) (sym e.calls)
      ∙ ap (λ r. and_then (filled r) (raised n old.calls) (λ s k. bounded_slot s (λ turns. start_of old.frame turns k))) stuck

  -- the iterations as they run on copies of the first slots
  counts-run :
      (own : ℕ) (old begun : StackView) → begun.frame ≡ take l.counts.iterations old.frame → Entered own old begun →
      after begun.calls (field_on table n bound l.iterations begun)
      ≡ after old.calls (filled (run_field (senses_in table bound) l.iterations (take l.counts.iterations old.frame) (raised n old.calls)))
  counts-run own old begun frame e =
      ap₂ (λ (F : List Slot) (C : List LeafCall). after C (filled (run_field (senses_in table bound) l.iterations F (raised n C)))) frame e.calls

  -- the start follows iterations that gave a slot
  pub loop-gave :
      (own : ℕ) (old begun ran : StackView) (s : Slot) → begun.frame ≡ take l.counts.iterations old.frame → Entered own old begun →
      ran.frame ≡ old.frame →
      Gave s ran.calls ≡ after begun.calls (field_on table n bound l.iterations begun) →
      after old.calls (loop_on table n bound l old) ≡ after ran.calls (bounded_on table n bound l s ran)
  loop-gave own old begun ran s frame e waits gave =
      then-gave (filled (run_field (senses_in table bound) l.iterations (take l.counts.iterations old.frame) (raised n old.calls))) s old.calls ran.calls n
      (λ v k. bounded_slot v (λ turns. start_of old.frame turns k)) (gave ∙ counts-run own old begun frame e)
      ∙ ap (λ F. after ran.calls (bounded_slot s (λ turns. start_of F turns (raised n ran.calls)))) (sym waits)

  -- iterations that threw
  pub loop-threw :
      (own : ℕ) (old begun ran : StackView) → begun.frame ≡ take l.counts.iterations old.frame → Entered own old begun →
      Threw ran.thrown ran.calls ≡ after begun.calls (field_on table n bound l.iterations begun) →
      after old.calls (loop_on table n bound l old) ≡ Threw ran.thrown ran.calls
  loop-threw own old begun ran frame e threw =
      then-threw (filled (run_field (senses_in table bound) l.iterations (take l.counts.iterations old.frame) (raised n old.calls))) ran.thrown old.calls
      ran.calls (raised n old.calls) (λ v k. bounded_slot v (λ turns. start_of old.frame turns k)) (threw ∙ counts-run own old begun frame e)

  -- where the start is stuck, all is
  pub start-stuck :
      (own turns : ℕ) (old begun : StackView) → begun.frame ≡ take l.counts.init old.frame → Entered own old begun →
      run_field (senses_in table bound) l.init begun.frame (raised n begun.calls) ≡ Stuck →
      started_on table n bound l turns old ≡ Stuck
  start-stuck own turns old begun frame e stuck =
      ap₂ (λ (F : List Slot) (C : List LeafCall). and_then (filled (run_field (senses_in table bound) l.init F (raised n C))) (raised n old.calls)
      (λ v k. turns_of old.frame turns v k)) (sym frame) (sym e.calls)
      ∙ ap (λ r. and_then (filled r) (raised n old.calls) (λ v k. turns_of old.frame turns v k)) stuck

  -- the start as it runs on copies of the first slots
  start-run :
      (own : ℕ) (old begun : StackView) → begun.frame ≡ take l.counts.init old.frame → Entered own old begun →
      after begun.calls (field_on table n bound l.init begun)
      ≡ after old.calls (filled (run_field (senses_in table bound) l.init (take l.counts.init old.frame) (raised n old.calls)))
  start-run own old begun frame e =
      ap₂ (λ (F : List Slot) (C : List LeafCall). after C (filled (run_field (senses_in table bound) l.init F (raised n C)))) frame e.calls

  -- the turns follow a start that gave a slot
  pub start-gave :
      (own turns : ℕ) (old begun ran : StackView) (s : Slot) → begun.frame ≡ take l.counts.init old.frame → Entered own old begun →
      ran.frame ≡ old.frame →
      Gave s ran.calls ≡ after begun.calls (field_on table n bound l.init begun) →
      after old.calls (started_on table n bound l turns old) ≡ after ran.calls (turns_on table n bound l 0 turns s ran)
  start-gave own turns old begun ran s frame e waits gave =
      then-gave (filled (run_field (senses_in table bound) l.init (take l.counts.init old.frame) (raised n old.calls))) s old.calls ran.calls n
      (λ v k. turns_of old.frame turns v k) (gave ∙ start-run own old begun frame e)
      ∙ ap (λ F. after ran.calls (turns_of F turns s (raised n ran.calls))) (sym waits)

  -- a start that threw
  pub start-threw :
      (own turns : ℕ) (old begun ran : StackView) → begun.frame ≡ take l.counts.init old.frame → Entered own old begun →
      Threw ran.thrown ran.calls ≡ after begun.calls (field_on table n bound l.init begun) →
      after old.calls (started_on table n bound l turns old) ≡ Threw ran.thrown ran.calls
  start-threw own turns old begun ran frame e threw =
      then-threw (filled (run_field (senses_in table bound) l.init (take l.counts.init old.frame) (raised n old.calls))) ran.thrown old.calls ran.calls
      (raised n old.calls) (λ v k. turns_of old.frame turns v k) (threw ∙ start-run own old begun frame e)

-- ---- the number of turns

-- where the slot holds no int, there is no loop
pub bounded-stuck : {B : Type 0} (s : Slot) (next : ℕ → Ran B) → bounded_slot s (λ t. Gave t []) ≡ Stuck → bounded_slot s next ≡ Stuck
bounded-stuck (slot.I z) next h = cases (nat_le (turns_to z) most_turns) h
  where
    cases : (b : Bool) → (if b then Gave (turns_to z) [] else Threw (saying internal_error_class (codes "loop")) []) ≡ Stuck →
        (if b then next (turns_to z) else Threw (saying internal_error_class (codes "loop")) []) ≡ Stuck
    cases true h = absurd cc
    cases false h = absurd cc
bounded-stuck (slot.J z) next h = refl
bounded-stuck (slot.L v) next h = refl

-- so many turns are told
pub bounded-gave : {B : Type 0} (s : Slot) (turns : ℕ) (next : ℕ → Ran B) → Gave turns [] ≡ bounded_slot s (λ t. Gave t []) →
    bounded_slot s next ≡ next turns
bounded-gave (slot.I z) turns next h = cases (nat_le (turns_to z) most_turns) h
  where
    cases : (b : Bool) → Gave turns [] ≡ (if b then Gave (turns_to z) [] else Threw (saying internal_error_class (codes "loop")) []) →
        (if b then next (turns_to z) else Threw (saying internal_error_class (codes "loop")) []) ≡ next turns
    cases true h = let same : turns ≡ turns_to z = cc in ap next (sym same)
    cases false h = absurd cc
bounded-gave (slot.J z) turns next h = absurd cc
bounded-gave (slot.L v) turns next h = absurd cc

-- too many are told
pub bounded-threw : {B : Type 0} (s : Slot) (e : Exc) (next : ℕ → Ran B) → Threw e [] ≡ bounded_slot s (λ t. Gave t []) → bounded_slot s next ≡ Threw e []
bounded-threw (slot.I z) e next h = cases (nat_le (turns_to z) most_turns) h
  where
    cases : (b : Bool) → Threw e [] ≡ (if b then Gave (turns_to z) [] else Threw (saying internal_error_class (codes "loop")) []) →
        (if b then next (turns_to z) else Threw (saying internal_error_class (codes "loop")) []) ≡ Threw e []
    cases true h = absurd cc
    cases false h = let same : e ≡ saying internal_error_class (codes "loop") = cc in ap (λ d. Threw d []) (sym same)
bounded-threw (slot.J z) e next h = absurd cc
bounded-threw (slot.L v) e next h = absurd cc
