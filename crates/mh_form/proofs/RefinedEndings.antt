-- A cleanup or a loop of runs that refine others refines those of the others.
use Rattle.std.proofs.Common.{refl, subst, ap, ℕ, zero, suc, ℤ, List, [], take, codes}
use Rattle.std.specs.Prelude.{nat_le}
use Rattle.mh_values.specs.declared.value.Exc.{Exc}
use Rattle.mh_values.specs.Class.{internal_error_class}
use Rattle.mh_values.specs.Computation.{Ran, Gave, Threw, Stuck, Refines, raised}
use Rattle.mh_values.specs.Exception.{saying}
use Rattle.mh_leaf.specs.Ending.{bounded, ended_by, most_turns, rethrown, turned, turns_to}
use Rattle.mh_form.specs.declared.basic.BasicRet.{BasicRet}
use Rattle.mh_form.specs.declared.name.LoopCounts.{LoopCounts}
use Rattle.mh_form.specs.declared.slot.Slot.{Slot}
use Rattle.mh_form.specs.declared.slot.Slot.TheVariants as slot
use Rattle.mh_form.specs.Run.{SlotRun, finally_run, loop_run}
use Rattle.mh_form.specs.Slots.{bounded_slot, filled, none_as_zero}
use Rattle.mh_form.proofs.Refines.{refines-refl, refines-after, refines-and_then, refines-if, refines-mapped}

refines-rethrown : {A : Type 0} → (e : Exc) (x y : Ran A) → Refines x y → Refines (rethrown e x) (rethrown e y)
refines-rethrown e (Gave a calls) y h = ap (rethrown e) h
refines-rethrown e (Threw d calls) y h = ap (rethrown e) h
refines-rethrown e Stuck y h = tt

pub refines-ended_by :
    {A B : Type 0} →
    (x y : Ran A) (n : ℕ) (f g : A → ℕ → Ran B) (h k : Exc → ℕ → Ran B) →
    Refines x y →
    ((a : A) (j : ℕ) → Refines (f a j) (g a j)) →
    ((e : Exc) (j : ℕ) → Refines (h e j) (k e j)) →
    Refines (ended_by x n f h) (ended_by y n g k)
refines-ended_by (Gave a calls) y n f g h k xy fg hk =
    subst (λ v. Refines (ended_by (Gave a calls) n f h) (ended_by v n g k)) xy
    (refines-after calls (f a (raised n calls)) (g a (raised n calls)) (fg a (raised n calls)))
refines-ended_by (Threw e calls) y n f g h k xy fg hk =
    subst (λ v. Refines (ended_by (Threw e calls) n f h) (ended_by v n g k)) xy
    (refines-after calls (rethrown e (h e (raised n calls))) (rethrown e (k e (raised n calls)))
    (refines-rethrown e (h e (raised n calls)) (k e (raised n calls)) (hk e (raised n calls))))
refines-ended_by Stuck y n f g h k xy fg hk = tt

pub refines-turned :
    {A : Type 0} →
    (left number : ℕ) (f g : ℕ → A → ℕ → Ran A) (a : A) (n : ℕ) →
    ((j : ℕ) (b : A) (k : ℕ) → Refines (f j b k) (g j b k)) →
    Refines (turned f number left a n) (turned g number left a n)
refines-turned zero number f g a n fg = refl
refines-turned (suc left) number f g a n fg =
    refines-and_then (f number a n) (g number a n) n (λ b k. turned f (suc number) left b k) (λ b k. turned g (suc number) left b k) (fg number a n)
    (λ b k. refines-turned left (suc number) f g b k fg)

pub refines-bounded : {B : Type 0} → (z : ℤ) (f g : ℕ → Ran B) → ((turns : ℕ) → Refines (f turns) (g turns)) → Refines (bounded z f) (bounded z g)
refines-bounded {B} z f g fg =
    let many : Ran B = Threw (saying internal_error_class (codes "loop")) [] in
    refines-if (nat_le (turns_to z) most_turns) (f (turns_to z)) (g (turns_to z)) many many (fg (turns_to z)) (refines-refl many)

pub refines-bounded_slot :
    {B : Type 0} → (s : Slot) (f g : ℕ → Ran B) → ((turns : ℕ) → Refines (f turns) (g turns)) → Refines (bounded_slot s f) (bounded_slot s g)
refines-bounded_slot (slot.I z) f g fg = refines-bounded z f g fg
refines-bounded_slot (slot.J z) f g fg = tt
refines-bounded_slot (slot.L v) f g fg = tt

-- one run on slots does what another does, where that one is not stuck
abbrev pub RunRefines : SlotRun → SlotRun → Type 0
RunRefines f g = (xs : List Slot) (n : ℕ) → Refines (f xs n) (g xs n)

filled-too : (f g : SlotRun) (xs : List Slot) (n : ℕ) → RunRefines f g → Refines (filled (f xs n)) (filled (g xs n))
filled-too f g xs n fg = refines-mapped none_as_zero (f xs n) (g xs n) (fg xs n)

pub refines-finally_run :
    (f g h k : SlotRun) (kept : ℕ) (ret : BasicRet) (xs : List Slot) (n : ℕ) →
    RunRefines f g →
    RunRefines h k →
    Refines (finally_run f h kept ret xs n) (finally_run g k kept ret xs n)
refines-finally_run f g h k kept ret xs n fg hk =
    refines-ended_by (filled (f xs n)) (filled (g xs n)) n _ _ _ _ (filled-too f g xs n fg)
    (λ s j. filled-too h k _ j hk) (λ e j. filled-too h k _ j hk)

pub refines-loop_run :
    (i i' s s' b b' : SlotRun) (counts : LoopCounts) (ret : BasicRet) (xs : List Slot) (n : ℕ) →
    RunRefines i i' →
    RunRefines s s' →
    RunRefines b b' →
    Refines (loop_run i s b counts ret xs n) (loop_run i' s' b' counts ret xs n)
refines-loop_run i i' s s' b b' counts ret xs n ii ss bb =
    refines-and_then (filled (i (take counts.iterations xs) n)) (filled (i' (take counts.iterations xs) n)) n _ _
    (filled-too i i' (take counts.iterations xs) n ii) (λ end k. refines-bounded_slot end _ _ (λ turns.
    refines-and_then (filled (s (take counts.init xs) k)) (filled (s' (take counts.init xs) k)) k _ _
    (filled-too s s' (take counts.init xs) k ss) (λ v m. refines-turned turns 0 _ _ v m (λ j w l. filled-too b b' _ l bb))))
