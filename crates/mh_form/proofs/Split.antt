-- The run of a body is the run of its names, and then its end.
use Rattle.std.proofs.Common.{◌≡◌, sym, ap, ◌∙◌, ℕ, List, [], ◌∷◌, ◌++◌}
use Rattle.mh_values.specs.declared.calls.LeafCall.{LeafCall}
use Rattle.mh_values.specs.Computation.{Ran, Gave, Threw, Stuck, after, and_then, mapped, raised}
use Rattle.mh_form.specs.declared.name.Name.{Name}
use Rattle.mh_form.specs.declared.slot.Slot.{Slot}
use Rattle.mh_form.specs.Run.{Sense, run_names, step}
use Rattle.mh_form.specs.Stack.{run_slots}
use Rattle.mh_form.proofs.Computations.{after-append, and_then-pure, and_then-assoc, raised-append}

and_then-same :
    {A B : Type 0} →
    (x : Ran A) (n : ℕ) (f g : A → ℕ → Ran B) →
    ((a : A) (k : ℕ) → f a k ≡ g a k) →
    and_then x n f ≡ and_then x n g
and_then-same x n f g same = ap (λ (h : (a : _) → ℕ → Ran _). and_then x n h) (λ i a k. same a k i)

pub run-split :
    {B : Type 0} →
    (names : List Name) (senses : List Sense) (slots : List Slot) (n : ℕ) (end : List Slot → ℕ → Ran B) →
    run_names names senses slots n end ≡ and_then (run_slots names senses slots n) n end
run-split [] senses slots n end = sym (and_then-pure slots n end)
run-split (x ∷ xs) senses slots n end =
    and_then-same (step x senses slots n) n _ _ (λ s k. run-split xs senses (slots ++ s ∷ []) k end)
    ∙ sym (and_then-assoc (step x senses slots n) n (λ s k. run_slots xs senses (slots ++ s ∷ []) k) end)

-- a name that filled its slot, and then the names after it
pub name-next :
    {B : Type 0} →
    (x : Ran Slot) (F G : List Slot) (C C' : List LeafCall) (n : ℕ) (next : List Slot → ℕ → Ran B) →
    Gave G C' ≡ after C (mapped (λ s. F ++ s ∷ []) x) →
    after C (and_then x (raised n C) (λ s k. next (F ++ s ∷ []) k)) ≡ after C' (next G (raised n C'))
name-next (Gave s more) F G C C' n next h =
    let f : G ≡ F ++ s ∷ [] = cc in
    let c : C' ≡ C ++ more = cc in
    rw (f, c) (sym (after-append C more _) ∙ ap (λ k. after (C ++ more) (next (F ++ s ∷ []) k)) (sym (raised-append n C more)))
name-next (Threw e more) F G C C' n next h = absurd cc
name-next Stuck F G C C' n next h = absurd cc
