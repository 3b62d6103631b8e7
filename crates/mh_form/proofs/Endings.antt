-- Parts whose slot is taken, and what runs after them: cleanups and turns of loops.
use Rattle.std.proofs.Common.{◌≡◌, ◌≢◌, sym, ap, ap₂, ◌∙◌, ℕ, zero, suc, ◌+◌, List, [], ◌∷◌, ◌++◌, append-nil, length, length-append, arith}
use Rattle.std.proofs.lemmas.List.{same_from_push}
use Rattle.mh_values.specs.declared.calls.LeafCall.{LeafCall}
use Rattle.mh_values.specs.declared.value.Exc.{Exc}
use Rattle.mh_values.specs.Computation.{Ran, Gave, Threw, Stuck, after, and_then, mapped, raised}
use Rattle.mh_leaf.specs.Ending.{ended_by, rethrown, turned}
use Rattle.mh_form.specs.declared.slot.Slot.{Slot}
use Rattle.mh_form.proofs.Computations.{after-append, mapped-after, raised-append}

-- a run whose slot stood last, and was taken
pub taken-gave : (x : Ran Slot) (F G H : List Slot) (C C' : List LeafCall) (s : Slot) → Gave G C' ≡ after C (mapped (λ t. F ++ t ∷ []) x) → G ≡ H ++ s ∷ [] →
    (H ≡ F) × (Gave s C' ≡ after C x)
taken-gave (Gave t more) F G H C C' s h is =
    let g : G ≡ F ++ t ∷ [] = cc in
    let c : C' ≡ C ++ more = cc in
    let q = same_from_push H F s t (sym is ∙ g) in
    (q.0, ap₂ (λ (a : Slot) (b : List LeafCall). Gave a b) q.1 c)
taken-gave (Threw e more) F G H C C' s h is = absurd cc
taken-gave Stuck F G H C C' s h is = absurd cc

-- it has slots, so one can be taken
pub pushed-some : (x : Ran Slot) (F G : List Slot) (C C' : List LeafCall) → Gave G C' ≡ after C (mapped (λ t. F ++ t ∷ []) x) → G ≢ []
pushed-some (Gave t more) F G C C' h none =
    let g : G ≡ F ++ t ∷ [] = cc in
    let long : 0 ≡ length F + 1 = sym (ap length none) ∙ (ap length g ∙ length-append F (t ∷ [])) in
    absurd (omega arith)
pushed-some (Threw e more) F G C C' h none = absurd cc
pushed-some Stuck F G C C' h none = absurd cc

-- a run that threw
pub taken-threw : (x : Ran Slot) (F : List Slot) (C C' : List LeafCall) (e : Exc) → Threw e C' ≡ after C (mapped (λ t. F ++ t ∷ []) x) → Threw e C' ≡ after C x
taken-threw (Gave t more) F C C' e h = absurd cc
taken-threw (Threw d more) F C C' e h = let f : e ≡ d = cc in let c : C' ≡ C ++ more = cc in ap₂ (λ (a : Exc) (b : List LeafCall). Threw a b) f c
taken-threw Stuck F C C' e h = absurd cc

-- where equal runs come after leaf calls, so do their slots, after those of the run that waits
pub slots-after : (F : List Slot) (C C' : List LeafCall) (x y : Ran Slot) → after C x ≡ after C' y →
    after C (mapped (λ s. F ++ s ∷ []) x) ≡ after C' (mapped (λ s. F ++ s ∷ []) y)
slots-after F C C' x y h =
    sym (mapped-after (λ s. F ++ s ∷ []) C x) ∙ (ap (mapped (λ s. F ++ s ∷ [])) h ∙ mapped-after (λ s. F ++ s ∷ []) C' y)

-- what follows a part that gave a slot
pub then-gave : {B : Type 0} → (x : Ran Slot) (s : Slot) (C C' : List LeafCall) (n : ℕ) (next : Slot → ℕ → Ran B) → Gave s C' ≡ after C x →
    after C (and_then x (raised n C) next) ≡ after C' (next s (raised n C'))
then-gave (Gave t more) s C C' n next h =
    let same : s ≡ t = cc in
    let c : C' ≡ C ++ more = cc in
    rw (same, c) (sym (after-append C more _) ∙ ap (λ k. after (C ++ more) (next t k)) (sym (raised-append n C more)))
then-gave (Threw e more) s C C' n next h = absurd cc
then-gave Stuck s C C' n next h = absurd cc

-- nothing follows a part that threw
pub then-threw : {B : Type 0} → (x : Ran Slot) (e : Exc) (C C' : List LeafCall) (k : ℕ) (next : Slot → ℕ → Ran B) → Threw e C' ≡ after C x →
    after C (and_then x k next) ≡ Threw e C'
then-threw (Gave t more) e C C' k next h = absurd cc
then-threw (Threw d more) e C C' k next h =
    let f : e ≡ d = cc in let c : C' ≡ C ++ more = cc in sym (ap₂ (λ (a : Exc) (b : List LeafCall). Threw a b) f c)
then-threw Stuck e C C' k next h = absurd cc

-- the cleanup of a part that gave a slot
pub ended-gave : (x : Ran Slot) (s : Slot) (C C' : List LeafCall) (n : ℕ) (f : Slot → ℕ → Ran Slot) (g : Exc → ℕ → Ran Slot) → Gave s C' ≡ after C x →
    after C (ended_by x (raised n C) f g) ≡ after C' (f s (raised n C'))
ended-gave (Gave t more) s C C' n f g h =
    let same : s ≡ t = cc in
    let c : C' ≡ C ++ more = cc in
    rw (same, c) (sym (after-append C more _) ∙ ap (λ k. after (C ++ more) (f t k)) (sym (raised-append n C more)))
ended-gave (Threw e more) s C C' n f g h = absurd cc
ended-gave Stuck s C C' n f g h = absurd cc

-- the cleanup of a part that threw
pub ended-threw : (x : Ran Slot) (e : Exc) (C C' : List LeafCall) (n : ℕ) (f : Slot → ℕ → Ran Slot) (g : Exc → ℕ → Ran Slot) → Threw e C' ≡ after C x →
    after C (ended_by x (raised n C) f g) ≡ after C' (rethrown e (g e (raised n C')))
ended-threw (Gave t more) e C C' n f g h = absurd cc
ended-threw (Threw d more) e C C' n f g h =
    let same : e ≡ d = cc in
    let c : C' ≡ C ++ more = cc in
    rw (same, c) (sym (after-append C more _) ∙ ap (λ k. after (C ++ more) (rethrown d (g d k))) (sym (raised-append n C more)))
ended-threw Stuck e C C' n f g h = absurd cc

-- a cleanup that gave a slot after an exception: the exception goes on
pub rethrown-gave : (y : Ran Slot) (F G : List Slot) (C C' : List LeafCall) (e : Exc) → Gave G C' ≡ after C (mapped (λ s. F ++ s ∷ []) y) →
    Threw e C' ≡ after C (mapped (λ s. F ++ s ∷ []) (rethrown e y))
rethrown-gave (Gave t more) F G C C' e h = let c : C' ≡ C ++ more = cc in ap (Threw e) c
rethrown-gave (Threw d more) F G C C' e h = absurd cc
rethrown-gave Stuck F G C C' e h = absurd cc

-- a cleanup that threw: its own exception goes on
pub rethrown-threw : (y : Ran Slot) (F : List Slot) (C C' : List LeafCall) (d e : Exc) → Threw d C' ≡ after C (mapped (λ s. F ++ s ∷ []) y) →
    Threw d C' ≡ after C (mapped (λ s. F ++ s ∷ []) (rethrown e y))
rethrown-threw (Gave t more) F C C' d e h = absurd cc
rethrown-threw (Threw c more) F C C' d e h = h
rethrown-threw Stuck F C C' d e h = absurd cc

-- one turn of a loop that gave a slot, and the turns that are left
pub turn-gave : (body : ℕ → Slot → ℕ → Ran Slot) (number left : ℕ) (v s : Slot) (C C' : List LeafCall) (n : ℕ) →
    Gave s C' ≡ after C (body number v (raised n C)) →
    after C (turned body number (suc left) v (raised n C)) ≡ after C' (turned body (suc number) left s (raised n C'))
turn-gave body number left v s C C' n h =
    then-gave (body number v (raised n C)) s C C' n (λ b k. turned body (suc number) left b k) h

-- one that threw
pub turn-threw : (body : ℕ → Slot → ℕ → Ran Slot) (number left : ℕ) (v : Slot) (C C' : List LeafCall) (n : ℕ) (e : Exc) →
    Threw e C' ≡ after C (body number v (raised n C)) → after C (turned body number (suc left) v (raised n C)) ≡ Threw e C'
turn-threw body number left v C C' n e h =
    then-threw (body number v (raised n C)) e C C' (raised n C) (λ b k. turned body (suc number) left b k) h

-- no turn is left
pub turns-over : (body : ℕ → Slot → ℕ → Ran Slot) (number : ℕ) (v : Slot) (C : List LeafCall) (n : ℕ) →
    after C (turned body number zero v (raised n C)) ≡ Gave v C
turns-over body number v C n = ap (Gave v) (append-nil C)

-- the slot that was given last, after those of the run that waits
pub slot-given : (F : List Slot) (C C' : List LeafCall) (x : Ran Slot) (v : Slot) → after C x ≡ Gave v C' →
    Gave (F ++ v ∷ []) C' ≡ after C (mapped (λ s. F ++ s ∷ []) x)
slot-given F C C' x v h = sym (sym (mapped-after (λ s. F ++ s ∷ []) C x) ∙ ap (mapped (λ s. F ++ s ∷ [])) h)

-- an exception in its place
pub slot-threw : (F : List Slot) (C C' : List LeafCall) (x : Ran Slot) (e : Exc) → after C x ≡ Threw e C' →
    Threw e C' ≡ after C (mapped (λ s. F ++ s ∷ []) x)
slot-threw F C C' x e h = sym (sym (mapped-after (λ s. F ++ s ∷ []) C x) ∙ ap (mapped (λ s. F ++ s ∷ [])) h)
