-- One run does what another does, where that one is not stuck.
use Rattle.std.proofs.Common.{◌≡◌, ◌≢◌, refl, subst, ℕ, Bool, true, false, List, Option, Some, None, sym, ap, cond}
use Rattle.mh_values.specs.declared.value.Exc.{Exc}
use Rattle.mh_values.specs.declared.calls.LeafCall.{LeafCall}
use Rattle.mh_values.specs.Computation.{Ran, Gave, Threw, Stuck, Refines, and_then, after, found, guarded, mapped, raised}

pub refines-refl : {B : Type 0} → (x : Ran B) → Refines x x
refines-refl (Gave b calls) = refl
refines-refl (Threw e calls) = refl
refines-refl Stuck = tt

pub refines-trans : {B : Type 0} → (x y z : Ran B) → Refines x y → Refines y z → Refines x z
refines-trans (Gave b calls) y z h k = subst (λ v. Refines v z) (sym h) k
refines-trans (Threw e calls) y z h k = subst (λ v. Refines v z) (sym h) k
refines-trans Stuck y z h k = tt

pub refines-after : {B : Type 0} → (calls : List LeafCall) (x y : Ran B) → Refines x y → Refines (after calls x) (after calls y)
refines-after calls (Gave b more) y h = ap (after calls) h
refines-after calls (Threw e more) y h = ap (after calls) h
refines-after calls Stuck y h = tt

pub refines-and_then :
    {A B : Type 0} →
    (x y : Ran A) (n : ℕ) (f g : A → ℕ → Ran B) →
    Refines x y →
    ((a : A) (k : ℕ) → Refines (f a k) (g a k)) →
    Refines (and_then x n f) (and_then y n g)
refines-and_then (Gave a calls) y n f g h fg =
    subst (λ v. Refines (and_then (Gave a calls) n f) (and_then v n g)) h (refines-after calls (f a (raised n calls)) (g a (raised n calls))
    (fg a (raised n calls)))
refines-and_then (Threw e calls) y n f g h fg = ap (λ v. and_then v n g) h
refines-and_then Stuck y n f g h fg = tt

pub refines-found :
    {A B : Type 0} →
    (o p : Option A) (f g : A → Ran B) →
    ((a : A) → o ≡ Some a → p ≡ Some a) →
    ((a : A) → Refines (f a) (g a)) →
    Refines (found o f) (found p g)
refines-found None p f g h fg = tt
refines-found (Some a) p f g h fg = subst (λ v. Refines (f a) (found v g)) (sym (h a refl)) (fg a)

pub refines-mapped : {A B : Type 0} → (f : A → B) (x y : Ran A) → Refines x y → Refines (mapped f x) (mapped f y)
refines-mapped f (Gave a calls) y h = ap (mapped f) h
refines-mapped f (Threw e calls) y h = ap (mapped f) h
refines-mapped f Stuck y h = tt

-- what is equal does the same
pub refines-is : {B : Type 0} → (x y : Ran B) → x ≡ y → Refines x y
refines-is x y h = subst (Refines x) h (refines-refl x)

-- where the first is not stuck, they are one
pub refined : {B : Type 0} → (x y : Ran B) → x ≢ Stuck → Refines x y → y ≡ x
refined (Gave b calls) y runs h = sym h
refined (Threw e calls) y runs h = sym h
refined Stuck y runs h = absurd (runs refl)

-- where an exception is guarded: the class decides, and then the handler
pub refines-if : {B : Type 0} → (b : Bool) (x x' y y' : Ran B) → Refines x x' → Refines y y' → Refines (cond b x y) (cond b x' y')
refines-if true x x' y y' h k = h
refines-if false x x' y y' h k = k

pub refines-guarded :
    {A : Type 0} →
    (x y : Ran A) (test : Exc → Bool) (n : ℕ) (f g : Exc → ℕ → Ran A) →
    Refines x y →
    ((e : Exc) (k : ℕ) → Refines (f e k) (g e k)) →
    Refines (guarded x test n f) (guarded y test n g)
refines-guarded (Gave s calls) y test n f g h fg = ap (λ v. guarded v test n g) h
refines-guarded (Threw e calls) y test n f g h fg =
    subst (λ v. Refines (guarded (Threw e calls) test n f) (guarded v test n g)) h
    (refines-if (test e) _ _ _ _ (refines-after calls (f e (raised n calls)) (g e (raised n calls)) (fg e (raised n calls))) (refines-refl (Threw e calls)))
refines-guarded Stuck y test n f g h fg = tt
