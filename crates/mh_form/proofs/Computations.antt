-- Laws of computations: leaf calls that stand first, and what follows one after the other.
use Rattle.std.proofs.Common.{◌≡◌, refl, ap, ◌∙◌, ℕ, List, [], ◌∷◌, ◌++◌, append_assoc}
use Rattle.mh_values.specs.declared.calls.LeafCall.{LeafCall}
use Rattle.mh_values.specs.Computation.{Ran, Gave, Threw, Stuck, and_then, after, mapped, next_count, raised}

pub raised-append : (n : ℕ) (a b : List LeafCall) → raised n (a ++ b) ≡ raised (raised n a) b
raised-append n [] b = refl
raised-append n (c ∷ a) b = raised-append (next_count n) a b

pub after-append : {B : Type 0} → (a b : List LeafCall) (x : Ran B) → after (a ++ b) x ≡ after a (after b x)
after-append a b (Gave v calls) = ap (Gave v) (append_assoc a b calls)
after-append a b (Threw e calls) = ap (Threw e) (append_assoc a b calls)
after-append a b Stuck = refl

pub after-nil : {B : Type 0} → (x : Ran B) → after [] x ≡ x
after-nil (Gave b calls) = refl
after-nil (Threw e calls) = refl
after-nil Stuck = refl

pub and_then-pure : {A B : Type 0} → (a : A) (n : ℕ) (f : A → ℕ → Ran B) → and_then (Gave a []) n f ≡ f a n
and_then-pure a n f = after-nil (f a n)

and_then-after :
    {A B : Type 0} →
    (calls : List LeafCall) (x : Ran A) (n : ℕ) (g : A → ℕ → Ran B) →
    and_then (after calls x) n g ≡ after calls (and_then x (raised n calls) g)
and_then-after calls (Gave a more) n g =
    after-append calls more (g a (raised n (calls ++ more))) ∙ ap (λ k. after calls (after more (g a k))) (raised-append n calls more)
and_then-after calls (Threw e more) n g = refl
and_then-after calls Stuck n g = refl

pub and_then-assoc :
    {A B C : Type 0} →
    (r : Ran A) (n : ℕ) (f : A → ℕ → Ran B) (g : B → ℕ → Ran C) →
    and_then (and_then r n f) n g ≡ and_then r n (λ a k. and_then (f a k) k g)
and_then-assoc (Gave a calls) n f g = and_then-after calls (f a (raised n calls)) n g
and_then-assoc (Threw e calls) n f g = refl
and_then-assoc Stuck n f g = refl

pub mapped-after : {A B : Type 0} → (f : A → B) (calls : List LeafCall) (r : Ran A) → mapped f (after calls r) ≡ after calls (mapped f r)
mapped-after f calls (Gave a more) = refl
mapped-after f calls (Threw e more) = refl
mapped-after f calls Stuck = refl
