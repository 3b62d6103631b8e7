-- The indexes of the Dynamic entries, as the pool grows.
use Rattle.std.proofs.Common.{◌≡◌, ℕ, zero, suc, ◌+◌, ◌≤◌, Bool, true, false, cond, ltb, List, [], ◌∷◌, ◌++◌, length, Some, None, refl, sym, ap, ◌∙◌, append_assoc, arith}
use Rattle.std.proofs.lemmas.List.{append-nil, length-append}
use Rattle.std.proofs.lemmas.List.Elements.{All-nil, All-cons, All-append, All-weaker}
use Rattle.std.proofs.lemmas.List.Sums.{sum_by-cons}
use Rattle.std.proofs.lemmas.List.Sorted.{IsPartitionedBy-ltb}
use Rattle.std.specs.Prelude.{All}
use Rattle.std.specs.List.{count_by}
use Rattle.std.specs.List.Sorted.{IsNonDecreasing, IsPartitionPoint, IsPartitionedBy}
use Rattle.mh_class_pool.specs.declared.entry.Entry.{Entry}
use Rattle.mh_class_pool.specs.Entries.{Slot, is_dynamic, if_dynamic, dynamic_at, dynamics_from, dynamics}

pub no_dynamics : dynamics (None ∷ []) ≡ []
unfolding dynamics_from
no_dynamics = refl

-- they are at most one more with each entry
pub if_dynamic-few : (kept : List ℕ) (i : ℕ) (e : Entry) → length (kept ++ if_dynamic i e) ≤ length kept + 1
if_dynamic-few kept i e = go (is_dynamic e)
  where
    go : (dynamic : Bool) → length (kept ++ cond dynamic (i ∷ []) []) ≤ length kept + 1
    go true = omega (arith, length-append kept (i ∷ []))
    go false = omega (arith, length-append kept [])

-- those of slots, and of one more
dynamics-push : (i : ℕ) (slots : List Slot) (s : Slot) → dynamics_from i (slots ++ s ∷ []) ≡ dynamics_from i slots ++ dynamic_at (i + length slots) s
unfolding dynamics_from
dynamics-push i [] s =
    let there : i ≡ i + 0 = omega arith in
    append-nil (dynamic_at i s) ∙ ap (λ (n : ℕ). dynamic_at n s) there
dynamics-push i (x ∷ slots) s =
    let there : i + 1 + length slots ≡ i + suc (length slots) = omega arith in
    ap (λ (xs : List ℕ). dynamic_at i x ++ xs) (dynamics-push (i + 1) slots s ∙ ap (λ (n : ℕ). dynamics_from (i + 1) slots ++ dynamic_at n s) there)
    ∙ sym (append_assoc (dynamic_at i x) (dynamics_from (i + 1) slots) (dynamic_at (i + suc (length slots)) s))

-- likewise of a whole pool
dynamics-end : (pool : List Slot) (s : Slot) → dynamics (pool ++ s ∷ []) ≡ dynamics pool ++ dynamic_at (length pool) s
dynamics-end pool s =
    let there : 0 + length pool ≡ length pool = omega arith in
    dynamics-push 0 pool s ∙ ap (λ (n : ℕ). dynamics pool ++ dynamic_at n s) there

-- with an entry at the next index
pub dynamics-narrow : (slots : List Slot) (kept : List ℕ) (at : ℕ) (e : Entry) → kept ≡ dynamics slots →
    kept ++ if_dynamic (length slots) e ≡ dynamics (slots ++ Some (at, e) ∷ [])
dynamics-narrow slots kept at e same =
    ap (λ (xs : List ℕ). xs ++ if_dynamic (length slots) e) same ∙ sym (dynamics-end slots (Some (at, e)))

-- and with an index after it that has none
pub dynamics-wide : (slots : List Slot) (kept : List ℕ) (at : ℕ) (e : Entry) → kept ≡ dynamics slots →
    kept ++ if_dynamic (length slots) e ≡ dynamics ((slots ++ Some (at, e) ∷ []) ++ None ∷ [])
dynamics-wide slots kept at e same =
    let all = slots ++ Some (at, e) ∷ [] in
    dynamics-narrow slots kept at e same ∙ sym (dynamics-end all None ∙ append-nil (dynamics all))

-- they rise
at_least : (i : ℕ) (s : Slot) → All (λ j. i ≤ j) (dynamic_at i s)
at_least i None = All-nil (λ j. i ≤ j)
at_least i (Some s) = go (is_dynamic s.1)
  where
    go : (dynamic : Bool) → All (λ j. i ≤ j) (cond dynamic (i ∷ []) [])
    go true = All-cons (λ j. i ≤ j) i [] (omega arith) (All-nil (λ j. i ≤ j))
    go false = All-nil (λ j. i ≤ j)

all_at_least : (i : ℕ) (slots : List Slot) → All (λ j. i ≤ j) (dynamics_from i slots)
unfolding dynamics_from
all_at_least i [] = All-nil (λ j. i ≤ j)
all_at_least i (s ∷ slots) =
    All-append (λ j. i ≤ j) (dynamic_at i s) (dynamics_from (i + 1) slots) (at_least i s)
    (All-weaker (λ j. i + 1 ≤ j) (λ j. i ≤ j) (λ j h. omega arith) (dynamics_from (i + 1) slots) (all_at_least (i + 1) slots))

rise-cons : (i : ℕ) (xs : List ℕ) → All (λ j. i ≤ j) xs → IsNonDecreasing xs → IsNonDecreasing (i ∷ xs)
rise-cons i xs low up zero zero d le lt = omega arith
rise-cons i xs low up zero (suc b) d le lt = low b d (omega arith)
rise-cons i xs low up (suc a) zero d le lt = absurd (omega arith)
rise-cons i xs low up (suc a) (suc b) d le lt = up a b d (omega arith) (omega arith)

rise-more : (i : ℕ) (s : Slot) (xs : List ℕ) → All (λ j. i + 1 ≤ j) xs → IsNonDecreasing xs → IsNonDecreasing (dynamic_at i s ++ xs)
rise-more i None xs low up = up
rise-more i (Some s) xs low up = go (is_dynamic s.1)
  where
    go : (dynamic : Bool) → IsNonDecreasing (cond dynamic (i ∷ []) [] ++ xs)
    go true = rise-cons i xs (All-weaker (λ j. i + 1 ≤ j) (λ j. i ≤ j) (λ j h. omega arith) xs low) up
    go false = up

rise : (i : ℕ) (slots : List Slot) → IsNonDecreasing (dynamics_from i slots)
unfolding dynamics_from
rise i [] = λ a b d le lt. absurd (omega arith)
rise i (s ∷ slots) = rise-more i s (dynamics_from (i + 1) slots) (all_at_least (i + 1) slots) (rise (i + 1) slots)

-- so those before an index stand in front of the others
pub are_parted : (pool : List Slot) (index : ℕ) → IsPartitionedBy (λ i. ltb i index) (dynamics pool)
are_parted pool index = IsPartitionedBy-ltb (λ i. i) (dynamics pool) index (rise 0 pool)

-- how many pass a test, where those that do stand in front of the others
pub count-parted : {X : Type 0} (p : X → Bool) (xs : List X) (k : ℕ) → k ≤ length xs → IsPartitionPoint (λ x. p x ≡ true) (λ x. p x ≡ false) xs k →
    k ≡ count_by p xs
count-parted p [] k le h = omega arith
count-parted p (x ∷ xs) zero le h =
    let first : p x ≡ false = h.1 zero x (omega arith) (omega arith) in
    let rest = count-parted p xs zero (omega arith) ((λ k d low high. absurd (omega arith)), (λ k d low high. h.1 (suc k) d (omega arith) (omega arith))) in
    sym (sum_by-cons (λ y. cond (p y) 1 0) x xs ∙ rw first (omega (arith, rest)))
count-parted p (x ∷ xs) (suc k) le h =
    let first : p x ≡ true = h.0 zero x (omega arith) (omega arith) in
    let rest = count-parted p xs k (omega arith) (
      (λ j d low high. h.0 (suc j) d (omega arith) (omega arith)),
      (λ j d low high. h.1 (suc j) d (omega arith) (omega arith)),
    ) in
    sym (sum_by-cons (λ y. cond (p y) 1 0) x xs ∙ rw first (omega (arith, rest)))
