-- Erasing along a computation: a leaf, what was bound, and a part before what runs on its result.
use Rattle.std.proofs.Common.{◌≡◌, ◌≢◌, refl, sym, ap, ◌∙◌, ℕ, ◌+◌, ◌%◌, ◌<◌, ◌^◌, List, [], ◌∷◌, ◌++◌, Option, Some, None, map, take, drop, arith}
use Rattle.std.specs.Prelude.{option_to_list}
use Rattle.std.proofs.lemmas.List.{map-append, take-map, drop-map}
use Rattle.mh_values.specs.declared.class.Class.{Class}
use Rattle.mh_values.specs.declared.types.Ty.{Ty}
use Rattle.mh_values.specs.declared.calls.LeafCall.{LeafCall}
use Rattle.mh_values.specs.declared.value.Value.{Value}
use Rattle.mh_values.specs.Computation.{Ran, Gave, Threw, Stuck, and_then, after, next_count, raised, spliced}
use Rattle.mh_values.specs.HasType.{HaveTypes}
use Rattle.mh_values.specs.Returns.{Returns}
use Rattle.mh_form.specs.declared.slot.Slot.{Slot}
use Rattle.mh_form.specs.Erasure.{erased, erased_ran, basic_ret_of}
use Rattle.mh_form.specs.Slots.{filled, given}
use Rattle.mh_edit.specs.Law.{returned, slots_of_result}

-- an operation on a list's places is one on the mapped list
pub spliced-map : {A B : Type 0} (f : A → B) (place taken : ℕ) (given xs : List A) → map f (spliced place taken given xs) ≡ spliced place taken (map f given)
    (map f xs)
spliced-map f place taken given xs =
    map-append f (take place xs) (given ++ drop (place + taken) xs)
    ∙ (ap (λ u. u ++ map f (given ++ drop (place + taken) xs)) (sym (take-map f place xs))
    ∙ ap (λ u. take place (map f xs) ++ u) (map-append f given (drop (place + taken) xs) ∙ ap (λ u. map f given ++ u) (sym (drop-map f (place + taken) xs))))

pub part-map : {A B : Type 0} (f : A → B) (place count : ℕ) (xs : List A) → map f (take count (drop place xs)) ≡ take count (drop place (map f xs))
part-map f place count xs = sym (take-map f count (drop place xs)) ∙ ap (take count) (sym (drop-map f place xs))

pub erased-after : (calls : List LeafCall) (x : Ran (Option Value)) → erased_ran (after calls x) ≡ after calls (erased_ran x)
erased-after calls (Gave v more) = refl
erased-after calls (Threw e more) = refl
erased-after calls Stuck = refl

-- what returns as its type says is well formed, erased too
pub returns-runs : (classes : List Class) (r : Ran (Option Value)) (t : Option Ty) → Returns classes r t → erased_ran r ≢ Stuck
returns-runs classes (Gave v calls) t h = λ e. cc
returns-runs classes (Threw x calls) t h = λ e. cc
returns-runs classes Stuck t h = absurd h

-- a result of a type is one of its basic type
pub returned-erased : (classes : List Class) (r : Ran (Option Value)) (t : Option Ty) → Returns classes r t →
    returned (basic_ret_of t) (erased_ran r) ≡ erased_ran r
returned-erased classes (Gave (Some v) calls) (Some t) h = refl
returned-erased classes (Gave None calls) None h = refl
returned-erased classes (Threw e calls) t h = refl
returned-erased classes (Gave (Some v) calls) None h = absurd h
returned-erased classes (Gave None calls) (Some t) h = absurd h
returned-erased classes Stuck t h = absurd h

-- the count of leaf calls stays a number of 32 bits
pub raised-low : (calls : List LeafCall) (n : ℕ) → n < 2 ^ 32 → raised n calls < 2 ^ 32
raised-low [] n low = low
raised-low (c ∷ calls) n low =
    let next : (n + 1) % (2 ^ 32) < 2 ^ 32 = omega arith in
    raised-low calls (next_count n) next

-- a part that stands for a tree, and what runs on its result
pub part-then :
    (classes : List Class) (r : Ran (Option Value)) (n : ℕ) (t : Option Ty) (run : List Slot → ℕ → Ran (Option Slot)) (mean : List Value → ℕ →
    Ran (Option Value)) →
    n < 2 ^ 32 →
    Returns classes r t →
    ((o : Option Value) (k : ℕ) → HaveTypes classes (option_to_list o) (option_to_list t) → k < 2 ^ 32 →
    run (map erased (option_to_list o)) k ≡ erased_ran (mean (option_to_list o) k)) →
    and_then (filled (erased_ran r)) n (λ s k. run (given (basic_ret_of t) s) k) ≡ erased_ran (and_then r n (λ o k. mean (option_to_list o) k))
part-then classes (Gave (Some v) calls) n (Some t) run mean low typed same =
    ap (after calls) (same (Some v) (raised n calls) (typed, tt) (raised-low calls n low)) ∙ sym (erased-after calls (mean (v ∷ []) (raised n calls)))
part-then classes (Gave None calls) n None run mean low typed same =
    ap (after calls) (same None (raised n calls) tt (raised-low calls n low)) ∙ sym (erased-after calls (mean [] (raised n calls)))
part-then classes (Threw e calls) n t run mean low typed same = refl
part-then classes (Gave (Some v) calls) n None run mean low typed same = absurd typed
part-then classes (Gave None calls) n (Some t) run mean low typed same = absurd typed
part-then classes Stuck n t run mean low typed same = absurd typed

-- the same where the part runs last
pub result-then :
    (classes : List Class) (r : Ran (Option Value)) (n : ℕ) (t ret : Option Ty) (run : List Slot → ℕ → Ran (Option Slot)) (mean : List Value → ℕ →
    Ran (Option Value)) →
    n < 2 ^ 32 →
    Returns classes r t →
    ((o : Option Value) (k : ℕ) → HaveTypes classes (option_to_list o) (option_to_list t) → Returns classes (mean (option_to_list o) k) ret) →
    ((o : Option Value) (k : ℕ) → HaveTypes classes (option_to_list o) (option_to_list t) → k < 2 ^ 32 →
    run (map erased (option_to_list o)) k ≡ erased_ran (mean (option_to_list o) k)) →
    and_then (erased_ran r) n (λ o k. returned (basic_ret_of ret) (run (slots_of_result o) k)) ≡ erased_ran (and_then r n (λ o k. mean (option_to_list o) k))
result-then classes (Gave (Some v) calls) n (Some t) ret run mean low typed sound same =
    let k : ℕ = raised n calls in
    ap (after calls) (ap (returned (basic_ret_of ret)) (same (Some v) k (typed, tt) (raised-low calls n low)) ∙ returned-erased classes (mean (v ∷ []) k) ret
    (sound (Some v) k (typed, tt)))
    ∙ sym (erased-after calls (mean (v ∷ []) k))
result-then classes (Gave None calls) n None ret run mean low typed sound same =
    let k : ℕ = raised n calls in
    ap (after calls) (ap (returned (basic_ret_of ret)) (same None k tt (raised-low calls n low)) ∙ returned-erased classes (mean [] k) ret (sound None k tt))
    ∙ sym (erased-after calls (mean [] k))
result-then classes (Threw e calls) n t ret run mean low typed sound same = refl
result-then classes (Gave (Some v) calls) n None ret run mean low typed sound same = absurd typed
result-then classes (Gave None calls) n (Some t) ret run mean low typed sound same = absurd typed
result-then classes Stuck n t ret run mean low typed sound same = absurd typed
