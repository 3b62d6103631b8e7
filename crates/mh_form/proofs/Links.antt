-- The run of a part above the slots of the run that waits for it.
use Rattle.std.proofs.Common.{◌≡◌, refl, sym, ap, ◌∙◌, ℕ, List, [], ◌∷◌, ◌++◌, append-nil, Option, Some, None}
use Rattle.std.specs.Prelude.{slice_get}
use Rattle.std.specs.Option.{option_map}
use Rattle.mh_values.specs.declared.calls.LeafCall.{LeafCall}
use Rattle.mh_values.specs.declared.value.Exc.{Exc}
use Rattle.mh_values.specs.Computation.{Ran, Gave, Threw, Stuck, after, and_then, found, mapped, raised}
use Rattle.mh_leaf.specs.LeafTable.{LeafTable}
use Rattle.mh_form.specs.declared.field.Bound.{Bound}
use Rattle.mh_form.specs.declared.slot.Slot.{Slot}
use Rattle.mh_form.specs.Run.{ended, result_at, run_bound, senses_in}
use Rattle.mh_form.specs.Slots.{filled, none_as_zero}
use Rattle.mh_form.specs.Stack.{run_slots}
use Rattle.mh_form.proofs.Split.{run-split}

-- what a body gives is what its names leave, and then its end
pub bound-split :
    (table : LeafTable) (b : Bound) (slots : List Slot) (n : ℕ) →
    run_bound table b slots n ≡ and_then (run_slots b.body.now.names (senses_in table b) slots n) n (ended b.body.now.out)
bound-split table b slots n = run-split b.body.now.names (senses_in table b) slots n (ended b.body.now.out)

-- where its names are stuck, a body is
pub bound-stuck :
    (table : LeafTable) (b : Bound) (slots : List Slot) (n : ℕ) →
    run_slots b.body.now.names (senses_in table b) slots n ≡ Stuck → run_bound table b slots n ≡ Stuck
bound-stuck table b slots n h = bound-split table b slots n ∙ ap (λ x. and_then x n (ended b.body.now.out)) h

ended-stuck : (out : Option ℕ) (G : List Slot) (k : ℕ) → result_at out G ≡ None → ended out G k ≡ Stuck
ended-stuck None G k h = absurd cc
ended-stuck (Some p) G k h = none (slice_get G p) h
  where
    none : (o : Option Slot) → option_map Some o ≡ None → found o (λ t. Gave (Some t) []) ≡ Stuck
    none None h = refl
    none (Some t) h = absurd cc

-- where there is no result, what comes at the end is stuck
pub out-stuck :
    (x : Ran (List Slot)) (G : List Slot) (C C' : List LeafCall) (k : ℕ) (out : Option ℕ) →
    Gave G C' ≡ after C x →
    result_at out G ≡ None →
    and_then x k (ended out) ≡ Stuck
out-stuck (Gave H more) G C C' k out h r =
    let g : G ≡ H = cc in ap (after more) (ended-stuck out H (raised k more) (ap (result_at out) (sym g) ∙ r))
out-stuck (Threw d more) G C C' k out h r = absurd cc
out-stuck Stuck G C C' k out h r = absurd cc

ended-gave :
    (out : Option ℕ) (G : List Slot) (k : ℕ) (r : Option Slot) → result_at out G ≡ Some r → ended out G k ≡ Gave r []
ended-gave None G k r h = let e : None ≡ r = cc in ap (λ q. Gave q []) e
ended-gave (Some p) G k r h = there (slice_get G p) h
  where
    there : (o : Option Slot) → option_map Some o ≡ Some r → found o (λ t. Gave (Some t) []) ≡ Gave r []
    there None h = absurd cc
    there (Some t) h = let e : Some t ≡ r = cc in ap (λ q. Gave q []) e

-- the result of names that all filled their slots
pub out-gave :
    (x : Ran (List Slot)) (G : List Slot) (C C' : List LeafCall) (k : ℕ) (out : Option ℕ) (r : Option Slot) →
    Gave G C' ≡ after C x →
    result_at out G ≡ Some r →
    Gave r C' ≡ after C (and_then x k (ended out))
out-gave (Gave H more) G C C' k out r h is =
    let g : G ≡ H = cc in
    let c : C' ≡ C ++ more = cc in
    let e : ended out H (raised k more) ≡ Gave r [] = ended-gave out H (raised k more) r (ap (result_at out) (sym g) ∙ is) in
    ap (Gave r) (c ∙ ap (λ m. C ++ m) (sym (append-nil more))) ∙ ap (λ q. after C (after more q)) (sym e)
out-gave (Threw e more) G C C' k out r h is = absurd cc
out-gave Stuck G C C' k out r h is = absurd cc

-- the slot that a run which gave a result puts after those of the run that waits
pub filled-gave :
    (F H : List Slot) (C C' : List LeafCall) (r : Option Slot) (x : Ran (Option Slot)) →
    Gave r C' ≡ after C x →
    H ≡ F ++ none_as_zero r ∷ [] →
    Gave H C' ≡ after C (mapped (λ s. F ++ s ∷ []) (filled x))
filled-gave F H C C' r (Gave q more) h is =
    let same : r ≡ q = cc in
    let calls : C' ≡ C ++ more = cc in
    ap (λ l. Gave l C') (is ∙ ap (λ o. F ++ none_as_zero o ∷ []) same) ∙ ap (Gave (F ++ none_as_zero q ∷ [])) calls
filled-gave F H C C' r (Threw e more) h is = absurd cc
filled-gave F H C C' r Stuck h is = absurd cc

-- a part that gave a result, which stands after the slots of the run that waits
part-gave :
    (x : Ran (List Slot)) (F G H : List Slot) (C C' : List LeafCall) (k : ℕ) (out : Option ℕ) →
    Gave G C' ≡ after C x →
    option_map (λ r. F ++ none_as_zero r ∷ []) (result_at out G) ≡ Some H →
    Gave H C' ≡ after C (mapped (λ s. F ++ s ∷ []) (filled (and_then x k (ended out))))
part-gave x F G H C C' k out h is = given (result_at out G) refl is
  where
    given :
        (o : Option (Option Slot)) →
        result_at out G ≡ o →
        option_map (λ r. F ++ none_as_zero r ∷ []) o ≡ Some H →
        Gave H C' ≡ after C (mapped (λ s. F ++ s ∷ []) (filled (and_then x k (ended out))))
    given None at is = absurd cc
    given (Some r) at is =
        let e : F ++ none_as_zero r ∷ [] ≡ H = cc in
        filled-gave F H C C' r (and_then x k (ended out)) (out-gave x G C C' k out r h at) (sym e)

-- a part that threw
part-threw :
    (x : Ran (List Slot)) (F : List Slot) (C C' : List LeafCall) (k : ℕ) (e : Exc) (out : Option ℕ) →
    Threw e C' ≡ after C x →
    Threw e C' ≡ after C (mapped (λ s. F ++ s ∷ []) (filled (and_then x k (ended out))))
part-threw (Gave H more) F C C' k e out h = absurd cc
part-threw (Threw d more) F C C' k e out h = let f : e ≡ d = cc in let c : C' ≡ C ++ more = cc in rw (f, c) refl
part-threw Stuck F C C' k e out h = absurd cc

-- names that threw, and no end
pub out-threw :
    (x : Ran (List Slot)) (C C' : List LeafCall) (k : ℕ) (e : Exc) (out : Option ℕ) →
    Threw e C' ≡ after C x →
    Threw e C' ≡ after C (and_then x k (ended out))
out-threw (Gave H more) C C' k e out h = absurd cc
out-threw (Threw d more) C C' k e out h = let f : e ≡ d = cc in let c : C' ≡ C ++ more = cc in rw (f, c) refl
out-threw Stuck C C' k e out h = absurd cc

-- the same of a body, of which the names left these slots
pub bound-gave :
    (table : LeafTable) (b : Bound) (slots F G H : List Slot) (C C' : List LeafCall) (n : ℕ) →
    Gave G C' ≡ after C (run_slots b.body.now.names (senses_in table b) slots n) →
    option_map (λ r. F ++ none_as_zero r ∷ []) (result_at b.body.now.out G) ≡ Some H →
    Gave H C' ≡ after C (mapped (λ s. F ++ s ∷ []) (filled (run_bound table b slots n)))
bound-gave table b slots F G H C C' n h is =
    part-gave (run_slots b.body.now.names (senses_in table b) slots n) F G H C C' n b.body.now.out h is
    ∙ ap (λ r. after C (mapped (λ s. F ++ s ∷ []) (filled r))) (sym (bound-split table b slots n))

-- and of a body of which a name threw
pub bound-threw :
    (table : LeafTable) (b : Bound) (slots F : List Slot) (C C' : List LeafCall) (n : ℕ) (e : Exc) →
    Threw e C' ≡ after C (run_slots b.body.now.names (senses_in table b) slots n) →
    Threw e C' ≡ after C (mapped (λ s. F ++ s ∷ []) (filled (run_bound table b slots n)))
bound-threw table b slots F C C' n e h =
    part-threw (run_slots b.body.now.names (senses_in table b) slots n) F C C' n e b.body.now.out h
    ∙ ap (λ r. after C (mapped (λ s. F ++ s ∷ []) (filled r))) (sym (bound-split table b slots n))

-- a body that has no result is stuck
pub bound-out :
    (table : LeafTable) (b : Bound) (slots G : List Slot) (C C' : List LeafCall) (n : ℕ) →
    Gave G C' ≡ after C (run_slots b.body.now.names (senses_in table b) slots n) →
    result_at b.body.now.out G ≡ None →
    run_bound table b slots n ≡ Stuck
bound-out table b slots G C C' n h none =
    bound-split table b slots n ∙ out-stuck (run_slots b.body.now.names (senses_in table b) slots n) G C C' n b.body.now.out h none
