-- A guarded part, and its handler, above the slots of the run that waits for them.
use Rattle.std.proofs.Common.{◌≡◌, refl, sym, ap, ◌∙◌, ℕ, ◌-◌, Bool, true, false, List, [], ◌∷◌, ◌++◌, append-nil, take, drop, length, Option, Some, if◌then◌else◌}
use Rattle.std.specs.Prelude.{slice_get}
use Rattle.std.specs.Option.{option_map}
use Rattle.mh_base.proofs.Slices.{slice_get-end}
use Rattle.mh_values.specs.declared.calls.LeafCall.{LeafCall}
use Rattle.mh_values.specs.declared.value.Exc.{Exc}
use Rattle.mh_values.specs.declared.value.Value.TheVariants as value
use Rattle.mh_values.specs.Computation.{Ran, Gave, Threw, Stuck, after, guarded, mapped, raised, is_caught}
use Rattle.mh_leaf.specs.LeafTable.{LeafTable}
use Rattle.mh_form.specs.declared.field.Bound.{Bound}
use Rattle.mh_form.specs.declared.interpreter.Guard.{Guard}
use Rattle.mh_form.specs.declared.slot.Slot.{Slot}
use Rattle.mh_form.specs.declared.slot.Slot.TheVariants as slot
use Rattle.mh_form.specs.Guards.{caught_on, guarded_on}
use Rattle.mh_form.specs.Run.{SlotRun, run_field, senses_in}
use Rattle.mh_form.specs.Slots.{filled, none_as_zero}
use Rattle.mh_form.specs.Stack.{StackView, left, on_stack}
use Rattle.mh_form.proofs.Computations.{after-append, mapped-after, raised-append}
use Rattle.mh_form.proofs.Frames.{left-below, left-frame}

-- a guarded part that gave a result, which stands last above its arguments
pub guarded-gave :
    (x : Ran (Option Slot)) (xs F G H : List Slot) (C C' : List LeafCall) (test : Exc → Bool) (k : ℕ) (handler : Exc → ℕ → Ran (Option Slot)) →
    Gave G C' ≡ after C (mapped (λ s. xs ++ s ∷ []) (filled x)) →
    option_map (λ s. F ++ s ∷ []) (slice_get G (length xs)) ≡ Some H →
    Gave H C' ≡ after C (mapped (λ s. F ++ s ∷ []) (filled (guarded x test k handler)))
guarded-gave (Gave r more) xs F G H C C' test k handler h is =
    let g : G ≡ xs ++ none_as_zero r ∷ [] = cc in
    let c : C' ≡ C ++ more = cc in
    let last : slice_get G (length xs) ≡ Some (none_as_zero r) =
    ap (λ l. slice_get l (length xs)) g ∙ slice_get-end xs (none_as_zero r) in
    let whole : Some (F ++ none_as_zero r ∷ []) ≡ Some H = sym (ap (option_map (λ s. F ++ s ∷ [])) last) ∙ is in
    let same : H ≡ F ++ none_as_zero r ∷ [] = cc in
    ap (λ l. Gave l C') same ∙ ap (Gave (F ++ none_as_zero r ∷ [])) c
guarded-gave (Threw e more) xs F G H C C' test k handler h is = absurd cc
guarded-gave Stuck xs F G H C C' test k handler h is = absurd cc

chosen :
    (b : Bool) (e : Exc) (C more : List LeafCall) (y : Ran (Option Slot)) →
    after C (if b then after more y else Threw e more) ≡ after (C ++ more) (if b then y else Threw e [])
chosen true e C more y = sym (after-append C more y)
chosen false e C more y = ap (Threw e) (sym (append-nil (C ++ more)))

-- a guarded part that threw: the handler runs after the leaf calls of the part, or the exception goes on
pub guarded-threw :
    (x : Ran (Option Slot)) (e : Exc) (xs : List Slot) (C C' : List LeafCall) (test : Exc → Bool) (n : ℕ) (handler : Exc → ℕ → Ran (Option Slot)) →
    Threw e C' ≡ after C (mapped (λ s. xs ++ s ∷ []) (filled x)) →
    after C (guarded x test (raised n C) handler) ≡ after C' (if test e then handler e (raised n C') else Threw e [])
guarded-threw (Gave r more) e xs C C' test n handler h = absurd cc
guarded-threw (Threw d more) e xs C C' test n handler h =
    let same : e ≡ d = cc in
    let c : C' ≡ C ++ more = cc in
    rw (same, c)
    (ap (λ k. after C (if test d then after more (handler d k) else Threw d more)) (sym (raised-append n C more))
    ∙ chosen (test d) d C more (handler d (raised n (C ++ more))))
guarded-threw Stuck e xs C C' test n handler h = absurd cc

-- where what runs after leaf calls is stuck, all is
pub after-stuck : {A : Type 0} (C : List LeafCall) (x : Ran A) → after C x ≡ Stuck → x ≡ Stuck
after-stuck C (Gave a more) h = absurd cc
after-stuck C (Threw e more) h = absurd cc
after-stuck C Stuck h = refl

-- the same leaf calls and then the same run, of which the slot stands after those of the run that waits
pub filled-after :
    (F : List Slot) (C C' : List LeafCall) (x y : Ran (Option Slot)) →
    after C x ≡ after C' y →
    after C (mapped (λ s. F ++ s ∷ []) (filled x)) ≡ after C' (mapped (λ s. F ++ s ∷ []) (filled y))
filled-after F C C' x y h = out C x ∙ (ap (λ r. mapped (λ s. F ++ s ∷ []) (filled r)) h ∙ sym (out C' y))
  where
    out : (D : List LeafCall) (z : Ran (Option Slot)) →
        after D (mapped (λ s. F ++ s ∷ []) (filled z)) ≡ mapped (λ s. F ++ s ∷ []) (filled (after D z))
    out D z = sym (ap (mapped (λ s. F ++ s ∷ [])) (mapped-after none_as_zero D z) ∙ mapped-after (λ s. F ++ s ∷ []) D (filled z))

-- a part on copies of the slots of the run under way
pub again :
    (part : SlotRun) (n : ℕ) (old m : StackView) (kept : ℕ) →
    m.frame ≡ old.frame →
    m.below ≡ old.below ++ old.frame →
    m.calls ≡ old.calls →
    kept ≡ length old.frame →
    on_stack (left kept m) (filled (part m.frame (raised n m.calls))) ≡ on_stack old (filled (part old.frame (raised n old.calls)))
again part n old m kept frame below calls count =
    ap (λ F. after m.calls (mapped (λ s. F ++ s ∷ []) (filled (part m.frame (raised n m.calls)))))
    (left-frame old.below old.frame m.below kept below count)
    ∙ (ap (λ G. after m.calls (mapped (λ s. old.frame ++ s ∷ []) (filled (part G (raised n m.calls))))) frame
    ∙ ap (λ C. after C (mapped (λ s. old.frame ++ s ∷ []) (filled (part old.frame (raised n C))))) calls)

-- a guarded part that threw is its handler, or its exception, after its leaf calls
pub caught :
    (table : LeafTable) (n : ℕ) (bound : Bound) (g : Guard) (old m : StackView) →
    m.frame ≡ old.frame →
    Threw m.thrown m.calls ≡ on_stack old (filled (run_field (senses_in table bound) g.part old.frame (raised n old.calls))) →
    after old.calls (guarded_on table n bound g old) ≡ after m.calls (caught_on table n bound g m)
caught table n bound g old m frame threw =
    let handler : Exc → ℕ → Ran (Option Slot) =
    λ e k. run_field (senses_in table bound) g.handler (slot.L (value.Thrown e) ∷ take g.kept old.frame) k in
    guarded-threw (run_field (senses_in table bound) g.part old.frame (raised n old.calls)) m.thrown old.frame old.calls m.calls
    (is_caught table.classes g.class) n handler threw
    ∙ ap (λ F. after m.calls (if is_caught table.classes g.class m.thrown then
    run_field (senses_in table bound) g.handler (slot.L (value.Thrown m.thrown) ∷ take g.kept F) (raised n m.calls)
    else Threw m.thrown [])) (sym frame)

-- the handler's slot stands after those of the run that waits, as that of the guarded part does
pub handled :
    (table : LeafTable) (n : ℕ) (bound : Bound) (g : Guard) (old m : StackView) (count : ℕ) →
    m.below ≡ old.below →
    after old.calls (guarded_on table n bound g old) ≡ after m.calls (caught_on table n bound g m) →
    on_stack (left count m) (filled (caught_on table n bound g m)) ≡ on_stack (left count old) (filled (guarded_on table n bound g old))
handled table n bound g old m count below same =
    ap (λ b. after m.calls (mapped (λ s. drop (length b - count) b ++ s ∷ []) (filled (caught_on table n bound g m)))) below
    ∙ sym (filled-after (left count old).frame old.calls m.calls (guarded_on table n bound g old) (caught_on table n bound g m) same)

-- a guarded part that threw on copies of its arguments: they stand as they were, and its handler or its exception comes after its leaf calls
pub threw-again :
    (table : LeafTable) (n : ℕ) (bound : Bound) (g : Guard) (old begun m : StackView) (kept : ℕ) →
    (begun.frame ≡ old.frame) × (begun.below ≡ old.below ++ old.frame) × (begun.calls ≡ old.calls) × (kept ≡ length old.frame) →
    m.below ≡ (left kept begun).below →
    m.frame ≡ (left kept begun).frame →
    Threw m.thrown m.calls ≡ on_stack (left kept begun) (filled (run_field (senses_in table bound) g.part begun.frame (raised n begun.calls))) →
    (m.below ≡ old.below) × (after old.calls (guarded_on table n bound g old) ≡ after m.calls (caught_on table n bound g m))
threw-again table n bound g old begun m kept ok below frame threw =
    let waits = frame ∙ left-frame old.below old.frame begun.below kept ok.1 ok.3 in
    let is = threw ∙ again (run_field (senses_in table bound) g.part) n old begun kept ok.0 ok.1 ok.2 ok.3 in
    (below ∙ left-below old.below old.frame begun.below kept ok.1 ok.3, caught table n bound g old m waits is)
