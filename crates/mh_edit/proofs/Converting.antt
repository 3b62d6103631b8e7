-- The law of Convert: arguments converted from left to right, and then the result.
use Rattle.std.proofs.Common.{◌≡◌, refl, subst, Option, Some, None, ℕ, suc, ◌+◌, List, [], ◌∷◌, ◌++◌, sym, ap, ◌∙◌, add-zero, length, length-append, arith}
use Rattle.std.specs.Prelude.{slice_get}
use Rattle.mh_base.proofs.Slices.{slice_get-end}
use Rattle.mh_values.specs.Computation.{Ran, Refines, and_then, found}
use Rattle.mh_form.specs.declared.basic.Basic.{Basic}
use Rattle.mh_form.specs.declared.basic.Basic.TheVariants.{L, I, J}
use Rattle.mh_form.specs.declared.name.Name.{Name}
use Rattle.mh_form.specs.declared.slot.Slot.{Slot}
use Rattle.mh_form.specs.Run.{Sense, step, run_names, picked, picked_more, with_field, field_of, conv_of}
use Rattle.mh_form.proofs.Refines.{refines-refl, refines-trans, refines-and_then}
use Rattle.mh_edit.specs.Applied.{conv_name, conv_names, conv_table}
use Rattle.mh_edit.specs.Law.{converting_slots}
use Rattle.mh_edit.proofs.Renaming.{slice_get-append_left}

-- what comes at the end may be replaced by what does more, over lists that begin alike
refines-over :
    {B : Type 0} →
    (xs : List Name) (senses : List Sense) (slots : List Slot) (n : ℕ) (e f : List Slot → ℕ → Ran B) →
    ((w : List Slot) (k : ℕ) → ((j : ℕ) (s : Slot) → slice_get slots j ≡ Some s → slice_get w j ≡ Some s) → Refines (e w k) (f w k)) →
    Refines (run_names xs senses slots n e) (run_names xs senses slots n f)
refines-over [] senses slots n e f h = h slots n (λ j s at. at)
refines-over (x ∷ xs) senses slots n e f h =
    refines-and_then (step x senses slots n) (step x senses slots n) n _ _ (refines-refl (step x senses slots n))
    (λ s k. refines-over xs senses (slots ++ s ∷ []) k e f (λ w m over. h w m (λ j t at. over j t (slice_get-append_left slots (s ∷ []) j t at))))

picked-known :
    {B : Type 0} → (s : Slot) (rest : Option (List Slot)) (next : List Slot → Ran B) →
    Refines (found rest (λ ys. next (s ∷ ys))) (found (picked_more (Some s) rest) next)
picked-known s None next = tt
picked-known s (Some ys) next = refines-refl (next (s ∷ ys))

along : (env : List Slot) (a b : ℕ) (s : Slot) → a ≡ b → slice_get env b ≡ Some s → slice_get env a ≡ Some s
along env a b s e h = ap (slice_get env) e ∙ h

-- a slot that is known stands first among those that are picked
picked-first :
    {B : Type 0} →
    (o : Option Slot) (s : Slot) (rest : Option (List Slot)) (next : List Slot → Ran B) →
    o ≡ Some s →
    Refines (found rest (λ ys. next (s ∷ ys))) (found (picked_more o rest) next)
picked-first {B = B} o s rest next is =
    let P : Option Slot → Type 0 = λ v. Refines (found rest (λ ys. next (s ∷ ys))) (found (picked_more v rest) next) in
    subst P (sym is) (picked-known s rest next)

-- a cast converts as any other conversion
step-conv_name :
    (b c : Basic) (f i : ℕ) (senses : List Sense) (env : List Slot) (n : ℕ) →
    step (conv_name b c f i) senses env n ≡ with_field conv_of senses f (λ conv. found (slice_get env i) conv)
step-conv_name L L f i senses env n = refl
step-conv_name L I f i senses env n = refl
step-conv_name L J f i senses env n = refl
step-conv_name I c f i senses env n = refl
step-conv_name J c f i senses env n = refl

-- the names of conversions convert the arguments that have an entry, and the table finds what was made
pub converts-run :
    {B : Type 0} →
    (es : List (Option Basic)) (params : List Basic) (convs : List (Slot → Ran Slot)) (xs : List Slot) (senses : List Sense) (env : List Slot) (f i p n : ℕ)
    (next : List Slot → ℕ → Ran B) →
    length es ≡ length params →
    length env ≡ p →
    ((j : ℕ) (s : Slot) → slice_get xs j ≡ Some s → slice_get env (i + j) ≡ Some s) →
    ((j : ℕ) (c : Slot → Ran Slot) → slice_get convs j ≡ Some c → field_of conv_of senses (f + j) ≡ Some c) →
    Refines
    (converting_slots es convs xs n next)
    (run_names (conv_names es params f i) senses env n (λ w k. found (picked w (conv_table es i p)) (λ ys. next ys k)))
converts-run [] params convs [] ss env f i p n next each len args fields = refines-refl (next [] n)
converts-run [] params convs (x ∷ xs) ss env f i p n next each len args fields = tt
converts-run (None ∷ es) [] convs xs ss env f i p n next each len args fields = absurd (omega arith)
converts-run (None ∷ es) (b ∷ params) convs [] ss env f i p n next each len args fields = tt
converts-run (None ∷ es) (b ∷ params) convs (x ∷ xs) ss env f i p n next each len args fields =
    refines-trans _ _ _
    (converts-run es params convs xs ss env f (i + 1) p n (λ ys k. next (x ∷ ys) k) (omega arith) len
    (λ j s at. along env (i + 1 + j) (i + suc j) s (omega arith) (args (suc j) s at)) fields)
    (refines-over (conv_names es params f (i + 1)) ss env n _ _
    (λ w k over. picked-first (slice_get w i) x (picked w (conv_table es (i + 1) p)) (λ ys. next ys k)
    (over i x (along env i (i + 0) x (sym (add-zero i)) (args 0 x refl)))))
converts-run (Some b ∷ es) [] convs xs ss env f i p n next each len args fields = absurd (omega arith)
converts-run (Some b ∷ es) (d ∷ params) [] xs ss env f i p n next each len args fields = tt
converts-run (Some b ∷ es) (d ∷ params) (c ∷ convs) [] ss env f i p n next each len args fields = tt
converts-run {B = B} (Some b ∷ es) (d ∷ params) (c ∷ convs) (x ∷ xs) ss env f i p n next each len args fields =
    let here : field_of conv_of ss f ≡ Some c = ap (field_of conv_of ss) (sym (add-zero f)) ∙ fields 0 c refl in
    let slot : slice_get env i ≡ Some x = along env i (i + 0) x (sym (add-zero i)) (args 0 x refl) in
    let ran : step (conv_name b d f i) ss env n ≡ c x =
    step-conv_name b d f i ss env n ∙ (ap (λ o. found o (λ conv. found (slice_get env i) conv)) here ∙ ap (λ o. found o c) slot) in
    let later = conv_names es params (f + 1) (i + 1) in
    let end : List Slot → ℕ → Ran B = λ w k. found (picked w (p ∷ conv_table es (i + 1) (p + 1))) (λ ys. next ys k) in
    let others : Slot → ℕ → Ran B = λ y k. converting_slots es convs xs k (λ ys m. next (y ∷ ys) m) in
    let rest : (y : Slot) (k : ℕ) → Refines (others y k) (run_names later ss (env ++ y ∷ []) k end) =
    λ y k.
    refines-trans _ _ _
    (converts-run es params convs xs ss (env ++ y ∷ []) (f + 1) (i + 1) (p + 1) k (λ ys m. next (y ∷ ys) m) (omega arith)
    (length-append env (y ∷ []) ∙ ap (λ v. v + 1) len)
    (λ j s at. slice_get-append_left env (y ∷ []) (i + 1 + j) s (along env (i + 1 + j) (i + suc j) s (omega arith) (args (suc j) s at)))
    (λ j d at. ap (field_of conv_of ss) (omega arith) ∙ fields (suc j) d at))
    (refines-over later ss (env ++ y ∷ []) k _ _
    (λ w m over. picked-first (slice_get w p) y (picked w (conv_table es (i + 1) (p + 1))) (λ ys. next ys m)
    (over p y (along (env ++ y ∷ []) p (length env) y (sym len) (slice_get-end env y))))) in
    let P : Ran Slot → Type 0 = λ v. Refines (and_then (c x) n others) (and_then v n (λ y k. run_names later ss (env ++ y ∷ []) k end)) in
    subst P (sym ran) (refines-and_then (c x) (c x) n _ _ (refines-refl (c x)) rest)
