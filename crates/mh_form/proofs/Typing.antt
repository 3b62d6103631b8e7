-- Typing slots one after another.
use Rattle.std.proofs.Common.{◌≡◌, refl, sym, ap, ap₂, ◌∙◌, ℕ, zero, suc, ◌+◌, ◌<◌, ◌≤◌, List, [], ◌∷◌, ◌++◌, Option, Some, None, drop, length, append_assoc, arith}
use Rattle.std.specs.Prelude.{slice_get}
use Rattle.std.proofs.Math.ListN.{drop_of_length-le}
use Rattle.mh_values.specs.declared.class.Class.{Class}
use Rattle.mh_values.specs.declared.types.Ty.{Ty}
use Rattle.mh_values.specs.declared.value.Value.{Value}
use Rattle.mh_form.specs.declared.slot.Slot.{Slot}
use Rattle.mh_form.specs.Erasure.{typed, value_and_more, all_typed}

-- these values, and then what is typed
abbrev pub typed_on : List Value → Option (List Value) → Option (List Value)
typed_on vs None = None
typed_on vs (Some ws) = Some (vs ++ ws)

pub drop-at : {A : Type 0} → (xs : List A) (i : ℕ) (x : A) → slice_get xs i ≡ Some x → drop i xs ≡ x ∷ drop (i + 1) xs
drop-at [] i x h = absurd cc
drop-at (y ∷ ys) zero x h = let e : y ≡ x = cc in ap (λ v. v ∷ ys) e
drop-at (y ∷ ys) (suc i) x h =
    let e : suc i + 1 ≡ suc (i + 1) = omega arith in
    drop-at ys i x h ∙ ap (λ m. x ∷ drop m (y ∷ ys)) (sym e)

typed-step :
    (classes : List Class) (tys : List Ty) (slots : List Slot) (vs : List Value) (i : ℕ) (t : Ty) (s : Slot) →
    slice_get tys i ≡ Some t →
    slice_get slots i ≡ Some s →
    typed_on vs (all_typed classes (drop i tys) (drop i slots)) ≡ typed_on vs
    (value_and_more (typed classes t s) (all_typed classes (drop (i + 1) tys) (drop (i + 1) slots)))
typed-step classes tys slots vs i t s h k = ap (typed_on vs) (ap₂ (all_typed classes) (drop-at tys i t h) (drop-at slots i s k))

pub typed_on-more :
    (vs : List Value) (v : Value) (rest : Option (List Value)) → typed_on vs (value_and_more (Some v) rest) ≡ typed_on (vs ++ v ∷ []) rest
typed_on-more vs v None = refl
typed_on-more vs v (Some ws) = ap Some (sym (append_assoc vs (v ∷ []) ws))

pub first-left : (tys : List Ty) (i : ℕ) → i < length tys → (t : Ty) × (drop i tys ≡ t ∷ drop (suc i) tys)
first-left [] i low = absurd (omega arith)
first-left (t ∷ tys) zero low = (t, refl)
first-left (t ∷ tys) (suc i) low = first-left tys i (omega arith)

pub typed-short :
    (classes : List Class) (tys : List Ty) (slots : List Slot) (vs : List Value) (i : ℕ) →
    i < length tys →
    length slots ≤ i →
    typed_on vs (all_typed classes (drop i tys) (drop i slots)) ≡ None
typed-short classes tys slots vs i low high =
    let q = first-left tys i low in
    ap (typed_on vs) (ap₂ (all_typed classes) q.1 (drop_of_length-le slots high))

pub typed-none :
    (classes : List Class) (tys : List Ty) (slots : List Slot) (vs : List Value) (i : ℕ) (t : Ty) (s : Slot) →
    slice_get tys i ≡ Some t →
    slice_get slots i ≡ Some s →
    typed classes t s ≡ None →
    typed_on vs (all_typed classes (drop i tys) (drop i slots)) ≡ None
typed-none classes tys slots vs i t s h k none =
    typed-step classes tys slots vs i t s h k ∙ ap (λ o. typed_on vs (value_and_more o (all_typed classes (drop (i + 1) tys) (drop (i + 1) slots)))) none

pub typed-next :
    (classes : List Class) (tys : List Ty) (slots : List Slot) (vs ws : List Value) (i : ℕ) (t : Ty) (s : Slot) (v : Value) (all : Option (List Value)) →
    all ≡ typed_on vs (all_typed classes (drop i tys) (drop i slots)) →
    slice_get tys i ≡ Some t →
    slice_get slots i ≡ Some s →
    typed classes t s ≡ Some v →
    ws ≡ vs ++ v ∷ [] →
    all ≡ typed_on ws (all_typed classes (drop (i + 1) tys) (drop (i + 1) slots))
typed-next classes tys slots vs ws i t s v all is h k some more =
    let rest = all_typed classes (drop (i + 1) tys) (drop (i + 1) slots) in
    is ∙ (typed-step classes tys slots vs i t s h k
    ∙ (ap (λ o. typed_on vs (value_and_more o rest)) some ∙ (typed_on-more vs v rest ∙ ap (λ u. typed_on u rest) (sym more))))
