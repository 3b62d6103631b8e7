-- Picking slots one after another, while slots are put at the end.
use Rattle.std.proofs.Common.{◌≡◌, ◌≢◌, refl, sym, ◌∙◌, ap, ℕ, zero, suc, ◌+◌, ◌<◌, List, [], ◌∷◌, ◌++◌, Option, Some, None, drop, length, get_or, drop-cons, append_assoc, arith}
use Rattle.std.specs.Prelude.{slice_get}
use Rattle.std.proofs.Math.Seq.{drop-append_seam}
use Rattle.mh_form.specs.declared.slot.Slot.{Slot}
use Rattle.mh_form.specs.Run.{picked, picked_more}

-- these slots, and then what is picked
abbrev pub picked_on : List Slot → Option (List Slot) → Option (List Slot)
picked_on xs None = None
picked_on xs (Some ys) = Some (xs ++ ys)

-- where nothing stands at the next place, nothing is picked
pub picked-none :
    (slots : List Slot) (ps : List ℕ) (i : ℕ) (xs : List Slot) →
    i < length ps →
    slice_get slots (get_or ps i 0) ≡ None →
    picked_on xs (picked slots (drop i ps)) ≡ None
picked-none slots ps i xs low none =
    ap (λ q. picked_on xs (picked slots q)) (drop-cons ps i 0 low) ∙ ap (λ o. picked_on xs (picked_more o (picked slots (drop (suc i) ps)))) none

-- what stands in a front part stands at its place in the whole
get-front : (xs ys : List Slot) (p : ℕ) (s : Slot) → slice_get xs p ≡ Some s → slice_get (xs ++ ys) p ≡ Some s
get-front [] ys zero s h = absurd cc
get-front [] ys (suc p) s h = absurd cc
get-front (x ∷ xs) ys zero s h = h
get-front (x ∷ xs) ys (suc p) s h = get-front xs ys p s h

-- one place more
picked-next :
    (F xs : List Slot) (ps : List ℕ) (i : ℕ) (s : Slot) →
    i < length ps →
    picked_on xs (picked F (drop i ps)) ≢ None →
    slice_get (F ++ xs) (get_or ps i 0) ≡ Some s →
    picked_on xs (picked F (drop i ps)) ≡ picked_on (xs ++ s ∷ []) (picked F (drop (suc i) ps))
picked-next F xs ps i s low there g =
    let e = ap (λ q. picked_on xs (picked F q)) (drop-cons ps i 0 low) in
    e ∙ next F xs (drop (suc i) ps) (get_or ps i 0) (slice_get F (get_or ps i 0)) s refl (λ h. there (e ∙ h)) g
  where
    on : (xs : List Slot) (s : Slot) (o : Option (List Slot)) → picked_on xs (picked_more (Some s) o) ≡ picked_on (xs ++ s ∷ []) o
    on xs s None = refl
    on xs s (Some ss) = ap Some (sym (append_assoc xs (s ∷ []) ss))

    next :
        (F xs : List Slot) (ps : List ℕ) (p : ℕ) (o : Option Slot) (s : Slot) →
        slice_get F p ≡ o →
        picked_on xs (picked_more o (picked F ps)) ≢ None →
        slice_get (F ++ xs) p ≡ Some s →
        picked_on xs (picked_more o (picked F ps)) ≡ picked_on (xs ++ s ∷ []) (picked F ps)
    next F xs ps p None s f there g = absurd (there refl)
    next F xs ps p (Some t) s f there g =
        let e : Some t ≡ Some s = sym (get-front F xs p t f) ∙ g in
        ap (λ o. picked_on xs (picked_more o (picked F ps))) e ∙ on xs s (picked F ps)

-- the slots that were put at the end, one more
rest-next : (F G : List Slot) (s : Slot) → F ++ drop (length F) G ≡ G → drop (length F) (G ++ s ∷ []) ≡ drop (length F) G ++ s ∷ []
rest-next F G s whole =
    let e : G ++ s ∷ [] ≡ F ++ (drop (length F) G ++ s ∷ []) = ap (λ g. g ++ s ∷ []) (sym whole) ∙ append_assoc F (drop (length F) G) (s ∷ []) in
    ap (drop (length F)) e ∙ drop-append_seam F (drop (length F) G ++ s ∷ [])

pub whole-next : (F G : List Slot) (s : Slot) → F ++ drop (length F) G ≡ G → F ++ drop (length F) (G ++ s ∷ []) ≡ G ++ s ∷ []
whole-next F G s whole =
    ap (λ g. F ++ g) (rest-next F G s whole) ∙ (sym (append_assoc F (drop (length F) G) (s ∷ [])) ∙ ap (λ g. g ++ s ∷ []) whole)

-- the copies so far, one more
pub copies-next :
    (F G : List Slot) (all : Option (List Slot)) (ps : List ℕ) (i : ℕ) (s : Slot) →
    i < length ps →
    F ++ drop (length F) G ≡ G →
    all ≡ picked_on (drop (length F) G) (picked F (drop i ps)) →
    all ≢ None →
    slice_get G (get_or ps i 0) ≡ Some s →
    all ≡ picked_on (drop (length F) (G ++ s ∷ [])) (picked F (drop (i + 1) ps))
copies-next F G all ps i s low whole so_far there g =
    let next : suc i ≡ i + 1 = omega arith in
    so_far
    ∙ (picked-next F (drop (length F) G) ps i s low (λ h. there (so_far ∙ h)) (ap (λ q. slice_get q (get_or ps i 0)) whole ∙ g)
    ∙ (ap (λ xs. picked_on xs (picked F (drop (suc i) ps))) (sym (rest-next F G s whole))
    ∙ ap (λ k. picked_on (drop (length F) (G ++ s ∷ [])) (picked F (drop k ps))) next))

-- where nothing stands at the next place, nothing is picked, also while copies are put at the end
pub copies-none :
    (F G : List Slot) (all : Option (List Slot)) (ps : List ℕ) (i : ℕ) →
    i < length ps →
    F ++ drop (length F) G ≡ G →
    all ≡ picked_on (drop (length F) G) (picked F (drop i ps)) →
    slice_get G (get_or ps i 0) ≡ None →
    all ≡ None
copies-none F G all ps i low whole so_far g =
    so_far ∙ picked-none F ps i (drop (length F) G) low
    (none F (drop (length F) G) (get_or ps i 0) (slice_get F (get_or ps i 0)) refl (ap (λ q. slice_get q (get_or ps i 0)) whole ∙ g))
  where
    none : (F xs : List Slot) (p : ℕ) (o : Option Slot) → slice_get F p ≡ o → slice_get (F ++ xs) p ≡ None → slice_get F p ≡ None
    none F xs p None f g = f
    none F xs p (Some t) f g = let e : Some t ≡ None = sym (get-front F xs p t f) ∙ g in absurd cc
