-- The slots of the run under way, above those of the runs that wait.
use Rattle.std.proofs.Common.{◌≡◌, ◌≤◌, ◌-◌, refl, sym, ◌∙◌, ap, ap₂, ℕ, zero, suc, ◌+◌, List, [], ◌∷◌, ◌++◌, append_assoc, take, drop, length, length-append, arith}
use Rattle.std.specs.List.{insert}
use Rattle.std.proofs.Math.Seq.{drop-append_seam, take-add, take-append_seam}
use Rattle.std.proofs.lemmas.List.{drop-take, length-take-le}
use Rattle.mh_form.specs.declared.slot.Slot.{Slot}

-- slots cut off after the first ones of a run leave those below it
pub kept-below : (b k : ℕ) (xs : List Slot) → b ≤ length xs → take b (take (b + k) xs) ≡ take b xs
kept-below b k xs low =
    let e : length (take b xs) ≡ b = length-take-le b xs low in
    let q = take k (drop b xs) in
    ap (take b) (take-add b k xs) ∙ (ap (λ j. take j (take b xs ++ q)) (sym e) ∙ take-append_seam (take b xs) q)

-- and the first ones
pub kept-frame : (b k : ℕ) (xs : List Slot) → drop b (take (b + k) xs) ≡ take k (drop b xs)
kept-frame b k xs = drop-take b k xs

-- a slot put in before those of a run leaves those below it
pub put-below : (b : ℕ) (xs : List Slot) (s : Slot) → b ≤ length xs → take b (insert xs b s) ≡ take b xs
put-below b xs s low =
    let e : length (take b xs) ≡ b = length-take-le b xs low in
    let q = s ∷ drop b xs in
    ap (λ j. take j (take b xs ++ q)) (sym e) ∙ take-append_seam (take b xs) q

-- and stands before them
pub put-frame : (b : ℕ) (xs : List Slot) (s : Slot) → b ≤ length xs → drop b (insert xs b s) ≡ s ∷ drop b xs
put-frame b xs s low =
    let e : length (take b xs) ≡ b = length-take-le b xs low in
    let q = s ∷ drop b xs in
    ap (λ j. drop j (take b xs ++ q)) (sym e) ∙ drop-append_seam (take b xs) q

-- the slots of the run that waits are the last of those below
pub left-frame : (B F X : List Slot) (count : ℕ) → X ≡ B ++ F → count ≡ length F → drop (length X - count) X ≡ F
left-frame B F X count h k =
    let e : length (B ++ F) - length F ≡ length B = omega (arith, length-append B F) in
    rw (h, k) (ap (λ j. drop j (B ++ F)) e ∙ drop-append_seam B F)

-- and those before them stay below
pub left-below : (B F X : List Slot) (count : ℕ) → X ≡ B ++ F → count ≡ length F → take (length X - count) X ≡ B
left-below B F X count h k =
    let e : length (B ++ F) - length F ≡ length B = omega (arith, length-append B F) in
    rw (h, k) (ap (λ j. take j (B ++ F)) e ∙ take-append_seam B F)

-- of the first so many slots, as many as are kept: these, if they are fewer
pub kept-fewer : (kept own : ℕ) (F : List Slot) → kept ≤ own → take kept F ≡ take kept (take own F)
kept-fewer zero own F low = refl
kept-fewer (suc kept) zero F low = absurd (omega arith)
kept-fewer (suc kept) (suc own) [] low = refl
kept-fewer (suc kept) (suc own) (x ∷ F) low = ap (λ q. x ∷ q) (kept-fewer kept own F (omega arith))

-- otherwise all of them
pub kept-all : (kept own : ℕ) (F : List Slot) → own ≤ kept → take own F ≡ take kept (take own F)
kept-all zero zero F low = refl
kept-all (suc kept) zero F low = refl
kept-all zero (suc own) F low = absurd (omega arith)
kept-all (suc kept) (suc own) [] low = refl
kept-all (suc kept) (suc own) (x ∷ F) low = ap (λ q. x ∷ q) (kept-all kept own F (omega arith))

-- a run that waits below what was put after its slots
pub entered-below : (F X : List Slot) (own : ℕ) → own ≡ length F → take own (F ++ X) ≡ F
entered-below F X own is = ap (λ j. take j (F ++ X)) is ∙ take-append_seam F X

pub entered-frame : (F X : List Slot) (own : ℕ) → own ≡ length F → drop own (F ++ X) ≡ X
entered-frame F X own is = ap (λ j. drop j (F ++ X)) is ∙ drop-append_seam F X

-- what a turn takes, put after the slots of the run that waits: perhaps a slot, then the number, then copies of the first slots
turn-put :
    (F G : List Slot) (x : Slot) (own kept : ℕ) → own ≡ length F →
    ((F ++ G) ++ x ∷ []) ++ take kept (take own ((F ++ G) ++ x ∷ [])) ≡ F ++ (G ++ (x ∷ take kept F))
turn-put F G x own kept is =
    let whole : (F ++ G) ++ x ∷ [] ≡ F ++ (G ++ x ∷ []) = append_assoc F G (x ∷ []) in
    let own_slots : take own ((F ++ G) ++ x ∷ []) ≡ F = ap (take own) whole ∙ entered-below F (G ++ x ∷ []) own is in
    ap₂ (λ (a b : List Slot). a ++ take kept b) whole own_slots
    ∙ (append_assoc F (G ++ x ∷ []) (take kept F) ∙ ap (λ q. F ++ q) (append_assoc G (x ∷ []) (take kept F)))

pub turn-below :
    (F G : List Slot) (x : Slot) (own kept : ℕ) → own ≡ length F →
    take own (((F ++ G) ++ x ∷ []) ++ take kept (take own ((F ++ G) ++ x ∷ []))) ≡ F
turn-below F G x own kept is = ap (take own) (turn-put F G x own kept is) ∙ entered-below F (G ++ (x ∷ take kept F)) own is

pub turn-frame :
    (F G : List Slot) (x : Slot) (own kept : ℕ) → own ≡ length F →
    drop own (((F ++ G) ++ x ∷ []) ++ take kept (take own ((F ++ G) ++ x ∷ []))) ≡ G ++ (x ∷ take kept F)
turn-frame F G x own kept is = ap (drop own) (turn-put F G x own kept is) ∙ entered-frame F (G ++ (x ∷ take kept F)) own is
