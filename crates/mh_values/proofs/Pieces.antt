-- A text of types, cut type by type.
use Rattle.std.proofs.Common.{◌≡◌, refl, sym, ap, ◌∙◌, ℕ, ◌+◌, ◌-◌, ◌<◌, ◌≤◌, ◌==◌, Bool, true, false, ◌||◌, if◌then◌else◌, List, [], ◌∷◌, ◌++◌, length, take, drop, get_or, append_assoc, arith, length-drop, length-take}
use Rattle.std.proofs.lemmas.List.{append-nil, take_more, drop_more, drop_all, get_or-drop}
use Rattle.mh_values.specs.Descriptor.{pieces, ends_type, longer}

-- bytes before the first piece
abbrev pub within : List ℕ → List (List ℕ) → List (List ℕ)
within [] ps = ps
within (b ∷ bs) ps = longer b (within bs ps)

within-more : (front : List ℕ) (b : ℕ) (ps : List (List ℕ)) → within (front ++ b ∷ []) ps ≡ within front (longer b ps)
within-more [] b ps = refl
within-more (x ∷ front) b ps = ap (longer x) (within-more front b ps)

within-ends : (front : List ℕ) (b : ℕ) (ps : List (List ℕ)) → within front ((b ∷ []) ∷ ps) ≡ (front ++ b ∷ []) ∷ ps
within-ends [] b ps = refl
within-ends (x ∷ front) b ps = ap (longer x) (within-ends front b ps)

within-last : (front : List ℕ) → 0 < length front → within front [] ≡ front ∷ []
within-last [] some = absurd (omega (arith, some))
within-last (x ∷ []) some = refl
within-last (x ∷ y ∷ front) some = ap (longer x) (within-last (y ∷ front) (omega arith))

-- the piece from a place on grows by the byte at the next place
piece-grows : (bytes : List ℕ) (start at : ℕ) → start ≤ at → at < length bytes → take (at + 1 - start) (drop start bytes) ≡ take (at - start) (drop start bytes)
    ++ get_or bytes at 0 ∷ []
piece-grows bytes start at ordered in_range =
    let room : at - start < length (drop start bytes) = omega (arith, length-drop start bytes) in
    let more : at + 1 - start ≡ at - start + 1 = omega arith in
    let place : start + (at - start) ≡ at = omega arith in
    ap (λ n. take n (drop start bytes)) more
    ∙ take_more (drop start bytes) (at - start) 0 room
    ∙ ap (λ b. take (at - start) (drop start bytes) ++ b ∷ []) (get_or-drop start bytes (at - start) 0 ∙ ap (λ n. get_or bytes n 0) place)

next_byte : (bytes : List ℕ) (at : ℕ) → at < length bytes → drop at bytes ≡ get_or bytes at 0 ∷ drop (at + 1) bytes
next_byte bytes at in_range = drop_more bytes at 0 in_range

-- a byte that ends a type
pub cut-ends : (bytes : List ℕ) (found : List (List ℕ)) (start at : ℕ) (in_name : Bool) → start ≤ at → at < length bytes →
    pieces false bytes ≡ found ++ within (take (at - start) (drop start bytes)) (pieces in_name (drop at bytes)) → ends_type in_name (get_or bytes at 0) ≡ true
    → pieces false bytes ≡ (found ++ take (at + 1 - start) (drop start bytes) ∷ []) ++ within (take (at + 1 - (at + 1)) (drop (at + 1) bytes))
    (pieces false (drop (at + 1) bytes))
cut-ends bytes found start at in_name ordered in_range so_far ends =
    let front = take (at - start) (drop start bytes) in
    let b = get_or bytes at 0 in
    let rest = drop (at + 1) bytes in
    let cut : pieces in_name (drop at bytes) ≡ (b ∷ []) ∷ pieces false rest =
    ap (pieces in_name) (next_byte bytes at in_range) ∙ ap (λ t. if t then (b ∷ []) ∷ pieces false rest else longer b (pieces (in_name || b == 76) rest)) ends
    in
    let whole : within front (pieces in_name (drop at bytes)) ≡ take (at + 1 - start) (drop start bytes) ∷ pieces false rest =
    ap (within front) cut ∙ within-ends front b (pieces false rest) ∙ ap (λ p. p ∷ pieces false rest) (sym (piece-grows bytes start at ordered in_range)) in
    let none : at + 1 - (at + 1) ≡ 0 = omega arith in
    so_far ∙ ap (λ ps. found ++ ps) whole ∙ sym (append_assoc found (take (at + 1 - start) (drop start bytes) ∷ []) (pieces false rest))
    ∙ ap (λ n. (found ++ take (at + 1 - start) (drop start bytes) ∷ []) ++ within (take n rest) (pieces false rest)) (sym none)

-- a byte that does not
pub cut-more : (bytes : List ℕ) (found : List (List ℕ)) (start at : ℕ) (in_name next : Bool) → start ≤ at → at < length bytes →
    pieces false bytes ≡ found ++ within (take (at - start) (drop start bytes)) (pieces in_name (drop at bytes)) → ends_type in_name (get_or bytes at 0) ≡ false
    → next ≡ (in_name || get_or bytes at 0 == 76) → pieces false bytes ≡ found ++ within (take (at + 1 - start) (drop start bytes))
    (pieces next (drop (at + 1) bytes))
cut-more bytes found start at in_name next ordered in_range so_far goes turned =
    let front = take (at - start) (drop start bytes) in
    let b = get_or bytes at 0 in
    let rest = drop (at + 1) bytes in
    let cut : pieces in_name (drop at bytes) ≡ longer b (pieces next rest) =
    ap (pieces in_name) (next_byte bytes at in_range)
    ∙ ap (λ t. if t then (b ∷ []) ∷ pieces false rest else longer b (pieces (in_name || b == 76) rest)) goes
    ∙ ap (λ t. longer b (pieces t rest)) (sym turned) in
    so_far ∙ ap (λ ps. found ++ within front ps) cut
    ∙ ap (λ ps. found ++ ps) (sym (within-more front b (pieces next rest)) ∙ ap (λ p. within p (pieces next rest))
    (sym (piece-grows bytes start at ordered in_range)))

-- the end of the text, in a piece or after the last one
pub cut-last : (bytes : List ℕ) (found : List (List ℕ)) (start at : ℕ) (in_name : Bool) → start < at → at ≡ length bytes →
    pieces false bytes ≡ found ++ within (take (at - start) (drop start bytes)) (pieces in_name (drop at bytes)) →
    pieces false bytes ≡ found ++ take (at - start) (drop start bytes) ∷ []
cut-last bytes found start at in_name some ends so_far =
    let none : drop at bytes ≡ [] = drop_all at bytes (omega arith) in
    let long : 0 < length (take (at - start) (drop start bytes)) = omega (arith, length-take (at - start) (drop start bytes), length-drop start bytes) in
    so_far ∙ ap (λ t. found ++ within (take (at - start) (drop start bytes)) (pieces in_name t)) none ∙
    ap (λ ps. found ++ ps) (within-last (take (at - start) (drop start bytes)) long)

pub cut-none : (bytes : List ℕ) (found : List (List ℕ)) (start at : ℕ) (in_name : Bool) → start ≡ at → at ≡ length bytes →
    pieces false bytes ≡ found ++ within (take (at - start) (drop start bytes)) (pieces in_name (drop at bytes)) → pieces false bytes ≡ found
cut-none bytes found start at in_name some ends so_far =
    let none : drop at bytes ≡ [] = drop_all at bytes (omega arith) in
    let zero_long : at - start ≡ 0 = omega arith in
    so_far ∙ ap (λ t. found ++ within (take (at - start) (drop start bytes)) (pieces in_name t)) none ∙ ap (λ n. found ++ within (take n (drop start bytes)) [])
    zero_long ∙ append-nil found
