-- The last two of several texts.
use Rattle.std.proofs.Common.{◌≡◌, refl, ap, ◌∙◌, ℕ, suc, ◌+◌, ◌-◌, List, [], ◌∷◌, ◌++◌, length, take, Some, slice_get, unwrap_or, arith, length-append}
use Rattle.std.proofs.Math.Seq.{take-append_seam}
use Rattle.mh_values.specs.Descriptor.{last_of}

pub all_but_two : (xs : List (List ℕ)) (a b : List ℕ) → take (length (xs ++ a ∷ b ∷ []) - 2) (xs ++ a ∷ b ∷ []) ≡ xs
all_but_two xs a b =
    let long : length (xs ++ a ∷ b ∷ []) - 2 ≡ length xs = omega (arith, length-append xs (a ∷ b ∷ [])) in
    ap (λ n. take n (xs ++ a ∷ b ∷ [])) long ∙ take-append_seam xs (a ∷ b ∷ [])

get_last : (xs : List (List ℕ)) (a b : List ℕ) → slice_get (xs ++ a ∷ b ∷ []) (length xs + 1) ≡ Some b
get_last [] a b = refl
get_last (x ∷ xs) a b =
    let e : suc (length xs) + 1 ≡ suc (length xs + 1) = omega arith in
    ap (λ n. slice_get (x ∷ (xs ++ a ∷ b ∷ [])) n) e ∙ get_last xs a b

pub the_last : (xs : List (List ℕ)) (a b : List ℕ) → last_of (xs ++ a ∷ b ∷ []) ≡ b
the_last xs a b =
    let at : length (xs ++ a ∷ b ∷ []) - 1 ≡ length xs + 1 = omega (arith, length-append xs (a ∷ b ∷ [])) in
    ap (λ n. unwrap_or (slice_get (xs ++ a ∷ b ∷ []) n) []) at ∙ ap (λ o. unwrap_or o []) (get_last xs a b)
