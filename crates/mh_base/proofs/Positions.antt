-- The first place of an item that passes a test, in a list with one more at its end.
use Rattle.std.proofs.Common.{◌≡◌, refl, sym, ap, ◌∙◌, suc, ℕ, ◌+◌, Bool, true, false, cond, List, [], ◌∷◌, ◌++◌, length, None, Some, position, arith}
use Rattle.std.proofs.lemmas.Iterator.Adapters.{position_from-zero}
use Rattle.std.specs.List.{position_from}
use Rattle.std.specs.Option.{option_or}

position_from-push : {A : Type 0} (f : A → Bool) (n : ℕ) (xs : List A) (y : A) → position_from f n (xs ++ y ∷ []) ≡ option_or (position_from f n xs)
    (cond (f y) (Some (n + length xs)) None)
position_from-push f n [] y = ap (λ k. cond (f y) (Some k) None) (omega arith)
position_from-push f n (x ∷ xs) y =
    let later : position_from f (n + 1) (xs ++ y ∷ []) ≡ option_or (position_from f (n + 1) xs) (cond (f y) (Some (n + suc (length xs))) None) =
    position_from-push f (n + 1) xs y ∙ ap (λ k. option_or (position_from f (n + 1) xs) (cond (f y) (Some k) None)) (omega arith) in
    elim (f x) as (λ b. cond b (Some n) (position_from f (n + 1) (xs ++ y ∷ [])) ≡ option_or (cond b (Some n) (position_from f (n + 1) xs))
    (cond (f y) (Some (n + suc (length xs))) None)) [
      | true ↦ refl
      | false ↦ later
    ]

pub position-push : {A : Type 0} (f : A → Bool) (xs : List A) (y : A) →
    position f (xs ++ y ∷ []) ≡ option_or (position f xs) (cond (f y) (Some (length xs)) None)
position-push f xs y =
    position_from-zero f (xs ++ y ∷ []) ∙ position_from-push f 0 xs y
    ∙ ap (λ o. option_or o (cond (f y) (Some (0 + length xs)) None)) (sym (position_from-zero f xs))
    ∙ ap (λ k. option_or (position f xs) (cond (f y) (Some k) None)) (omega arith)
