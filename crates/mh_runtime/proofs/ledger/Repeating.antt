-- What calls one after the other tell.
use Rattle.std.proofs.Common.{◌≡◌, sym, ◌∙◌, ap, ap₂, map, ℕ, ◌+◌, ◌<◌, List, [], ◌∷◌, ◌++◌, take, get_or, length}
use Rattle.std.proofs.lemmas.List.{map-append, map_more}

-- items that tell the same as others, and one more
pub reported-next : {X Y Z : Type 0} (f : X → Z) (g : Y → Z) (xs : List X) (i : ℕ) (x : X) (ys ys' : List Y) (y : Y) → i < length xs → x ≡ get_or xs i x →
    ys' ≡ ys ++ y ∷ [] → map g ys ≡ map f (take i xs) → g y ≡ f x → map g ys' ≡ map f (take (i + 1) xs)
reported-next f g xs i x ys ys' y within is pushed before reported =
    ap (map g) pushed
    ∙ (map-append g ys (y ∷ []) ∙ (ap₂ (λ zs z. zs ++ z ∷ []) before (reported ∙ ap f is) ∙ sym (map_more f xs i x within)))
