-- A text at whose end pieces were put, one after the other.
use Rattle.std.proofs.Common.{◌≡◌, refl, sym, ◌∙◌, ap, ℕ, ◌+◌, ◌<◌, List, [], ◌∷◌, ◌++◌, append_assoc, append-nil, flat_map, get_or, length, take}
use Rattle.std.proofs.lemmas.List.{take_more}
use Rattle.std.proofs.lemmas.List.Concat.{flat_map-append}

pub two : (o n1 n2 a b : List ℕ) → n1 ≡ o ++ a → n2 ≡ n1 ++ b → n2 ≡ o ++ (a ++ b)
two o n1 n2 a b h1 h2 = rw (h2, h1) (simp append_assoc refl)

pub four : (o n1 n2 n3 n4 a b c d : List ℕ) → n1 ≡ o ++ a → n2 ≡ n1 ++ b → n3 ≡ n2 ++ c → n4 ≡ n3 ++ d → n4 ≡ o ++ (a ++ b ++ c ++ d)
four o n1 n2 n3 n4 a b c d h1 h2 h3 h4 = rw (h4, h3, h2, h1) (simp append_assoc refl)

pub five : (o n1 n2 n3 n4 n5 a b c d e : List ℕ) → n1 ≡ o ++ a → n2 ≡ n1 ++ b → n3 ≡ n2 ++ c → n4 ≡ n3 ++ d → n5 ≡ n4 ++ e →
    n5 ≡ o ++ (a ++ b ++ c ++ d ++ e)
five o n1 n2 n3 n4 n5 a b c d e h1 h2 h3 h4 h5 = rw (h5, h4, h3, h2, h1) (simp append_assoc refl)

pub seven : (o n1 n2 n3 n4 n5 n6 n7 a b c d e f g : List ℕ) → n1 ≡ o ++ a → n2 ≡ n1 ++ b → n3 ≡ n2 ++ c → n4 ≡ n3 ++ d → n5 ≡ n4 ++ e →
    n6 ≡ n5 ++ f → n7 ≡ n6 ++ g → n7 ≡ o ++ (a ++ b ++ c ++ d ++ e ++ f ++ g)
seven o n1 n2 n3 n4 n5 n6 n7 a b c d e f g h1 h2 h3 h4 h5 h6 h7 = rw (h7, h6, h5, h4, h3, h2, h1) (simp append_assoc refl)

-- the text of one more item of a list
pub more : {X : Type 0} (f : X → List ℕ) (xs : List X) (i : ℕ) (x : X) (start old new : List ℕ) → i < length xs → x ≡ get_or xs i x →
    old ≡ start ++ flat_map f (take i xs) → new ≡ old ++ f x → new ≡ start ++ flat_map f (take (i + 1) xs)
more f xs i x start old new within is before after =
    let whole : take (i + 1) xs ≡ take i xs ++ x ∷ [] = take_more xs i x within ∙ ap (λ y. take i xs ++ y ∷ []) (sym is) in
    after ∙ ap (λ t. t ++ f x) before ∙ append_assoc start (flat_map f (take i xs)) (f x)
    ∙ ap (λ t. start ++ t)
    (ap (λ t. flat_map f (take i xs) ++ t) (sym (append-nil (f x))) ∙ sym (flat_map-append f (take i xs) (x ∷ [])) ∙ ap (flat_map f) (sym whole))
