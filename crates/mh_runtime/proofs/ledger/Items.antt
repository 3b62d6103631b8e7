-- What is made of the items of a list, one after the other.
use Rattle.std.proofs.Common.{◌≡◌, sym, ◌∙◌, ap, ℕ, ◌+◌, ◌<◌, ◌≤◌, List, [], ◌∷◌, ◌++◌, append-nil, length, take, drop, get_or, arith}
use Rattle.std.specs.List.{flat_map}
use Rattle.std.proofs.lemmas.Grind.{flat_map-append}
use Rattle.std.proofs.lemmas.List.{take-append-drop, take_all, take_more}

module _ {X Y : Type 0} (f : X → List Y) where
  -- one item more
  pub flat-next : (xs : List X) (i : ℕ) (x : X) → i < length xs → x ≡ get_or xs i x → flat_map f (take (i + 1) xs) ≡ flat_map f (take i xs) ++ f x
  flat-next xs i x within is =
      ap (flat_map f) (take_more xs i x within)
      ∙ (flat_map-append f (take i xs) (get_or xs i x ∷ []) ∙ ap (λ ys. flat_map f (take i xs) ++ ys) (append-nil (f (get_or xs i x)) ∙ ap f (sym is)))

  -- one item more, and all after it
  pub flat-whole : (xs : List X) (i : ℕ) (x : X) → i < length xs → x ≡ get_or xs i x →
      flat_map f xs ≡ (flat_map f (take i xs) ++ f x) ++ flat_map f (drop (i + 1) xs)
  flat-whole xs i x within is =
      ap (flat_map f) (sym (take-append-drop (i + 1) xs))
      ∙ (flat_map-append f (take (i + 1) xs) (drop (i + 1) xs) ∙ ap (λ ys. ys ++ flat_map f (drop (i + 1) xs)) (flat-next xs i x within is))

  -- all items
  pub flat-all : (xs ys : List X) (i : ℕ) → length xs ≤ i → xs ≡ ys → flat_map f (take i xs) ≡ flat_map f ys
  flat-all xs ys i whole same = ap (flat_map f) (take_all i xs whole ∙ same)

  -- the items up to one, where nothing comes after
  pub flat-begun : (xs ys : List X) (i n : ℕ) (x : X) → i < length xs → x ≡ get_or xs i x → xs ≡ ys → n ≡ i →
      (flat_map f (take i xs) ++ f x) ++ [] ≡ flat_map f (take (n + 1) ys)
  flat-begun xs ys i n x within is same here =
      append-nil (flat_map f (take i xs) ++ f x)
      ∙ (sym (flat-next xs i x within is) ∙ (ap (λ zs. flat_map f (take (i + 1) zs)) same ∙ sym (ap (λ k. flat_map f (take (k + 1) ys)) here)))

  -- all items, and one more place
  pub flat-ended : (xs ys : List X) (i n : ℕ) → length xs ≤ i → xs ≡ ys → n ≡ i → flat_map f (take i xs) ≡ flat_map f (take (n + 1) ys)
  flat-ended xs ys i n whole same here =
      flat-all xs ys i whole same
      ∙ sym (ap (flat_map f) (take_all (n + 1) ys (let long : length xs ≡ length ys = ap length same in omega (arith, whole, here, long))))

  -- the first items, and those after them
  pub flat-parts : (xs : List X) (k : ℕ) → flat_map f (take k xs) ++ flat_map f (drop k xs) ≡ flat_map f xs
  flat-parts xs k = sym (ap (flat_map f) (sym (take-append-drop k xs)) ∙ flat_map-append f (take k xs) (drop k xs))
