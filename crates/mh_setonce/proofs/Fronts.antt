-- Lists that begin with others.
use Rattle.std.proofs.Common.{◌≡◌, ℕ, ◌≤◌, List, [], ◌∷◌, ◌++◌, length, take, drop, sym, ap, ◌∙◌, append_assoc, append-nil, take-append-drop, Some}
use Rattle.std.specs.Prelude.{slice_get}
use Rattle.std.proofs.lemmas.Option.{slice_get_within}
use Rattle.std.proofs.Math.Seq.{take-length}
use Rattle.std.proofs.Math.Nat.{min-eq_left, min-eq_right}
use Rattle.mh_base.proofs.Slices.{slice_get-front}
use Rattle.mh_setonce.specs.Walks.{StartsWith, Meet}
use Rattle.mh_setonce.specs.Rows.{Share}

module _ {A : Type 0} where
  pub starts-same : (xs : List A) → StartsWith xs xs
  starts-same xs = ([], sym (append-nil xs))

  pub starts-trans : (xs ys zs : List A) → StartsWith xs ys → StartsWith ys zs → StartsWith xs zs
  starts-trans xs ys zs a b = (b.0 ++ a.0, a.1 ∙ (ap (λ v. v ++ a.0) b.1 ∙ append_assoc zs b.0 a.0))

  -- an item of the front
  pub starts-at : (xs ys : List A) (i : ℕ) (y : A) → StartsWith xs ys → slice_get ys i ≡ Some y → slice_get xs i ≡ Some y
  starts-at xs ys i y a at = ap (λ v. slice_get v i) a.1 ∙ (slice_get-front ys a.0 i (slice_get_within ys i y at) ∙ at)

  -- the front and the next item
  pub starts-push : (xs ys : List A) (y : A) → StartsWith xs ys → slice_get xs (length ys) ≡ Some y → StartsWith xs (ys ++ y ∷ [])
  starts-push xs [] y a at = first xs at
    where
      first : (zs : List A) → slice_get zs 0 ≡ Some y → StartsWith zs (y ∷ [])
      first [] e = cc
      first (z ∷ zs) e = let same : z ≡ y = cc in (zs, ap (λ v. v ∷ zs) same)
  starts-push [] (z ∷ ys) y a at = cc
  starts-push (x ∷ xs) (z ∷ ys) y a at =
      let rest : xs ≡ ys ++ a.0 = cc in
      let head : x ≡ z = cc in
      let more = starts-push xs ys y (a.0, rest) at in
      (more.0, ap (λ v. v ∷ xs) head ∙ ap (λ v. z ∷ v) more.1)

  -- of two lists that agree as far as both go, one begins with the other
  pub meet-starts : (xs ys : List A) (n : ℕ) → Meet xs ys n → length xs ≤ length ys → StartsWith ys xs
  meet-starts xs ys n m le =
      let count : n ≡ length xs = m.0 ∙ min-eq_left le in
      let all : xs ≡ take n ys = sym (take-length xs) ∙ (ap (λ k. take k xs) (sym count) ∙ m.1) in
      (drop n ys, sym (take-append-drop n ys) ∙ ap (λ v. v ++ drop n ys) (sym all))

  pub meet-turned : (xs ys : List A) (n : ℕ) → Meet xs ys n → length ys ≤ length xs → StartsWith xs ys
  meet-turned xs ys n m le =
      let count : n ≡ length ys = m.0 ∙ min-eq_right le in
      let all : ys ≡ take n xs = sym (take-length ys) ∙ (ap (λ k. take k ys) (sym count) ∙ sym m.1) in
      (drop n xs, sym (take-append-drop n xs) ∙ ap (λ v. v ++ drop n xs) (sym all))

-- cells that are shared are the same at each place
pub share-at : (a b : List ℕ) (i x y : ℕ) → Share a b → slice_get a i ≡ Some x → slice_get b i ≡ Some y → x ≡ y
share-at a b i x y s p q = let e : Some x ≡ Some y = sym (starts-at s.0 a i x s.1 p) ∙ starts-at s.0 b i y s.2 q in cc
