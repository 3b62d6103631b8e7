-- So many of one format, one after the other.
use Rattle.std.proofs.Common.{ℕ, ◌+◌, List, [], ◌∷◌, ◌++◌, length, map, refl, sym, subst, append_assoc}
use Rattle.std.proofs.lemmas.List.{append-nil}
use Rattle.std.specs.List.{AllByRecursion, flat_map}
use Rattle.mh_class_bytes.specs.Format.{Format, Spells, repeated, listed}

-- So many of one format are spelled, one after the other.
pub times_spelled : {K X A : Type 0} (one : Format K A) (bytes : X → List ℕ) (value : X → A) (xs : List X) (so_far : List A) (at : ℕ) →
    AllByRecursion (λ x. (place : ℕ) → Spells one place (bytes x) (value x)) xs
    → Spells (repeated (listed one) (length xs) so_far) at (flat_map bytes xs) (so_far ++ map value xs)
unfolding repeated
times_spelled one bytes value [] so_far at all = (refl, append-nil so_far)
times_spelled {A = A} one bytes value (x ∷ xs) so_far at all =
    let next = so_far ++ value x ∷ [] in (
      next,
      bytes x,
      flat_map bytes xs,
      refl,
      (value x, bytes x, [], sym (append-nil (bytes x)), all.0 at, (refl, refl)),
      subst (λ (ys : List A). Spells (repeated (listed one) (length xs) next) (at + length (bytes x)) (flat_map bytes xs) ys)
          (append_assoc so_far (value x ∷ []) (map value xs))
          (times_spelled one bytes value xs next (at + length (bytes x)) all.1),
    )
