-- Lists of different lengths do not agree place by place.
use Rattle.std.proofs.Common.{◌≡◌, refl, ap, ◌∙◌, suc, false, ◌&&◌, ℕ, List, [], ◌∷◌, length, Some}
use Rattle.std.specs.Prelude.{slice_get}
use Rattle.std.proofs.lemmas.Bool.{and_right}
use Rattle.mh_values.specs.declared.class.Class.{Class}
use Rattle.mh_values.specs.declared.types.Ty.{Ty}
use Rattle.mh_values.specs.Same.{is_same_return}
use Rattle.mh_convert.specs.declared.conv.Rules.{Rules}
use Rattle.mh_convert.specs.Conversion.{can}
use Rattle.mh_tree.specs.Rows.{can_all, names_types}

pub can_all-lengths : (by : Rules) (classes : List Class) (ss ts : List Ty) → (length ss ≡ length ts → ⊥) → can_all by classes ss ts ≡ false
can_all-lengths by classes [] [] h = absurd (h refl)
can_all-lengths by classes [] (t ∷ ts) h = refl
can_all-lengths by classes (s ∷ ss) [] h = refl
can_all-lengths by classes (s ∷ ss) (t ∷ ts) h = ap (λ b. can by classes s t && b) (can_all-lengths by classes ss ts (λ e. h (ap suc e))) ∙
    and_right (can by classes s t) false refl

pub names_types-lengths : (params : List Ty) (reorder : List ℕ) (types : List Ty) → (length reorder ≡ length types → ⊥) →
    names_types params reorder types ≡ false
names_types-lengths params [] [] h = absurd (h refl)
names_types-lengths params [] (t ∷ ts) h = refl
names_types-lengths params (i ∷ is) [] h = refl
names_types-lengths params (i ∷ is) (t ∷ ts) h =
    ap (λ b. is_same_return (slice_get params i) (Some t) && b) (names_types-lengths params is ts (λ e. h (ap suc e)))
    ∙ and_right (is_same_return (slice_get params i) (Some t)) false refl
