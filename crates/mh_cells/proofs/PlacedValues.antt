-- Values that were learnt of cells, with the names of the cells.
use Rattle.std.proofs.Common.{◌≡◌, ◌≢◌, refl, sym, ap, ◌∙◌, subst, ℕ, zero, suc, List, ◌∷◌, length, set, replicate, Option, Some, None, ⊎_elim, get_or, arith}
use Rattle.std.specs.Prelude.{slice_get}
use Rattle.std.specs.Option.{option_flatten, option_map}
use native.Mathlib.Decide.{ℕ_discrete}
use Rattle.std.proofs.lemmas.List.{length-replicate, length-set}
use Rattle.std.proofs.lemmas.Option.{slice_get-get_or, slice_get-map, slice_get_within}
use Rattle.mh_setonce.specs.Learnings.{LearntView, node_of}
use Rattle.mh_setonce.proofs.Replaced.{set-either, set-here, set-there}
use Rattle.mh_cells.specs.Values.{IsValueAt, LearnsAt, value_at}
use Rattle.mh_cells.specs.Learning.{AreLearnt, values_of}

-- ---- a value at a place

pub flatten-map : {A B : Type 0} (f : A → B) (o : Option (Option A)) → option_flatten (option_map (option_map f) o) ≡ option_map f (option_flatten o)
flatten-map f None = refl
flatten-map f (Some o) = refl

value-of : {V : Type 0} (ls : List (Option (LearntView V))) (at : ℕ) → value_at (values_of ls) at ≡ option_map node_of (option_flatten (slice_get ls at))
value-of ls at = ap option_flatten (slice_get-map (option_map node_of) ls at) ∙ flatten-map node_of (slice_get ls at)

-- the value of what stands at the place
pub value-here : {V : Type 0} (ls : List (Option (LearntView V))) (at : ℕ) (o : Option (LearntView V)) → slice_get ls at ≡ Some o →
    value_at (values_of ls) at ≡ option_map node_of o
value-here ls at o here = value-of ls at ∙ ap (λ p. option_map node_of (option_flatten p)) here

-- what stands at the place of a value
pub learnt-at : {V : Type 0} (ls : List (Option (LearntView V))) (at : ℕ) (v : V) → value_at (values_of ls) at ≡ Some v →
    (l : LearntView V) × (slice_get ls at ≡ Some (Some l)) × (l.node ≡ v)
learnt-at {V} ls at v is = cases (slice_get ls at) refl
  where
    cases : (o : Option (Option (LearntView V))) → slice_get ls at ≡ o → (l : LearntView V) × (slice_get ls at ≡ Some (Some l)) × (l.node ≡ v)
    cases None e = let none : value_at (values_of ls) at ≡ None = value-of ls at ∙ ap (λ p. option_map node_of (option_flatten p)) e in absurd cc
    cases (Some None) e = let none : value_at (values_of ls) at ≡ None = value-here ls at None e in absurd cc
    cases (Some (Some l)) e = let here : value_at (values_of ls) at ≡ Some l.node = value-here ls at (Some l) e in (l, e, cc)

-- what stands at a place belongs there
pub finds-value : {V : Type 0} (key : V → ℕ) (cells : List ℕ) (ls : List (Option (LearntView V))) (at : ℕ) (l : LearntView V) → AreLearnt key cells ls →
    slice_get ls at ≡ Some (Some l) → IsValueAt key (values_of ls) at l.node
finds-value key cells ls at l are here = (value-here ls at (Some l) here, (are.noted at l here).1)

-- ---- nothing was learnt

values-replicate : {V : Type 0} (n : ℕ) → values_of {V = V} (replicate n None) ≡ replicate n None
values-replicate zero = refl
values-replicate (suc n) = ap (λ vs. None ∷ vs) (values-replicate n)

nothing-stands : {V : Type 0} (n at : ℕ) (l : LearntView V) → slice_get (replicate n None) at ≡ Some (Some l) → ⊥
nothing-stands zero at l here = cc
nothing-stands (suc n) zero l here = cc
nothing-stands (suc n) (suc at) l here = nothing-stands n at l here

-- ---- a value more

module _ {V : Type 0} (key : V → ℕ) (cells : List ℕ) (ls : List (Option (LearntView V))) (at : ℕ) (one : LearntView V)
    (are : AreLearnt key cells ls) (name : slice_get cells at ≡ Some one.cell) where
  stands : slice_get ls at ≡ Some (get_or ls at None)
  stands = slice_get-get_or ls at None (omega (arith, slice_get_within cells at one.cell name, are.count))

  pub kept-learnt : key one.node ≡ at → AreLearnt key cells (set ls at (Some one))
  kept-learnt own = record {
    count = length-set ls at (Some one) ∙ are.count;
    noted = λ i l here. ⊎_elim
        (λ (p : (i ≡ at) × (Some one ≡ Some l)).
        let is : one ≡ l = let e = p.1 in cc in
        (ap (slice_get cells) p.0 ∙ (name ∙ ap (λ (v : LearntView V). Some v.cell) is), ap (λ (v : LearntView V). key v.node) (sym is) ∙ (own ∙ sym p.0)))
        (λ (p : slice_get ls i ≡ Some (Some l)). are.noted i l p)
        (set-either ls at i (Some one) (Some l) here);
  }

  pub kept-value : value_at (values_of (set ls at (Some one))) at ≡ Some one.node
  kept-value = value-here (set ls at (Some one)) at (Some one) (set-here ls at (get_or ls at None) (Some one) stands)

  others-stay : (i : ℕ) → i ≢ at → value_at (values_of (set ls at (Some one))) i ≡ value_at (values_of ls) i
  others-stay i other = value-of (set ls at (Some one)) i
      ∙ (ap (λ p. option_map node_of (option_flatten p)) (set-there ls at i (Some one) other) ∙ sym (value-of ls i))

  stays : value_at (values_of ls) at ≡ None → (i : ℕ) (v : V) → value_at (values_of ls) i ≡ Some v → Dec (i ≡ at) →
      value_at (values_of (set ls at (Some one))) i ≡ Some v
  stays new i v is (yes here) = let none : value_at (values_of ls) i ≡ None = ap (value_at (values_of ls)) here ∙ new in absurd cc
  stays new i v is (no other) = others-stay i other ∙ is

  pub kept-learns : value_at (values_of ls) at ≡ None →
      LearnsAt at (record { cells = cells; values = values_of ls }) (record { cells = cells; values = values_of (set ls at (Some one)) })
  kept-learns new = record {
    cells = refl;
    values = λ i v is. stays new i v is (ℕ_discrete i at);
    others = others-stay;
  }

-- ---- of new cells

pub new-learnt : {V : Type 0} (key : V → ℕ) (cells : List ℕ) (ls : List (Option (LearntView V))) (n : ℕ) → ls ≡ replicate n None → n ≡ length cells →
    AreLearnt key cells ls
new-learnt key cells ls n is count = subst (AreLearnt key cells) (sym is) (record {
  count = length-replicate n None ∙ count;
  noted = λ at l here. absurd (nothing-stands n at l here);
})

pub new-values : {V : Type 0} (cells : List ℕ) (ls : List (Option (LearntView V))) (n : ℕ) → ls ≡ replicate n None → n ≡ length cells →
    values_of ls ≡ replicate (length cells) None
new-values cells ls n is count = ap values_of is ∙ (values-replicate n ∙ ap (λ m. replicate m None) count)
