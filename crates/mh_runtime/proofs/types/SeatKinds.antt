-- The different types that a seat holds.
use Rattle.std.proofs.Common.{◌≡◌, refl, ap, subst, ◌+◌, ◌<◌, ◌==◌, Bool, true, false, cond, List, [], ◌∷◌, length}
use Rattle.std.proofs.Common.{⊎_elim, arith}
use Rattle.std.specs.List.{IsDistinct}
use Rattle.std.proofs.lemmas.Bool.{eqb-true, or_cases, or_left, or_right, false_from_ne_true}
use Rattle.mh_values.specs.declared.types.MethodTy.{MethodTy}
use Rattle.mh_values.specs.Same.{is_same_method_type}
use Rattle.mh_values.proofs.SameTypes.{same_method_type-is}
use Rattle.mh_intern.specs.declared.holding.Entry.{Entry}
use Rattle.mh_intern.specs.Held.{on_type}
use Rattle.mh_intern.specs.Seats.{distinct_types}
use Rattle.mh_intern.proofs.Entries.{bit}
use Rattle.mh_intern.proofs.Measures.{count_cons}
use Rattle.mh_runtime.proofs.types.TypeLists.{differs, is_one, not-zero, same-turned}

-- ---- the types of a seat

-- the types of entries, each once, where it stands last
abbrev pub lasts : List Entry → List MethodTy
lasts [] = []
lasts (e ∷ es) = cond (on_type e.ty es == 0) (e.ty ∷ lasts es) (lasts es)

-- there are as many as types are held
pub lasts-count : (es : List Entry) → length (lasts es) ≡ distinct_types es
lasts-count [] = refl
lasts-count (e ∷ es) = cases (on_type e.ty es == 0) (lasts-count es)
  where
    cases : (b : Bool) → length (lasts es) ≡ distinct_types es → length (cond b (e.ty ∷ lasts es) (lasts es)) ≡ cond b 1 0 + distinct_types es
    cases true rest = omega (arith, rest)
    cases false rest = omega (arith, rest)

-- each of them is held
pub last-held : (t : MethodTy) (es : List Entry) → is_one (lasts es) t ≡ true → 0 < on_type t es
last-held t [] there = cc
last-held t (e ∷ es) there = cases (on_type e.ty es == 0) (last-held t es) there
  where
    later : (0 < on_type t es) → 0 < on_type t (e ∷ es)
    later more = omega (arith, more, count_cons (λ (x : Entry). is_same_method_type x.ty t) e es)

    cases : (b : Bool) → (is_one (lasts es) t ≡ true → 0 < on_type t es) → is_one (cond b (e.ty ∷ lasts es) (lasts es)) t ≡ true → 0 < on_type t (e ∷ es)
    cases true rest there = ⊎_elim
        (λ (here : is_same_method_type t e.ty ≡ true).
        let one : bit (is_same_method_type e.ty t) ≡ 1 = ap bit (same-turned t e.ty here) in
        omega (arith, one, count_cons (λ (x : Entry). is_same_method_type x.ty t) e es))
        (λ (among : is_one (lasts es) t ≡ true). later (rest among))
        (or_cases (is_same_method_type t e.ty) (is_one (lasts es) t) there)
    cases false rest there = later (rest there)

-- and each type that is held is one of them
pub held-last : (t : MethodTy) (es : List Entry) → 0 < on_type t es → is_one (lasts es) t ≡ true
held-last t [] some = absurd (omega (arith, some))
held-last t (e ∷ es) some = cases (on_type e.ty es == 0) refl (is_same_method_type e.ty t) refl (held-last t es)
  where
    rest-held : is_same_method_type e.ty t ≡ false → 0 < on_type t es
    rest-held other =
        let none : bit (is_same_method_type e.ty t) ≡ 0 = ap bit other in
        omega (arith, some, none, count_cons (λ (x : Entry). is_same_method_type x.ty t) e es)

    cases : (b : Bool) → (on_type e.ty es == 0) ≡ b → (c : Bool) → is_same_method_type e.ty t ≡ c → (0 < on_type t es → is_one (lasts es) t ≡ true) →
        is_one (cond b (e.ty ∷ lasts es) (lasts es)) t ≡ true
    cases true none true same rest = or_left (is_same_method_type t e.ty) (is_one (lasts es) t) (same-turned e.ty t same)
    cases true none false other rest = or_right (is_same_method_type t e.ty) (is_one (lasts es) t) (rest (rest-held other))
    cases false more true same rest =
        rest (subst (λ (u : MethodTy). 0 < on_type u es) (same_method_type-is e.ty t same) (not-zero (on_type e.ty es) more))
    cases false more false other rest = rest (rest-held other)

-- no two of them are one
pub lasts-distinct : (es : List Entry) → IsDistinct is_same_method_type (lasts es)
unfolding IsDistinct
lasts-distinct [] = tt
lasts-distinct (e ∷ es) = cases (on_type e.ty es == 0) refl (lasts-distinct es)
  where
    cases : (b : Bool) → (on_type e.ty es == 0) ≡ b → IsDistinct is_same_method_type (lasts es) →
        IsDistinct is_same_method_type (cond b (e.ty ∷ lasts es) (lasts es))
    cases true none rest = (
      differs e.ty (lasts es)
          (false_from_ne_true (is_one (lasts es) e.ty)
          (λ there.
          let more = last-held e.ty es there in
          let zero_of = eqb-true (on_type e.ty es) 0 none in absurd (omega (arith, more, zero_of)))),
      rest,
    )
    cases false more rest = rest
