-- Lists of types, and which types they have.
use Rattle.std.proofs.Common.{◌≡◌, refl, ◌∙◌, ap, subst, ℕ, zero, suc, ◌<◌, ◌≤◌, ◌==◌, Bool, true, false, ◌||◌, cond, List, [], ◌∷◌, length, ⊎_elim, arith}
use Rattle.std.specs.Prelude.{count_by}
use Rattle.std.specs.Cmp.{IsEquivalence}
use Rattle.std.specs.List.{list_any, IsDistinct, AllByRecursion}
use Rattle.std.specs.Set.{distinct_count, unique_keys}
use Rattle.std.proofs.lemmas.Bool.{or_cases, false_from_ne_true}
use Rattle.std.proofs.lemmas.Map.Made.{length-le_from_is_member}
use Rattle.mh_base.proofs.Tests.{same_tests}
use Rattle.mh_values.specs.declared.types.MethodTy.{MethodTy}
use Rattle.mh_values.specs.Same.{is_same_method_type}
use Rattle.mh_values.proofs.SameTypes.{same_method_type-is, same_method_type-itself}
use Rattle.mh_intern.specs.Held.{times_type}
use Rattle.mh_intern.proofs.Entries.{bit}
use Rattle.mh_intern.proofs.Measures.{count_cons}

-- ---- tests

-- a number that is not zero is more
pub not-zero : (n : ℕ) → (n == 0) ≡ false → 0 < n
not-zero zero more = cc
not-zero (suc n) more = omega arith

-- where a type is another one, the other is it
pub same-turned : (s t : MethodTy) → is_same_method_type s t ≡ true → is_same_method_type t s ≡ true
same-turned s t same = subst (λ (u : MethodTy). is_same_method_type u s ≡ true) (same_method_type-is s t same) (same_method_type-itself s)

-- the test of two types is an equivalence
pub same-equivalence : IsEquivalence is_same_method_type
same-equivalence = record {
  refl = same_method_type-itself;
  symm = λ s t. same_tests (is_same_method_type s t) (is_same_method_type t s) (same-turned s t) (same-turned t s);
  congr = λ s t u same. ap (λ (v : MethodTy). is_same_method_type v u) (same_method_type-is s t same);
}

-- whether a type is one of a list
abbrev pub is_one : List MethodTy → MethodTy → Bool
is_one ts t = list_any (is_same_method_type t) ts

-- ---- counts

module _ {X : Type 0} (p : X → Bool) where
  -- where some are counted, the list has one
  pub counted-any : (xs : List X) → 0 < count_by p xs → list_any p xs ≡ true
  counted-any [] some = absurd (omega (arith, some))
  counted-any (x ∷ xs) some = cases (p x) refl (counted-any xs)
    where
      cases : (b : Bool) → p x ≡ b → (0 < count_by p xs → list_any p xs ≡ true) → (b || list_any p xs) ≡ true
      cases true passes rest = refl
      cases false not_so rest = let none : bit (p x) ≡ 0 = ap bit not_so in rest (omega (arith, some, none, count_cons p x xs))

  -- where the list has one, some are counted
  pub any-counted : (xs : List X) → list_any p xs ≡ true → 0 < count_by p xs
  any-counted [] there = cc
  any-counted (x ∷ xs) there = ⊎_elim
      (λ (here : p x ≡ true). let one : bit (p x) ≡ 1 = ap bit here in omega (arith, one, count_cons p x xs))
      (λ (rest : list_any p xs ≡ true). let more = any-counted xs rest in omega (arith, more, count_cons p x xs))
      (or_cases (p x) (list_any p xs) there)

-- the test of a list does not depend on which of two types is named first
pub any-turned : (t : MethodTy) (ts : List MethodTy) → list_any (λ u. is_same_method_type u t) ts ≡ is_one ts t
any-turned t ts = λ i. list_any (λ u. same-equivalence.symm u t i) ts

-- ---- lists that have no type twice

-- a type that is none of a list differs from each of it
pub differs : (t : MethodTy) (ts : List MethodTy) → is_one ts t ≡ false → AllByRecursion (λ u. is_same_method_type t u ≡ false) ts
differs t [] none = tt
differs t (u ∷ ts) none = cases (is_same_method_type t u) refl none (differs t ts)
  where
    cases : (b : Bool) → is_same_method_type t u ≡ b → (b || is_one ts t) ≡ false →
        (is_one ts t ≡ false → AllByRecursion (λ u. is_same_method_type t u ≡ false) ts) →
        (is_same_method_type t u ≡ false) × AllByRecursion (λ u. is_same_method_type t u ≡ false) ts
    cases true same none rest = cc
    cases false other none rest = (other, rest none)

-- a type of which none is counted is none of a list
none-one : (t : MethodTy) (ts : List MethodTy) → times_type t ts ≡ 0 → is_one ts t ≡ false
none-one t ts none =
    false_from_ne_true (is_one ts t) (λ there.
    let more = any-counted (λ (u : MethodTy). is_same_method_type u t) ts (any-turned t ts ∙ there) in absurd (omega (arith, more, none)))

-- where each type is counted at most once, no two are one
pub types-distinct : (ts : List MethodTy) → ((t : MethodTy) → times_type t ts ≤ 1) → IsDistinct is_same_method_type ts
unfolding IsDistinct
types-distinct [] once = tt
types-distinct (t ∷ ts) once = (
  differs t ts
      (none-one t ts
      (let same : bit (is_same_method_type t t) ≡ 1 = ap bit (same_method_type-itself t) in
      omega (arith, once t, same, count_cons (λ (u : MethodTy). is_same_method_type u t) t ts))),
  types-distinct ts (λ u. omega (arith, once u, count_cons (λ (v : MethodTy). is_same_method_type v u) t ts)),
)

-- each type once
once-one : (ts : List MethodTy) (t : MethodTy) → is_one (unique_keys is_same_method_type ts) t ≡ is_one ts t
once-one [] t = refl
once-one (u ∷ ts) t = cases (is_one ts u) refl (once-one ts t)
  where
    there : (b : Bool) → is_same_method_type t u ≡ b → is_one ts u ≡ true → is_one ts t ≡ (b || is_one ts t)
    there true same among = ap (is_one ts) (same_method_type-is t u same) ∙ among
    there false other among = refl

    cases : (b : Bool) → is_one ts u ≡ b → is_one (unique_keys is_same_method_type ts) t ≡ is_one ts t →
        is_one (cond b (unique_keys is_same_method_type ts) (u ∷ unique_keys is_same_method_type ts)) t ≡ (is_same_method_type t u || is_one ts t)
    cases true among before = before ∙ there (is_same_method_type t u) refl among
    cases false among before = ap (λ b. is_same_method_type t u || b) before

-- where no two types are one, they are no more than the types that differ of a list that has them all
pub count-distinct : (ts all : List MethodTy) → IsDistinct is_same_method_type ts → ((t : MethodTy) → is_one ts t ≡ true → is_one all t ≡ true) →
    length ts ≤ distinct_count is_same_method_type all
count-distinct ts all distinct within =
    length-le_from_is_member same-equivalence ts (unique_keys is_same_method_type all) distinct (λ t there. once-one all t ∙ within t there)
