-- Ways up from a class: the test that looks classes up, and reachability.
use Rattle.std.proofs.Common.{◌≡◌, refl, sym, ap, subst, ◌∙◌, zero, suc, ℕ, ◌<◌, ◌≤◌, ◌==◌, ◌⊎◌, inl, inr, Bool, true, false, List, length, Option, None, Some, IsTrue, ◌↔◌, not, arith}
use Rattle.std.proofs.lemmas.Bool.{cases_lt, eq-eqb, or_left, or_right, or_cases, not-false, false_from_ne_true}
use Rattle.std.proofs.lemmas.Option.{slice_get_past}
use Rattle.std.specs.Option.{option_map_or}
use Rattle.mh_base.proofs.Tests.{same_tests}
use Rattle.mh_values.specs.declared.class.Class.{Class}
use Rattle.mh_values.specs.declared.class.ClassId.{ClassId}
use Rattle.mh_values.specs.Class.{superclass_of, IsSubclass, itself, above, reaches_within, is_subclass}
use Rattle.mh_values.specs.Classes.{IsAscending}
use Rattle.mh_values.proofs.SameTypes.{same_class-is}

-- a way up from a class through its superclass
abbrev pub through : ℕ → List Class → ClassId → Option ClassId → Bool
through steps classes b superclass = option_map_or (λ c. reaches_within steps classes c b) superclass false

-- ---- what the test finds is there

by_superclass : (steps : ℕ) (classes : List Class) (a b : ClassId) (o : Option ClassId) → superclass_of classes a ≡ o →
    ((c : ClassId) → reaches_within steps classes c b ≡ true → IsSubclass classes c b) → through steps classes b o ≡ true → IsSubclass classes a b
by_superclass steps classes a b None is more h = cc
by_superclass steps classes a b (Some c) is more h = above is (more c h)

pub reaches-sound : (steps : ℕ) (classes : List Class) (a b : ClassId) → reaches_within steps classes a b ≡ true → IsSubclass classes a b
reaches-sound zero classes a b h = subst (IsSubclass classes a) (same_class-is a b h) itself
reaches-sound (suc steps) classes a b h =
    elim (or_cases (a.0 == b.0) (through steps classes b (superclass_of classes a)) h) [
      | inl here ↦ subst (IsSubclass classes a) (same_class-is a b here) itself
      | inr further ↦ by_superclass steps classes a b (superclass_of classes a) refl (λ c t. reaches-sound steps classes c b t) further
    ]

-- ---- what is there the test finds: a way up visits ever smaller numbers

reaches-here : (steps : ℕ) (classes : List Class) (a : ClassId) → reaches_within steps classes a a ≡ true
reaches-here zero classes a = eq-eqb a.0 a.0 refl
reaches-here (suc steps) classes a = or_left _ _ (eq-eqb a.0 a.0 refl)

reaches-complete : (classes : List Class) → IsAscending classes → (a b : ClassId) → IsSubclass classes a b → (steps : ℕ) → a.0 ≤ steps →
    reaches_within steps classes a b ≡ true
reaches-complete classes ascending a b itself steps enough = reaches-here steps classes a
reaches-complete classes ascending a b (above {b = c} is more) zero enough = absurd (omega (arith, ascending a c is))
reaches-complete classes ascending a b (above {b = c} is more) (suc steps) enough =
    let lower : c.0 < a.0 = ascending a c is in
    let further : reaches_within steps classes c b ≡ true = reaches-complete classes ascending c b more steps (omega arith) in
    or_right (a.0 == b.0) (through steps classes b (superclass_of classes a)) (ap (through steps classes b) is ∙ further)

-- a class past the list has no superclass
no_superclass : (classes : List Class) (a : ClassId) → length classes ≤ a.0 → superclass_of classes a ≡ None
no_superclass classes a past = ap (λ o. option_map_or (λ class. class.superclass) o None) (slice_get_past classes a.0 past)

pub is_subclass-complete : (classes : List Class) → IsAscending classes → (a b : ClassId) → IsSubclass classes a b → is_subclass classes a b ≡ true
is_subclass-complete classes ascending a b itself = reaches-here (length classes) classes a
is_subclass-complete classes ascending a b (above {b = c} is more) =
    elim (cases_lt a.0 (length classes)) [
      | inl within ↦ reaches-complete classes ascending a b (above is more) (length classes) (omega arith)
      | inr past ↦ let none = no_superclass classes a past in cc
    ]

-- the test is reachability
pub is_subclass-law : (classes : List Class) → IsAscending classes → (a b : ClassId) → IsTrue (is_subclass classes a b) ↔ IsSubclass classes a b
is_subclass-law classes ascending a b = (reaches-sound (length classes) classes a b, is_subclass-complete classes ascending a b)

-- ---- one step up

through_or_here : (classes : List Class) (a b : ClassId) → IsSubclass classes a b → (a ≡ b) ⊎ ((c : ClassId) × (superclass_of classes a ≡ Some c)
    × IsSubclass classes c b)
through_or_here classes a b itself = inl refl
through_or_here classes a b (above {b = c} is more) = inr (c, is, more)

pub is_subclass-up : (classes : List Class) → IsAscending classes → (a b c : ClassId) → superclass_of classes a ≡ Some c → (a ≡ b → ⊥) →
    is_subclass classes a b ≡ is_subclass classes c b
is_subclass-up classes ascending a b c is other =
    same_tests (is_subclass classes a b) (is_subclass classes c b) (λ h.
    elim (through_or_here classes a b (reaches-sound (length classes) classes a b h)) [
      | inl here ↦ absurd (other here)
      | inr w ↦ let same : w.0 ≡ c = cc (w.1, is) in is_subclass-complete classes ascending c b (subst (λ d. IsSubclass classes d b) same w.2)
    ]) (λ h. is_subclass-complete classes ascending a b (above is (reaches-sound (length classes) classes c b h)))

pub is_subclass-top : (classes : List Class) (a b : ClassId) → superclass_of classes a ≡ None → (a ≡ b → ⊥) → is_subclass classes a b ≡ false
is_subclass-top classes a b is other =
    false_from_ne_true (is_subclass classes a b) (λ h.
    elim (through_or_here classes a b (reaches-sound (length classes) classes a b h)) [
      | inl here ↦ other here
      | inr w ↦ cc (w.1, is)
    ])

pub is_subclass-itself : (classes : List Class) (a : ClassId) → is_subclass classes a a ≡ true
is_subclass-itself classes a = reaches-here (length classes) classes a

-- ---- one way after another

IsSubclass-trans : (classes : List Class) (a b c : ClassId) → IsSubclass classes a b → IsSubclass classes b c → IsSubclass classes a c
IsSubclass-trans classes a b c itself more = more
IsSubclass-trans classes a b c (above {b = d} is rest) more = above is (IsSubclass-trans classes d b c rest more)

pub is_subclass-trans : (classes : List Class) → IsAscending classes → (a b c : ClassId) → is_subclass classes a b ≡ true → is_subclass classes b c ≡ true →
    is_subclass classes a c ≡ true
is_subclass-trans classes ascending a b c h k =
    is_subclass-complete classes ascending a c
    (IsSubclass-trans classes a b c (reaches-sound (length classes) classes a b h) (reaches-sound (length classes) classes b c k))

-- ---- the tests of two classes that a walk makes

pub other_class : (a b : ClassId) → true ≡ not (a.0 == b.0) → a ≡ b → ⊥
other_class a b test same =
    let here : not (a.0 == b.0) ≡ false = ap not (eq-eqb a.0 b.0 (ap (λ c. c.0) same)) in cc

pub one_class : (a b : ClassId) → false ≡ not (a.0 == b.0) → a ≡ b
one_class a b test = same_class-is a b (not-false (a.0 == b.0) (sym test))
