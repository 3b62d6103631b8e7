-- Counts of entries in a list.
use Rattle.std.proofs.Common.{◌≡◌, ℕ, ◌+◌, ◌<◌, ◌≤◌, ◌==◌, ◌&&◌, Bool, true, false, cond, List, [], ◌∷◌, length, sum_by, count_by, sym, refl, ap, ◌∙◌, arith, ◌⊎◌, inl, inr, subst}
use Rattle.std.proofs.lemmas.List.Sums.{sum_by-cons}
use Rattle.std.proofs.lemmas.Bool.{and_from, and_parts, eq-eqb, eqb-true}
use Rattle.mh_values.specs.declared.types.MethodTy.{MethodTy}
use Rattle.mh_values.specs.Same.{is_same_method_type}
use Rattle.mh_values.proofs.SameTypes.{same_method_type-is, same_method_type-itself}
use Rattle.mh_intern.specs.declared.holding.Entry.{Entry}
use Rattle.mh_intern.specs.Held.{on_slot, on_type, has}
use Rattle.mh_intern.specs.Lists.{is_entry, removed, entry}
use Rattle.mh_intern.proofs.Measures.{count_cons}

pub entry-is : (x e : Entry) → is_entry x e ≡ true → x ≡ e
entry-is x e h = let p = and_parts (x.slot == e.slot) (is_same_method_type x.ty e.ty) h in
    λ i. record { slot = eqb-true x.slot e.slot p.0 i; ty = same_method_type-is x.ty e.ty p.1 i }

pub entry-itself : (e : Entry) → is_entry e e ≡ true
entry-itself e = and_from _ _ (eq-eqb e.slot e.slot refl) (same_method_type-itself e.ty)

abbrev pub bit : Bool → ℕ
bit b = cond b 1 0

-- where e is in the list and (k, t) is not, they are two
pub not_hit : (e : Entry) (k : ℕ) (t : MethodTy) (es : List Entry) → 0 < has e.slot e.ty es → has k t es ≡ 0 → bit (is_entry e (entry k t)) ≡ 0
not_hit e k t es mine none = at (is_entry e (entry k t)) refl
  where
    at : (b : Bool) → is_entry e (entry k t) ≡ b → bit (is_entry e (entry k t)) ≡ 0
    at false q = ap bit q
    at true q = let same : e ≡ entry k t = entry-is e (entry k t) q in let n : has e.slot e.ty es ≡ has k t es = ap (λ (z : Entry). has z.slot z.ty es) same in
        absurd (omega arith)

-- one is taken out
pub removed_count : (p : Entry → Bool) (e : Entry) (es : List Entry) → 0 < has e.slot e.ty es → count_by p (removed e es) + cond (p e) 1 0 ≡ count_by p es
removed_count p e [] h = absurd (omega arith)
removed_count p e (x ∷ xs) h = at (removed_count p e xs) (is_entry x e) refl
  where
    at : (0 < has e.slot e.ty xs → count_by p (removed e xs) + cond (p e) 1 0 ≡ count_by p xs) → (b : Bool) → is_entry x e ≡ b →
        count_by p (cond (is_entry x e) xs (x ∷ removed e xs)) + cond (p e) 1 0 ≡ count_by p (x ∷ xs)
    at later true q = let same : bit (p x) ≡ bit (p e) = ap (λ (z : Entry). bit (p z)) (entry-is x e q) in rw q (omega (arith, count_cons p x xs))
    at later false q =
        let c = count_cons (λ (z : Entry). is_entry z e) x xs in
        let off : bit (is_entry x e) ≡ 0 = ap bit q in
        let rest = later (omega arith) in
        rw q (omega (arith, count_cons p x xs, count_cons p x (removed e xs)))

pub removed_length : (e : Entry) (es : List Entry) → 0 < has e.slot e.ty es → length (removed e es) + 1 ≡ length es
removed_length e [] h = absurd (omega arith)
removed_length e (x ∷ xs) h = at (removed_length e xs) (is_entry x e) refl
  where
    at : (0 < has e.slot e.ty xs → length (removed e xs) + 1 ≡ length xs) → (b : Bool) → is_entry x e ≡ b →
        length (cond (is_entry x e) xs (x ∷ removed e xs)) + 1 ≡ length (x ∷ xs)
    at later true q = rw q (omega arith)
    at later false q =
        let c = count_cons (λ (z : Entry). is_entry z e) x xs in
        let off : bit (is_entry x e) ≡ 0 = ap bit q in
        let rest = later (omega arith) in
        rw q (omega arith)

module _ {V : Type 0} (f g h : V → ℕ) (le : (v : V) → f v + g v ≤ h v) where
  pub two_le : (views : List V) → sum_by f views + sum_by g views ≤ sum_by h views
  two_le [] = omega arith
  two_le (x ∷ xs) = omega (arith, sum_by-cons f x xs, sum_by-cons g x xs, sum_by-cons h x xs, le x, two_le xs)

module _ {V : Type 0} (f g : V → ℕ) (le : (v : V) → f v ≤ g v) where
  pub one_le : (views : List V) → sum_by f views ≤ sum_by g views
  one_le [] = omega arith
  one_le (x ∷ xs) = omega (arith, sum_by-cons f x xs, sum_by-cons g x xs, le x, one_le xs)

-- an entry is one of its slot and one of its type
and_left : (a b : Bool) → cond (a && b) 1 0 ≤ cond a 1 0
and_left true true = omega arith
and_left true false = omega arith
and_left false b = omega arith

and_right : (a b : Bool) → cond (a && b) 1 0 ≤ cond b 1 0
and_right true true = omega arith
and_right true false = omega arith
and_right false true = omega arith
and_right false false = omega arith

pub has-on_slot : (k : ℕ) (t : MethodTy) (es : List Entry) → has k t es ≤ on_slot k es
has-on_slot k t es = one_le (λ (e : Entry). cond ((e.slot == k) && is_same_method_type e.ty t) 1 0) (λ e. cond (e.slot == k) 1 0)
    (λ e. and_left (e.slot == k) (is_same_method_type e.ty t)) es

-- two types of one slot are two entries of it
exclude : (a b c : Bool) → ¬ ((b ≡ true) × (c ≡ true)) → cond (a && b) 1 0 + cond (a && c) 1 0 ≤ cond a 1 0
exclude true true true n = absurd (n (refl, refl))
exclude true true false n = omega arith
exclude true false true n = omega arith
exclude true false false n = omega arith
exclude false b c n = omega arith

pub two_of_slot : (k : ℕ) (t u : MethodTy) → ¬ (t ≡ u) → (es : List Entry) → has k t es + has k u es ≤ on_slot k es
two_of_slot k t u apart es =
    two_le (λ (e : Entry). cond ((e.slot == k) && is_same_method_type e.ty t) 1 0) (λ e. cond ((e.slot == k) && is_same_method_type e.ty u) 1 0)
    (λ e. cond (e.slot == k) 1 0)
    (λ e. exclude (e.slot == k) (is_same_method_type e.ty t) (is_same_method_type e.ty u) (λ h. apart (sym (same_method_type-is e.ty t h.0) ∙
    same_method_type-is e.ty u h.1))) es

exclude' : (a b c : Bool) → ¬ ((a ≡ true) × (b ≡ true)) → cond (a && c) 1 0 + cond (b && c) 1 0 ≤ cond c 1 0
exclude' true true c n = absurd (n (refl, refl))
exclude' true false true n = omega arith
exclude' true false false n = omega arith
exclude' false true true n = omega arith
exclude' false true false n = omega arith
exclude' false false c n = omega arith

pub two_of_type : (j k : ℕ) (t : MethodTy) → ¬ (j ≡ k) → (es : List Entry) → has j t es + has k t es ≤ on_type t es
two_of_type j k t apart es =
    two_le (λ (e : Entry). cond ((e.slot == j) && is_same_method_type e.ty t) 1 0) (λ e. cond ((e.slot == k) && is_same_method_type e.ty t) 1 0)
    (λ e. cond (is_same_method_type e.ty t) 1 0)
    (λ e. exclude' (e.slot == j) (e.slot == k) (is_same_method_type e.ty t) (λ h. apart (sym (eqb-true e.slot j h.0) ∙ eqb-true e.slot k h.1))) es

-- the entry is in the list
abbrev pub In : List Entry → Entry → Type 0
In es e = 0 < has e.slot e.ty es

-- a type that is counted is that type
pub type_missed : (t u : MethodTy) (b : Bool) → is_same_method_type t u ≡ b → ¬ (t ≡ u) → bit (is_same_method_type t u) ≡ 0
type_missed t u true q apart = absurd (apart (same_method_type-is t u q))
type_missed t u false q apart = ap bit q

pub type_hit : (t : MethodTy) → bit (is_same_method_type t t) ≡ 1
type_hit t = ap bit (same_method_type-itself t)

pub either_type : (t u : MethodTy) → (t ≡ u) ⊎ ¬ (t ≡ u)
either_type t u = at (is_same_method_type t u) refl
  where
    at : (b : Bool) → is_same_method_type t u ≡ b → (t ≡ u) ⊎ ¬ (t ≡ u)
    at true q = inl (same_method_type-is t u q)
    at false q = inr (λ e. let z : is_same_method_type t u ≡ true = subst (λ (x : MethodTy). is_same_method_type t x ≡ true) e (same_method_type-itself t) in
        cc)
