-- What is found in a list, and counted in one.
use Rattle.std.specs.List.{position}
use Rattle.std.proofs.lemmas.Bool.Decides.{nat_tests}
use Rattle.std.proofs.lemmas.List.Quantifiers.{position-Some}
use Rattle.std.proofs.Common.{All, Option, Some, None, Result, Ok, Err, OnOk, OnErr, nat_lt, inl, inr, ⊎_elim, ◌≡◌, ℕ, zero, suc, ◌+◌, ◌-◌, ◌<◌, ◌≤◌, ◌≢◌, ◌==◌, ◌&&◌, Bool, true, false, cond, List, [], ◌∷◌, ◌++◌, length, sum_by, count_by, get_or, drop, set, replicate, refl, sym, ap, ◌∙◌, subst, arith, length-append}
use Rattle.std.proofs.lemmas.List.Sums.{sum_by-cons}
use native.Mathlib.Decide.{ℕ_discrete}
use mathlib.Core.Logic.{dite}
use mathlib.Core.Option.{some, some-injective, some-ne-none}
use lib.ListN.{get_elem?}
use Rattle.mh_intern.specs.declared.notes.Note.{Note}
use Rattle.mh_seats.proofs.Totals.{at_most}
use Rattle.mh_intern.proofs.Entries.{bit}
use Rattle.mh_intern.proofs.Placing.{position_none}

pub cond_more : (b : Bool) (n : ℕ) → cond b (n + 1) 0 ≡ cond b n 0 + bit b
cond_more true n = refl
cond_more false n = refl

pub cond_less : (b : Bool) (n : ℕ) → 1 ≤ n → cond b (n - 1) 0 + bit b ≡ cond b n 0
cond_less true n le = omega arith
cond_less false n le = refl

-- a sum whose terms are all 0
pub no_sum : {A : Type 0} (f : A → ℕ) (xs : List A) → ((i : ℕ) (x : A) → get_elem? xs i ≡ some x → f x ≡ 0) → sum_by f xs ≡ 0
no_sum f [] each = refl
no_sum f (x ∷ xs) each = omega (arith, sum_by-cons f x xs, each 0 x refl, no_sum f xs (λ i. each (suc i)))

-- what is at a place of a list
pub item_at : {A : Type 0} (xs : List A) (i : ℕ) (d : A) → i < length xs → get_elem? xs i ≡ some (get_or xs i d)
item_at [] i d lt = absurd (omega arith)
item_at (x ∷ xs) zero d lt = refl
item_at (x ∷ xs) (suc i) d lt = item_at xs i d (omega arith)

pub at_item : {A : Type 0} (xs : List A) (i : ℕ) (d x : A) → get_elem? xs i ≡ some x → get_or xs i d ≡ x
at_item [] i d x e = absurd (some-ne-none x (sym e))
at_item (y ∷ xs) zero d x e = some-injective y x e
at_item (y ∷ xs) (suc i) d x e = at_item xs i d x e

drop_here : {A : Type 0} (xs : List A) (i : ℕ) (x : A) → get_elem? xs i ≡ some x → drop i xs ≡ x ∷ drop (suc i) xs
drop_here [] i x e = absurd (some-ne-none x (sym e))
drop_here (y ∷ xs) zero x e = ap (λ z. z ∷ xs) (some-injective y x e)
drop_here (y ∷ xs) (suc i) x e = drop_here xs i x e

pub drop_at : {A : Type 0} (xs : List A) (i : ℕ) (x : A) → get_elem? xs i ≡ some x → drop i xs ≡ x ∷ drop (i + 1) xs
drop_at xs i x e = let more : suc i ≡ i + 1 = omega arith in drop_here xs i x e ∙ ap (λ z. x ∷ drop z xs) more

some_of : {A : Type 0} → Option A → A → A
some_of (Some x) d = x
some_of None d = d

pub same_some : {A : Type 0} (x y : A) → Some x ≡ Some y → x ≡ y
unfolding some_of
same_some x y e = ap (λ o. some_of o x) e

-- what follows from either answer
pub either_way : {A B P Q Z : Type 0} (r : Result A B) → OnOk r P → OnErr r Q → (P → Z) → (Q → Z) → Z
either_way (Ok a) p q f g = f p
either_way (Err e) p q f g = g q

-- ---- a note that is looked for

pub some_more : (n : ℕ) → nat_lt 0 n ≡ true → 0 < n
some_more n e = grind (arith, nat_tests)

pub no_more : (n : ℕ) → nat_lt 0 n ≡ false → n ≡ 0
no_more n e = grind (arith, nat_tests)

pub and_false : (a b : Bool) → a ≡ true → (a && b) ≡ false → b ≡ false
and_false true b is e = e
and_false false b is e = absurd cc

pub found : (p : Note → Bool) (notes : List Note) (i : ℕ) (d : Note) → position p notes ≡ Some i
    → (get_elem? notes i ≡ some (get_or notes i d)) × (p (get_or notes i d) ≡ true)
found p notes i d e = let q = position-Some p notes i d e in (item_at notes i d q.0, q.1)

pub found_some : (p : Note → Bool) (notes : List Note) (i : ℕ) → position p notes ≡ Some i → (n : Note) × (get_elem? notes i ≡ some n) × (p n ≡ true)
found_some p [] i e = absurd cc
found_some p (x ∷ xs) i e = let q = found p (x ∷ xs) i x e in (get_or (x ∷ xs) i x, q.0, q.1)

pub missing : (p : Note → Bool) (notes : List Note) → position p notes ≡ None → (i : ℕ) (n : Note) → get_elem? notes i ≡ some n → p n ≡ false
missing p notes e i n at = test (p n) refl
  where
    test : (b : Bool) → p n ≡ b → p n ≡ false
    test false q = q
    test true q =
        let hit : bit (p n) ≡ 1 = ap bit q in
        absurd (omega (arith, at_most (λ (x : Note). bit (p x)) notes i n at, position_none p notes e))
