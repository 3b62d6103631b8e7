-- An entry is looked for in a list, and put into it.
use Rattle.std.proofs.Common.{◌≡◌, ℕ, zero, suc, ◌+◌, ◌<◌, ◌==◌, ◌&&◌, Bool, true, false, cond, List, [], ◌∷◌, ◌++◌, length, count_by, get_or, set, sym, refl, ap, ◌∙◌, arith, None, Some}
use Rattle.std.specs.List.{position, position_from}
use Rattle.std.proofs.lemmas.Bool.{eq-eqb, ne_eqb}
use Rattle.std.proofs.lemmas.List.Sums.{sum_by-set}
use Rattle.std.proofs.lemmas.Iterator.Adapters.{position_from-zero}
use Rattle.mh_values.specs.Same.{is_same_method_type}
use Rattle.mh_intern.specs.declared.holding.Entry.{Entry}
use Rattle.mh_intern.specs.Held.{on_slot}
use Rattle.mh_intern.specs.Lists.{Places, is_entry}
use Rattle.mh_intern.proofs.Measures.{count_cons, count_append}
use Rattle.mh_intern.proofs.Entries.{bit, entry-itself}

none_from : {X : Type 0} (p : X → Bool) (i : ℕ) (xs : List X) → position_from p i xs ≡ None → count_by p xs ≡ 0
none_from p i [] e = refl
none_from p i (x ∷ xs) e = at (p x) refl (none_from p (i + 1) xs)
  where
    at : (b : Bool) → p x ≡ b → (position_from p (i + 1) xs ≡ None → count_by p xs ≡ 0) → count_by p (x ∷ xs) ≡ 0
    at true q later = let z : position_from p i (x ∷ xs) ≡ Some i = ap (λ (b : Bool). cond b (Some i) (position_from p (i + 1) xs)) q in absurd cc
    at false q later =
        let z : position_from p i (x ∷ xs) ≡ position_from p (i + 1) xs = ap (λ (b : Bool). cond b (Some i) (position_from p (i + 1) xs)) q in
        let o : bit (p x) ≡ 0 = ap bit q in
        omega (arith, count_cons p x xs, later (sym z ∙ e))

pub position_none : {X : Type 0} (p : X → Bool) (xs : List X) → position p xs ≡ None → count_by p xs ≡ 0
position_none p xs e = none_from p 0 xs (sym (position_from-zero p xs) ∙ e)

-- one is there, where the test passes
pub counted_at : {X : Type 0} (p : X → Bool) (xs : List X) (i : ℕ) (d : X) → i < length xs → p (get_or xs i d) ≡ true → 0 < count_by p xs
counted_at p [] i d lt e = absurd (omega arith)
counted_at p (x ∷ xs) zero d lt e = let o : bit (p x) ≡ 1 = ap bit e in omega (arith, count_cons p x xs)
counted_at p (x ∷ xs) (suc i) d lt e = omega (arith, count_cons p x xs, counted_at p xs i d (omega arith) e)

pub places_push : (e : Entry) (es : List Entry) → on_slot e.slot es ≡ 0 → Places e es (es ++ e ∷ [])
places_push e es none =
    let count : (p : Entry → Bool) → count_by p (es ++ e ∷ []) ≡ count_by p es + bit (p e) = λ p. omega (arith, count_append p es (e ∷ []), count_cons p e [])
    in
    let off : (k : ℕ) → ¬ (k ≡ e.slot) → bit (e.slot == k) ≡ 0 = λ k apart. ap bit (ne_eqb e.slot k (λ q. apart (sym q))) in
    record {
      slots = λ k apart. omega (arith, count (λ x. x.slot == k), off k apart);
      once = λ le. let o : bit (e.slot == e.slot) ≡ 1 = ap bit (eq-eqb e.slot e.slot refl) in omega (arith, count (λ x. x.slot == e.slot));
      types = λ t. omega (arith, count (λ x. is_same_method_type x.ty t));
      others = λ k t apart.
          let o : bit ((e.slot == k) && is_same_method_type e.ty t) ≡ 0 =
          ap (λ (b : Bool). bit (b && is_same_method_type e.ty t)) (ne_eqb e.slot k (λ q. apart (sym q))) in
          omega (arith, count (λ x. (x.slot == k) && is_same_method_type x.ty t));
      mine = let o : bit (is_entry e e) ≡ 1 = ap bit (entry-itself e) in omega (arith, count (λ x. is_entry x e));
    }

pub places_set : (e : Entry) (es : List Entry) (i : ℕ) (d : Entry) → i < length es → (get_or es i d).slot ≡ e.slot → Places e es (set es i e)
places_set e es i d lt is =
    let x : Entry = get_or es i d in
    let count : (p : Entry → Bool) → count_by p (set es i e) + bit (p x) ≡ count_by p es + bit (p e) = λ p. sum_by-set (λ y. bit (p y)) es i e d lt in
    let off : (k : ℕ) → ¬ (k ≡ e.slot) → bit (e.slot == k) ≡ 0 = λ k apart. ap bit (ne_eqb e.slot k (λ q. apart (sym q))) in
    let off' : (k : ℕ) → ¬ (k ≡ e.slot) → bit (x.slot == k) ≡ 0 = λ k apart. ap bit (ne_eqb x.slot k (λ q. apart (sym q ∙ is))) in
    record {
      slots = λ k apart. omega (arith, count (λ y. y.slot == k), off k apart, off' k apart);
      once = λ le.
          let o : bit (e.slot == e.slot) ≡ 1 = ap bit (eq-eqb e.slot e.slot refl) in
          let o' : bit (x.slot == e.slot) ≡ 1 = ap bit (eq-eqb x.slot e.slot is) in
          omega (arith, count (λ y. y.slot == e.slot));
      types = λ t. omega (arith, count (λ y. is_same_method_type y.ty t));
      others = λ k t apart.
          let o : bit ((e.slot == k) && is_same_method_type e.ty t) ≡ 0 =
          ap (λ (b : Bool). bit (b && is_same_method_type e.ty t)) (ne_eqb e.slot k (λ q. apart (sym q))) in
          let o' : bit ((x.slot == k) && is_same_method_type x.ty t) ≡ 0 =
          ap (λ (b : Bool). bit (b && is_same_method_type x.ty t)) (ne_eqb x.slot k (λ q. apart (sym q ∙ is))) in
          omega (arith, count (λ y. (y.slot == k) && is_same_method_type y.ty t));
      mine = counted_at (λ y. is_entry y e) (set es i e) i d (omega (arith, Rattle.std.proofs.Common.length-set es i e))
          (ap (λ (y : Entry). is_entry y e) (Rattle.std.proofs.Common.get_or-set_same es i e d lt) ∙ entry-itself e);
    }
