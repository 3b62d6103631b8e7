-- Hexadecimal digits: what a reader takes of them, and the number that they write.
use Rattle.std.proofs.Common.{◌≡◌, refl, sym, ap, ◌∙◌, ℕ, ◌+◌, ◌-◌, ◌*◌, ◌≤◌, ◌==◌, inl, inr, Bool, true, false, ◌&&◌, cond, if◌then◌else◌, nat_le, nat_lt, List, [], ◌∷◌, ◌++◌, None, Some, arith}
use Rattle.std.proofs.lemmas.Bool.{and_parts, and_from, and_right, or_left, or_right, or_cases, leb-true, lt-leb, le-ltb, lt-ltb, ne_eqb}
use Rattle.std.specs.Char.{digit_value}
use Rattle.std.specs.List.{list_all}
use Rattle.std.specs.Str.Parse.{digits_value_after}
use Rattle.mh_texts.specs.Characters.{is_hex_digit}
use Rattle.mh_texts.specs.Escapes.{hex_value}
use Rattle.mh_base.proofs.Inversion.{by_test, some_is, none_is_not}

pub all_push : (test : ℕ → Bool) (xs : List ℕ) (x : ℕ) → list_all test xs ≡ true → test x ≡ true → list_all test (xs ++ x ∷ []) ≡ true
all_push test [] x all one = and_from (test x) true one refl
all_push test (y ∷ ys) x all one =
    let parts = and_parts (test y) (list_all test ys) all in
    and_from (test y) (list_all test (ys ++ x ∷ [])) parts.0 (all_push test ys x parts.1 one)

pub value_push : (n : ℕ) (ds : List ℕ) (d : ℕ) → digits_value_after 16 n (ds ++ d ∷ []) ≡ digits_value_after 16 n ds * 16 + digit_value d
value_push n [] d = refl
value_push n (x ∷ xs) d = value_push (n * 16 + digit_value x) xs d

small_digit : (b : ℕ) → 48 ≤ b → b ≤ 57 → digit_value b ≡ b - 48
small_digit b low high =
    ap (λ t. cond t 36 (cond (nat_lt b 58) (b - 48) (cond (nat_lt b 65) 36 (cond (nat_lt b 91) (b - 55) (cond (nat_lt b 97) 36
    (cond (nat_lt b 123) (b - 87) 36)))))) (le-ltb b 48 low)
    ∙ ap (λ t. cond t (b - 48) (cond (nat_lt b 65) 36 (cond (nat_lt b 91) (b - 55) (cond (nat_lt b 97) 36 (cond (nat_lt b 123) (b - 87) 36)))))
    (lt-ltb b 58 (omega arith))

letter_digit : (b : ℕ) → 97 ≤ b → b ≤ 102 → digit_value b ≡ b - 87
letter_digit b low high =
    ap (λ t. cond t 36 (cond (nat_lt b 58) (b - 48) (cond (nat_lt b 65) 36 (cond (nat_lt b 91) (b - 55) (cond (nat_lt b 97) 36
    (cond (nat_lt b 123) (b - 87) 36)))))) (le-ltb b 48 (omega arith))
    ∙ ap (λ t. cond t (b - 48) (cond (nat_lt b 65) 36 (cond (nat_lt b 91) (b - 55) (cond (nat_lt b 97) 36 (cond (nat_lt b 123) (b - 87) 36)))))
    (le-ltb b 58 (omega arith))
    ∙ ap (λ t. cond t 36 (cond (nat_lt b 91) (b - 55) (cond (nat_lt b 97) 36 (cond (nat_lt b 123) (b - 87) 36)))) (le-ltb b 65 (omega arith))
    ∙ ap (λ t. cond t (b - 55) (cond (nat_lt b 97) 36 (cond (nat_lt b 123) (b - 87) 36))) (le-ltb b 91 (omega arith))
    ∙ ap (λ t. cond t 36 (cond (nat_lt b 123) (b - 87) 36)) (le-ltb b 97 (omega arith))
    ∙ ap (λ t. cond t (b - 87) 36) (lt-ltb b 123 (omega arith))

-- a digit that has a value is a digit, of that value
pub hex_is : (b d : ℕ) → hex_value b ≡ Some d → (is_hex_digit b ≡ true) × (digit_value b ≡ d)
hex_is b d told =
    by_test (nat_le 48 b && nat_le b 57) (Some (b - 48)) (if nat_le 97 b && nat_le b 102 then Some (b - 87) else None) (Some d) told
    (λ e is. let parts = and_parts _ _ e in (or_left _ _ e, small_digit b (leb-true _ _ parts.0) (leb-true _ _ parts.1) ∙ some_is _ _ is))
    (λ e is. by_test (nat_le 97 b && nat_le b 102) (Some (b - 87)) None (Some d) is
    (λ e is. let parts = and_parts _ _ e in (or_right _ _ e, letter_digit b (leb-true _ _ parts.0) (leb-true _ _ parts.1) ∙ some_is _ _ is))
    (λ e is. none_is_not d is))

-- a digit has a value, and is no `}`
pub hex_has : (b : ℕ) → is_hex_digit b ≡ true → (hex_value b ≡ Some (digit_value b)) × ((b == 125) ≡ false)
hex_has b is =
    elim (or_cases (nat_le 48 b && nat_le b 57) (nat_le 97 b && nat_le b 102) is) [
      | inl e ↦
          let parts = and_parts _ _ e in
          let high : b ≤ 57 = leb-true _ _ parts.1 in (
            ap (λ t. if t then Some (b - 48) else (if nat_le 97 b && nat_le b 102 then Some (b - 87) else None)) e
                ∙ ap Some (sym (small_digit b (leb-true _ _ parts.0) high)),
            ne_eqb b 125 (λ h. omega arith),
          )
      | inr e ↦
          let parts = and_parts _ _ e in
          let low : 97 ≤ b = leb-true _ _ parts.0 in
          let high : b ≤ 102 = leb-true _ _ parts.1 in
          let other : (nat_le 48 b && nat_le b 57) ≡ false = and_right (nat_le 48 b) (nat_le b 57) (lt-leb b 57 (omega arith)) in (
            ap (λ t. if t then Some (b - 48) else (if nat_le 97 b && nat_le b 102 then Some (b - 87) else None)) other
                ∙ ap (λ t. if t then Some (b - 87) else None) e ∙ ap Some (sym (letter_digit b low high)),
            ne_eqb b 125 (λ h. omega arith),
          )
    ]
