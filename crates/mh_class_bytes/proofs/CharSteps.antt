-- The first character of a text, as it is found and as it is shown, and the rest of the text.
use Rattle.std.proofs.Common.{◌≡◌, ℕ, ◌+◌, ◌<◌, ◌≤◌, Bool, true, false, ◌&&◌, cond, List, [], ◌∷◌, length, drop, Option, Some, None, Result, Ok, Err, refl, ap, ◌∙◌, arith}
use Rattle.std.specs.Prelude.{unwrap_or}
use Rattle.mh_class_bytes.specs.Mutf8.{unit_bytes}
use Rattle.mh_class_bytes.specs.Chars.{units_from, is_high, is_low, is_half, pair_value, as_char, first_char, first_len, shown_unit, shown, preceded_by, chars_from}
use Rattle.mh_class_bytes.proofs.Texts.{unit_bytes-some}
use Rattle.mh_class_bytes.proofs.Units.{IsSound}
use Rattle.mh_class_bytes.proofs.FirstChar.{Begins, pair, apart, last, value}

shown-pair : (u v : ℕ) (us : List ℕ) → (is_high u && is_low v) ≡ true → shown (u ∷ v ∷ us) ≡ pair_value u v ∷ shown us
unfolding shown
shown-pair u v us h = rw h refl

shown-apart : (u v : ℕ) (us : List ℕ) → (is_high u && is_low v) ≡ false → shown (u ∷ v ∷ us) ≡ shown_unit u ∷ shown (v ∷ us)
unfolding shown
shown-apart u v us h = rw h refl

shown-last : (u : ℕ) → shown (u ∷ []) ≡ shown_unit u ∷ shown []
unfolding shown
shown-last u = refl

pub shown-nil : shown [] ≡ []
unfolding shown
shown-nil = refl

-- a unit by itself, as it is shown
alone : (u : ℕ) → shown_unit u ≡ unwrap_or (as_char u) 0xFFFD
alone u = go (is_half u)
  where
    go : (t : Bool) → cond t 0xFFFD u ≡ unwrap_or (cond t None (Some u)) 0xFFFD
    go true = refl
    go false = refl

-- the first character as it is shown, and the rest
pub shown-first : (bytes : List ℕ) → Begins bytes → shown (units_from 0 bytes) ≡ unwrap_or (first_char bytes) 0xFFFD ∷ shown
    (units_from 0 (drop (first_len bytes) bytes))
shown-first bytes (pair v us e t f l r s w) = rw (e, f, ← r) (shown-pair (value bytes) v us t)
shown-first bytes (apart v us e t f l r s w) = rw (e, f, ← r) (shown-apart (value bytes) v us t ∙ ap (λ (c : ℕ). c ∷ shown (v ∷ us)) (alone (value bytes)))
shown-first bytes (last e f l r s w) = rw (e, f, ← r) (shown-last (value bytes) ∙ ap (λ (c : ℕ). c ∷ shown []) (alone (value bytes)))

-- a character and the rest, or the place of a half without a partner
abbrev pub told : Option ℕ → ℕ → Result (List ℕ) ℕ → Result (List ℕ) ℕ
told None at rest = Err at
told (Some c) at rest = preceded_by (c ∷ []) rest

chars-pair : (at u v : ℕ) (us : List ℕ) → (is_high u && is_low v) ≡ true → chars_from at (u ∷ v ∷ us) ≡ preceded_by (pair_value u v ∷ [])
    (chars_from (at + 6) us)
unfolding chars_from
chars-pair at u v us h = rw h refl

chars-apart : (at u v : ℕ) (us : List ℕ) → (is_high u && is_low v) ≡ false →
    chars_from at (u ∷ v ∷ us) ≡ told (as_char u) at (chars_from (at + length (unit_bytes u)) (v ∷ us))
unfolding chars_from
chars-apart at u v us h = rw h (go (is_half u) (chars_from (at + length (unit_bytes u)) (v ∷ us)))
  where
    go : (t : Bool) (r : Result (List ℕ) ℕ) → cond t (Err at) (preceded_by (u ∷ []) r) ≡ told (cond t None (Some u)) at r
    go true r = refl
    go false r = refl

chars-last : (at u : ℕ) → chars_from at (u ∷ []) ≡ told (as_char u) at (chars_from (at + length (unit_bytes u)) [])
unfolding chars_from
chars-last at u = go (is_half u)
  where
    go : (t : Bool) → cond t (Err at) (Ok (u ∷ [])) ≡ told (cond t None (Some u)) at (Ok [])
    go true = refl
    go false = refl

pub chars-nil : (at : ℕ) → chars_from at [] ≡ Ok []
unfolding chars_from
chars-nil at = refl

-- the first character, and the rest
pub chars-first : (bytes : List ℕ) (at : ℕ) → Begins bytes → chars_from at (units_from 0 bytes) ≡ told (first_char bytes) at
    (chars_from (at + first_len bytes) (units_from 0 (drop (first_len bytes) bytes)))
chars-first bytes at (pair v us e t f l r s w) = rw (e, f, ← r, ← l) (chars-pair at (value bytes) v us t)
chars-first bytes at (apart v us e t f l r s w) = rw (e, f, ← r, ← l) (chars-apart at (value bytes) v us t)
chars-first bytes at (last e f l r s w) = rw (e, f, ← r, ← l) (chars-last at (value bytes))

pub begins-rest : (bytes : List ℕ) → Begins bytes → IsSound (drop (first_len bytes) bytes) × (first_len bytes ≤ length bytes)
begins-rest bytes (pair v us e t f l r s w) = (s, w)
begins-rest bytes (apart v us e t f l r s w) = (s, w)
begins-rest bytes (last e f l r s w) = (s, w)

pub begins-some : (bytes : List ℕ) → Begins bytes → 0 < first_len bytes
begins-some bytes (pair v us e t f l r s w) = omega arith
begins-some bytes (apart v us e t f l r s w) = omega (arith, l, unit_bytes-some (value bytes))
begins-some bytes (last e f l r s w) = omega (arith, l, unit_bytes-some (value bytes))
