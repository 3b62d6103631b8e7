-- The first character of a text, and what is left after it.
use Rattle.std.proofs.Common.{◌≡◌, ℕ, ◌+◌, ◌-◌, ◌<◌, ◌≤◌, Bool, true, false, ◌&&◌, ltb, inl, inr, List, [], ◌∷◌, length, drop, Some, refl, sym, ap, subst, ◌∙◌, arith}
use Rattle.std.proofs.lemmas.Bool.{cases_lt}
use Rattle.std.proofs.lemmas.Bool.Decides.{nat_tests}
use Rattle.std.proofs.lemmas.List.{drop-drop, length-drop, nil_from_length}
use Rattle.mh_class_bytes.specs.Mutf8.{unit_bytes, unit_len}
use Rattle.mh_class_bytes.specs.Chars.{unit_value, units_from, is_high, is_low, pair_value, as_char, begins_pair, first_char, first_len}
use Rattle.mh_class_bytes.proofs.UnitLen.{unit_len-sound}
use Rattle.mh_class_bytes.proofs.SoundLen.{unit_len-nil}
use Rattle.mh_class_bytes.proofs.Units.{IsSound, units_in-nil, units_in-next, sound-begins, sound-rest, value-front}

abbrev rest_of : List ℕ → List ℕ
rest_of bytes = drop (unit_len bytes) bytes

abbrev pub value : List ℕ → ℕ
value bytes = unit_value (unit_len bytes) bytes

middle : (a b c : Bool) → b ≡ true → (a && b && c) ≡ (a && c)
middle true true c h = refl
middle false b c h = refl
middle true false c h = absurd cc

no_middle : (a b c : Bool) → b ≡ false → (a && b && c) ≡ false
no_middle true false c h = refl
no_middle false b c h = refl
no_middle true true c h = absurd cc

-- How a sound text that is not empty begins.
pub data Begins (bytes : List ℕ) : Type 0 where
  pair : (v : ℕ) (us : List ℕ) → units_from 0 bytes ≡ value bytes ∷ v ∷ us → (is_high (value bytes) && is_low v) ≡ true →
      first_char bytes ≡ Some (pair_value (value bytes) v)
      → 6 ≡ first_len bytes → us ≡ units_from 0 (drop (first_len bytes) bytes) → IsSound (drop (first_len bytes) bytes) → first_len bytes ≤ length bytes →
      Begins bytes
  apart : (v : ℕ) (us : List ℕ) → units_from 0 bytes ≡ value bytes ∷ v ∷ us → (is_high (value bytes) && is_low v) ≡ false →
      first_char bytes ≡ as_char (value bytes)
      → length (unit_bytes (value bytes)) ≡ first_len bytes → v ∷ us ≡ units_from 0 (drop (first_len bytes) bytes) → IsSound (drop (first_len bytes) bytes) →
      first_len bytes ≤ length bytes → Begins bytes
  last : units_from 0 bytes ≡ value bytes ∷ [] → first_char bytes ≡ as_char (value bytes)
      → length (unit_bytes (value bytes)) ≡ first_len bytes → [] ≡ units_from 0 (drop (first_len bytes) bytes) → IsSound (drop (first_len bytes) bytes) →
      first_len bytes ≤ length bytes → Begins bytes

first-pair : (bytes : List ℕ) → begins_pair bytes ≡ true → (first_char bytes ≡ Some (pair_value (value bytes) (value (rest_of bytes))))
    × (first_len bytes ≡ unit_len bytes + unit_len (rest_of bytes))
unfolding first_char first_len
first-pair bytes h = (rw h refl, rw h refl)

first-unit : (bytes : List ℕ) → begins_pair bytes ≡ false → (first_char bytes ≡ as_char (value bytes)) × (first_len bytes ≡ unit_len bytes)
unfolding first_char first_len
first-unit bytes h = (rw h refl, rw h refl)

pub long_half : (u : ℕ) → 0xD800 ≤ u → length (unit_bytes u) ≡ 3
long_half u h = grind (arith, nat_tests)

pub high_low : (u v : ℕ) → (is_high u && is_low v) ≡ true → (0xD800 ≤ u) × (0xD800 ≤ v)
high_low u v h = (grind (arith, nat_tests), grind (arith, nat_tests))

-- How a text begins.
pub begins : (bytes : List ℕ) → IsSound bytes → 0 < length bytes → Begins bytes
begins bytes sound some =
    let pos = sound-begins bytes sound some in
    let rest = rest_of bytes in
    let rest_sound : IsSound rest = sound-rest bytes sound pos in
    let worth = value-front bytes pos in
    let within = (unit_len-sound bytes pos).within in
    let units = units_in-next bytes pos in
    elim (cases_lt 0 (length rest)) [
      | inl more ↦
          let pos2 = sound-begins rest rest_sound more in
          let worth2 = value-front rest pos2 in
          let within2 = (unit_len-sound rest pos2).within in
          let len2 : length rest ≡ length bytes - unit_len bytes = length-drop (unit_len bytes) bytes in
          let units2 = units_in-next rest pos2 in
          let both : units_from 0 bytes ≡ value bytes ∷ value rest ∷ units_from 0 (rest_of rest) = units ∙ ap (λ (us : List ℕ). value bytes ∷ us) units2 in
          let there : ltb 0 (unit_len rest) ≡ true = grind (arith, nat_tests) in
          let test : begins_pair bytes ≡ (is_high (value bytes) && is_low (value rest)) =
          middle (is_high (value bytes)) (ltb 0 (unit_len rest)) (is_low (value rest)) there in
          let go : (t : Bool) → (is_high (value bytes) && is_low (value rest)) ≡ t → Begins bytes = λ t.
          elim t as (λ t. (is_high (value bytes) && is_low (value rest)) ≡ t → Begins bytes) [
            | true ↦ λ h.
                let f = first-pair bytes (test ∙ h) in
                let hl = high_low (value bytes) (value rest) h in
                let six : 6 ≡ first_len bytes = omega (arith, f.1, worth.len_is, worth2.len_is, long_half (value bytes) hl.0, long_half (value rest) hl.1) in
                let d : drop (first_len bytes) bytes ≡ rest_of rest = ap (λ (n : ℕ). drop n bytes) f.1 ∙ sym (drop-drop (unit_len rest) (unit_len bytes) bytes)
                in
                pair (value rest) (units_from 0 (rest_of rest)) both h f.0 six (ap (units_from 0) (sym d))
                (subst IsSound (sym d) (sound-rest rest rest_sound pos2)) (omega (arith, f.1, within, within2, len2))
            | false ↦ λ h.
                let f = first-unit bytes (test ∙ h) in
                let d : drop (first_len bytes) bytes ≡ rest = ap (λ (n : ℕ). drop n bytes) f.1 in
                apart (value rest) (units_from 0 (rest_of rest)) both h f.0 (sym (f.1 ∙ worth.len_is)) (sym (ap (units_from 0) d ∙ units2))
                (subst IsSound (sym d) rest_sound) (omega (arith, f.1, within))
          ] in
          go (is_high (value bytes) && is_low (value rest)) refl
      | inr none ↦
          let nil : rest ≡ [] = nil_from_length rest (omega arith) in
          let no_len : unit_len rest ≡ 0 = ap unit_len nil ∙ unit_len-nil in
          let none_there : ltb 0 (unit_len rest) ≡ false = rw no_len refl in
          let f = first-unit bytes (no_middle (is_high (value bytes)) (ltb 0 (unit_len rest)) (is_low (value rest)) none_there) in
          let d : drop (first_len bytes) bytes ≡ rest = ap (λ (n : ℕ). drop n bytes) f.1 in
          let no_units : units_from 0 rest ≡ [] = ap (units_from 0) nil ∙ units_in-nil in
          last (units ∙ ap (λ (us : List ℕ). value bytes ∷ us) no_units) f.0 (sym (f.1 ∙ worth.len_is)) (sym (ap (units_from 0) d ∙ no_units))
          (subst IsSound (sym d) rest_sound) (omega (arith, f.1, within))
    ]
