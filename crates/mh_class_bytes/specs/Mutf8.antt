-- Modified UTF-8 (JVMS 4.4.7): a text is a list of UTF-16 units, each with one spelling.
use Rattle.std.specs.Prelude.{◌≡◌, ℕ, zero, suc, ◌+◌, ◌-◌, ◌/◌, ◌%◌, ◌^◌, ◌<◌, Bool, ◌&&◌, ◌||◌, List, [], ◌∷◌, ◌++◌, length, take, drop, nat_lt, nat_le, ◌==◌, slice_index, if◌then◌else◌}
use Rattle.std.specs.List.{flat_map, AllByRecursion}

-- the spelling of a unit: one byte for U+0001 to U+007F, two for U+0000 and up to U+07FF, three above
abbrev pub unit_bytes : ℕ → List ℕ
unit_bytes u =
    if nat_lt 0 u && nat_lt u 0x80 then u ∷ []
    else (if nat_lt u 0x800 then (0xC0 + u / 64) ∷ (0x80 + u % 64) ∷ []
    else (0xE0 + u / 4096) ∷ (0x80 + u / 64 % 64) ∷ (0x80 + u % 64) ∷ [])

-- numbers of 16 bits
abbrev pub AreUnits : List ℕ → Type 0
AreUnits units = AllByRecursion (λ u. u < 2 ^ 16) units

-- the bytes are a text: units, spelled one after the other
abbrev pub IsText : List ℕ → Type 0
IsText bytes = (units : List ℕ) × AreUnits units × (bytes ≡ flat_map unit_bytes units)

-- there is a text before the place, and no unit is spelled at it
pub record IsBadAt (bytes : List ℕ) (at : ℕ) : Type 0 where
  pub within : at < length bytes
  pub before : IsText (take at bytes)
  pub here : (u : ℕ) (rest : List ℕ) → u < 2 ^ 16 → ¬ (drop at bytes ≡ unit_bytes u ++ rest)

-- a byte 10xxxxxx
abbrev pub is_continuation : ℕ → Bool
is_continuation b = nat_le 0x80 b && nat_lt b 0xC0

-- how many bytes the first unit takes; 0 if none is spelled there
unfoldable pub unit_len : List ℕ → ℕ
unit_len [] = 0
unit_len (a ∷ rest) =
    if nat_lt 0 a && nat_lt a 0x80 then 1
    else (if (a == 0xC0 && slice_index rest 0 == 0x80) || (nat_le 0xC2 a && nat_lt a 0xE0 && is_continuation (slice_index rest 0)) then 2
    else (if ((a == 0xE0 && nat_le 0xA0 (slice_index rest 0)) || (nat_lt 0xE0 a && nat_lt a 0xF0)) && is_continuation (slice_index rest 0) && is_continuation
    (slice_index rest 1) then 3
    else 0))

-- how many bytes of whole units are at the front, after the bytes inside the first one that are passed
unfoldable pub sound_from : ℕ → List ℕ → ℕ
sound_from inside [] = 0
sound_from (suc inside) (b ∷ bytes) = suc (sound_from inside bytes)
sound_from zero (b ∷ bytes) = if unit_len (b ∷ bytes) == 0 then 0 else suc (sound_from (unit_len (b ∷ bytes) - 1) bytes)

-- how many bytes of whole units are at the front: all of a text, and otherwise the place of the first bad byte
abbrev pub sound_len : List ℕ → ℕ
sound_len bytes = sound_from 0 bytes
