-- The characters of a text: its UTF-16 units, a high half joined with the low half after it (JVMS SE 17, 4.4.7; RFC 2781, 2.2).
use Rattle.std.specs.Prelude.{◌≡◌, ℕ, zero, suc, ◌+◌, ◌-◌, ◌*◌, ◌/◌, ◌%◌, ◌≤◌, ◌<◌, List, [], ◌∷◌, ◌++◌, length, take, drop, nat_lt, nat_le, ◌==◌, slice_index, Bool, true, false, ◌&&◌, Option, Some, None, Result, Ok, Err, if◌then◌else◌}
use Rattle.std.specs.List.{flat_map, AllByRecursion}
use Rattle.mh_class_bytes.specs.Mutf8.{AreUnits, unit_bytes, unit_len}
use Rattle.mh_class_bytes.specs.declared.chars.CharsError.{CharsError}
use Rattle.mh_class_bytes.specs.declared.chars.CharsError.TheVariants.{NoMemory, LoneSurrogate}

-- the first half of a pair
abbrev pub is_high : ℕ → Bool
is_high u = nat_le 0xD800 u && nat_lt u 0xDC00

-- the second half of a pair
abbrev pub is_low : ℕ → Bool
is_low u = nat_le 0xDC00 u && nat_lt u 0xE000

-- a half of a pair, which is no character by itself
abbrev pub is_half : ℕ → Bool
is_half u = nat_le 0xD800 u && nat_lt u 0xE000

-- the supplementary character of a pair
abbrev pub pair_value : ℕ → ℕ → ℕ
pair_value high low = 0x10000 + 1024 * (high - 0xD800) + (low - 0xDC00)

-- the units of a character: two for a supplementary one
abbrev pub units_of : ℕ → List ℕ
units_of c = if nat_lt c 0x10000 then c ∷ [] else (0xD800 + (c - 0x10000) / 1024) ∷ (0xDC00 + (c - 0x10000) % 1024) ∷ []

-- characters: numbers below 0x110000, none of them a half of a pair
abbrev pub AreChars : List ℕ → Type 0
AreChars cs = AllByRecursion (λ c. (c < 0x110000) × (is_half c ≡ false)) cs

-- characters, spelled one after the other
abbrev pub spelled : List ℕ → List ℕ
spelled cs = flat_map (λ c. flat_map unit_bytes (units_of c)) cs

-- the first half without a partner: there are characters before it, and it begins no pair
pub record IsLoneAt (bytes : List ℕ) (at : ℕ) : Type 0 where
  pub chars : List ℕ
  pub whole : AreChars chars
  pub before : take at bytes ≡ spelled chars
  pub half : ℕ
  pub rest : List ℕ
  pub is_half : (0xD800 ≤ half) × (half < 0xE000)
  pub here : drop at bytes ≡ unit_bytes half ++ rest
  pub alone : (low : ℕ) (more : List ℕ) → is_high half ≡ true → is_low low ≡ true → ¬ (rest ≡ unit_bytes low ++ more)

-- the unit that the first bytes spell, this many
abbrev pub unit_value : ℕ → List ℕ → ℕ
unit_value len bytes =
    if len == 1 then slice_index bytes 0
    else (if len == 2 then 64 * (slice_index bytes 0 - 0xC0) + (slice_index bytes 1 - 0x80)
    else 4096 * (slice_index bytes 0 - 0xE0) + 64 * (slice_index bytes 1 - 0x80) + (slice_index bytes 2 - 0x80))

-- the units that a text spells, after the bytes inside the first one that are passed
unfoldable pub units_from : ℕ → List ℕ → List ℕ
units_from inside [] = []
units_from (suc inside) (b ∷ bytes) = units_from inside bytes
units_from zero (b ∷ bytes) = unit_value (unit_len (b ∷ bytes)) (b ∷ bytes) ∷ units_from (unit_len (b ∷ bytes) - 1) bytes

-- the units that a text spells
abbrev pub units_in : List ℕ → List ℕ
units_in bytes = units_from 0 bytes

-- a unit as it is shown outside a pair: U+FFFD for a half
abbrev pub shown_unit : ℕ → ℕ
shown_unit u = if is_half u then 0xFFFD else u

-- units as they are shown: pairs joined, and U+FFFD for each half without a partner
unfoldable pub shown : List ℕ → List ℕ
shown [] = []
shown (u ∷ []) = shown_unit u ∷ []
shown (u ∷ v ∷ units) = if is_high u && is_low v then pair_value u v ∷ shown units else shown_unit u ∷ shown (v ∷ units)

-- a text is shown as these characters
abbrev pub IsShownAs : List ℕ → List ℕ → Type 0
IsShownAs bytes cs = (units : List ℕ) × AreUnits units × (bytes ≡ flat_map unit_bytes units) × (cs ≡ shown units)

-- how a text is shown
abbrev pub shown_text : List ℕ → List ℕ
shown_text bytes = shown (units_in bytes)

-- characters with others before them
abbrev pub preceded_by : List ℕ → Result (List ℕ) ℕ → Result (List ℕ) ℕ
preceded_by front (Ok cs) = Ok (front ++ cs)
preceded_by front (Err at) = Err at

-- the characters of units whose spelling begins at a place, or the place of the first half without a partner
unfoldable pub chars_from : ℕ → List ℕ → Result (List ℕ) ℕ
chars_from at [] = Ok []
chars_from at (u ∷ []) = if is_half u then Err at else Ok (u ∷ [])
chars_from at (u ∷ v ∷ units) =
    if is_high u && is_low v then preceded_by (pair_value u v ∷ []) (chars_from (at + 6) units)
    else (if is_half u then Err at else preceded_by (u ∷ []) (chars_from (at + length (unit_bytes u)) (v ∷ units)))

-- the characters of a text, or the place of the first half without a partner
abbrev pub chars_of : List ℕ → Result (List ℕ) ℕ
chars_of bytes = chars_from 0 (units_in bytes)

-- a number as a character, which a half of a pair is not
abbrev pub as_char : ℕ → Option ℕ
as_char u = if is_half u then None else Some u

-- whether a text begins with a pair
abbrev pub begins_pair : List ℕ → Bool
begins_pair bytes =
    let rest = drop (unit_len bytes) bytes in
    is_high (unit_value (unit_len bytes) bytes) && nat_lt 0 (unit_len rest) && is_low (unit_value (unit_len rest) rest)

-- the character that a text begins with, if it is no half without a partner
unfoldable pub first_char : List ℕ → Option ℕ
first_char bytes =
    let rest = drop (unit_len bytes) bytes in
    let unit = unit_value (unit_len bytes) bytes in
    if begins_pair bytes then Some (pair_value unit (unit_value (unit_len rest) rest)) else as_char unit

-- how many bytes the first character takes, or the half without a partner
unfoldable pub first_len : List ℕ → ℕ
first_len bytes = if begins_pair bytes then unit_len bytes + unit_len (drop (unit_len bytes) bytes) else unit_len bytes

-- what was answered is the characters that a text has, or the place where it has none; about lack of memory nothing is said
abbrev pub Decodes : {X : Type 0} → (X → List ℕ) → Result X CharsError → Result (List ℕ) ℕ → Type 0
Decodes view (Ok x) chars = chars ≡ Ok (view x)
Decodes view (Err NoMemory) chars = Unit {0}
Decodes view (Err (LoneSurrogate at)) chars = chars ≡ Err at

-- the place that a refusal names, unless memory ran out, has a property
abbrev pub IfLone : {X : Type 0} → Result X CharsError → (ℕ → Type 0) → Type 0
IfLone (Ok x) P = Unit {0}
IfLone (Err NoMemory) P = Unit {0}
IfLone (Err (LoneSurrogate at)) P = P at
