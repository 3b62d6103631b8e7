-- The units that a text spells.
use Rattle.std.proofs.Common.{◌≡◌, ℕ, zero, suc, ◌-◌, ◌^◌, ◌<◌, ◌≤◌, Bool, true, false, ◌&&◌, cond, ltb, List, [], ◌∷◌, ◌++◌, length, take, drop, refl, sym, ap, ◌∙◌, arith}
use Rattle.std.proofs.lemmas.List.{drop_at, length-drop, get_or-take, length-append, take_at}
use Rattle.std.specs.List.{flat_map}
use Rattle.std.proofs.lemmas.List.Concat.{flat_map-cons}
use Rattle.mh_class_bytes.specs.Mutf8.{AreUnits, unit_bytes, unit_len, sound_from}
use Rattle.mh_class_bytes.specs.Chars.{unit_value, units_from}
use Rattle.mh_class_bytes.proofs.UnitSpelling.{unit_value-bytes}
use Rattle.mh_class_bytes.proofs.UnitLen.{unit_len-sound}
use Rattle.mh_class_bytes.proofs.UnitLenComplete.{unit_len-complete}
use Rattle.mh_class_bytes.proofs.SoundLen.{sound_from-none, sound_from-unit}
use Rattle.mh_class_bytes.proofs.Texts.{unit_bytes-some}

-- bytes that are whole units, to the last
abbrev pub IsSound : List ℕ → Type 0
IsSound bytes = sound_from 0 bytes ≡ length bytes

units_from-skip : (k : ℕ) (bytes : List ℕ) → k ≤ length bytes → units_from k bytes ≡ units_from 0 (drop k bytes)
unfolding units_from
units_from-skip zero bytes h = refl
units_from-skip (suc k) [] h = absurd (omega arith)
units_from-skip (suc k) (b ∷ bytes) h = units_from-skip k bytes (omega arith)

pub units_in-nil : units_from 0 [] ≡ []
unfolding units_from
units_in-nil = refl

units_in-cons : (b : ℕ) (bytes : List ℕ) (k : ℕ) → unit_len (b ∷ bytes) ≡ suc k → k ≤ length bytes →
    units_from 0 (b ∷ bytes) ≡ unit_value (suc k) (b ∷ bytes) ∷ units_from 0 (drop k bytes)
unfolding units_from
units_in-cons b bytes k h le =
    let e : suc k - 1 ≡ k = omega arith in
    rw (h, e) (ap (λ (us : List ℕ). unit_value (suc k) (b ∷ bytes) ∷ us) (units_from-skip k bytes le))

-- the units of bytes that begin with one
pub units_in-next : (bytes : List ℕ) → 0 < unit_len bytes → units_from 0 bytes ≡ unit_value (unit_len bytes) bytes ∷ units_from 0 (drop (unit_len bytes) bytes)
units_in-next [] h = absurd (omega (arith, (unit_len-sound [] h).within))
units_in-next (b ∷ bytes) h =
    let k = unit_len (b ∷ bytes) - 1 in
    let ek : unit_len (b ∷ bytes) ≡ suc k = omega arith in
    let f = (unit_len-sound (b ∷ bytes) h).within in
    rw ek (units_in-cons b bytes k ek (omega arith))

-- a sound text that is not empty begins with a unit
pub sound-begins : (bytes : List ℕ) → IsSound bytes → 0 < length bytes → 0 < unit_len bytes
sound-begins bytes s h = more (unit_len bytes) refl
  where
    more : (n : ℕ) → unit_len bytes ≡ n → 0 < unit_len bytes
    more zero e = absurd (omega (arith, s, sound_from-none bytes e))
    more (suc n) e = omega arith

-- what follows a unit of a sound text is sound
pub sound-rest : (bytes : List ℕ) → IsSound bytes → 0 < unit_len bytes → IsSound (drop (unit_len bytes) bytes)
sound-rest bytes s h =
    let k = unit_len bytes - 1 in
    let ek : unit_len bytes ≡ suc k = omega arith in
    let e = sound_from-unit bytes k ek in
    rw ek (omega (arith, s, e, length-drop (suc k) bytes))

value-take : (n : ℕ) (bytes : List ℕ) → 0 < n → n < 4 → n ≤ length bytes → unit_value n (take n bytes) ≡ unit_value n bytes
value-take zero bytes h k le = absurd (omega arith)
value-take (suc zero) bytes h k le = rw (get_or-take 1 bytes 0 0 (omega arith)) refl
value-take (suc (suc zero)) bytes h k le = rw (get_or-take 2 bytes 0 0 (omega arith), get_or-take 2 bytes 1 0 (omega arith)) refl
value-take (suc (suc (suc zero))) bytes h k le = rw (
  get_or-take 3 bytes 0 0 (omega arith),
  get_or-take 3 bytes 1 0 (omega arith),
  get_or-take 3 bytes 2 0
      (omega arith),
) refl
value-take (suc (suc (suc (suc n)))) bytes h k le = absurd (omega arith)

unit_bytes-few : (u : ℕ) → length (unit_bytes u) < 4
unit_bytes-few u = few (ltb 0 u && ltb u 0x80) (ltb u 0x800) (u ∷ []) _ _ (omega arith) (omega arith) (omega arith)
  where
    few : (t1 t2 : Bool) (x y z : List ℕ) → length x < 4 → length y < 4 → length z < 4 → length (cond t1 x (cond t2 y z)) < 4
    few true t2 x y z h k l = h
    few false true x y z h k l = k
    few false false x y z h k l = l

-- What the first unit is worth.
pub record IsWorth (bytes : List ℕ) : Type 0 where
  pub small : unit_value (unit_len bytes) bytes < 2 ^ 16
  pub len_is : unit_len bytes ≡ length (unit_bytes (unit_value (unit_len bytes) bytes))
  pub front : take (unit_len bytes) bytes ≡ unit_bytes (unit_value (unit_len bytes) bytes)

-- The first unit is spelled there.
pub value-front : (bytes : List ℕ) → 0 < unit_len bytes → IsWorth bytes
value-front bytes h =
    let f = unit_len-sound bytes h in
    let few = unit_bytes-few f.unit in
    let taken : unit_value (unit_len bytes) (take (unit_len bytes) bytes) ≡ unit_value (unit_len bytes) bytes =
    value-take (unit_len bytes) bytes h (omega (arith, f.len_is)) f.within in
    let spelled : unit_value (unit_len bytes) (take (unit_len bytes) bytes) ≡ f.unit = ap (unit_value (unit_len bytes)) f.front ∙
    ap (λ (n : ℕ). unit_value n (unit_bytes f.unit)) f.len_is ∙ unit_value-bytes f.unit f.small in
    let is : unit_value (unit_len bytes) bytes ≡ f.unit = sym taken ∙ spelled in
    record { small = omega (arith, is, f.small); len_is = f.len_is ∙ ap (λ (u : ℕ). length (unit_bytes u)) (sym is); front = f.front ∙ ap unit_bytes (sym is) }

-- the value of a spelling, whatever follows it
pub value-spelled : (u : ℕ) (rest : List ℕ) → u < 2 ^ 16 → unit_value (unit_len (unit_bytes u ++ rest)) (unit_bytes u ++ rest) ≡ u
value-spelled u rest h =
    let len = unit_len-complete u rest h in
    let front : take (length (unit_bytes u)) (unit_bytes u ++ rest) ≡ unit_bytes u = take_at (unit_bytes u) rest _ refl in
    let v = value-take (length (unit_bytes u)) (unit_bytes u ++ rest) (unit_bytes-some u) (unit_bytes-few u) (omega (arith, length-append (unit_bytes u) rest))
    in
    ap (λ (n : ℕ). unit_value n (unit_bytes u ++ rest)) len ∙ sym v ∙ ap (unit_value (length (unit_bytes u))) front ∙ unit_value-bytes u h

-- The units of a spelling are the units.
pub units_in-spelled : (units : List ℕ) → AreUnits units → units_from 0 (flat_map unit_bytes units) ≡ units
units_in-spelled [] h = units_in-nil
units_in-spelled (u ∷ units) h =
    let rest = flat_map unit_bytes units in
    let len = unit_len-complete u rest h.0 in
    let some = unit_bytes-some u in
    let next = units_in-next (unit_bytes u ++ rest) (omega (arith, len, some)) in
    let d : drop (unit_len (unit_bytes u ++ rest)) (unit_bytes u ++ rest) ≡ rest = drop_at (unit_bytes u) rest _ (sym len) in
    let v = value-spelled u rest h.0 in
    rw flat_map-cons (next ∙ ap (λ (w : ℕ). w ∷ units_from 0 (drop (unit_len (unit_bytes u ++ rest)) (unit_bytes u ++ rest))) v ∙
    ap (λ (bs : List ℕ). u ∷ units_from 0 bs) d ∙ ap (λ (us : List ℕ). u ∷ us) (units_in-spelled units h.1))
