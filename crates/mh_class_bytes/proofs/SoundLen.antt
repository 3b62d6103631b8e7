-- Going over the bytes of a text, unit by unit.
use Rattle.std.proofs.Common.{get_or, drop-cons, ap, sym, ◌∙◌, ◌≡◌, ℕ, zero, suc, ◌+◌, ◌-◌, ◌<◌, ◌≤◌, List, [], ◌∷◌, length, drop, refl, arith}
use Rattle.std.proofs.lemmas.Bool.Decides.{nat_tests}
use Rattle.std.proofs.lemmas.List.{drop-drop, length-drop, nil_from_length}
use Rattle.mh_class_bytes.specs.Mutf8.{unit_len, sound_from}
use Rattle.mh_class_bytes.proofs.UnitLen.{unit_len-sound}
use Rattle.mh_class_bytes.proofs.UnitLenComplete.{len_1}

pub sound_from-skip : (k : ℕ) (bytes : List ℕ) → k ≤ length bytes → sound_from k bytes ≡ k + sound_from 0 (drop k bytes)
unfolding sound_from
sound_from-skip zero bytes h = grind arith
sound_from-skip (suc k) [] h = absurd (omega arith)
sound_from-skip (suc k) (b ∷ bytes) h = omega (arith, sound_from-skip k bytes (omega arith))

pub sound_from-none : (bytes : List ℕ) → unit_len bytes ≡ 0 → sound_from 0 bytes ≡ 0
unfolding sound_from
sound_from-none [] h = refl
sound_from-none (b ∷ bytes) h = rw h refl

pub unit_len-nil : unit_len [] ≡ 0
unfolding unit_len
unit_len-nil = refl

pub sound_from-unit : (bytes : List ℕ) (k : ℕ) → unit_len bytes ≡ suc k → sound_from 0 bytes ≡ suc k + sound_from 0 (drop (suc k) bytes)
unfolding sound_from
sound_from-unit [] k h = absurd (omega (arith, unit_len-nil))
sound_from-unit (b ∷ bytes) k h =
    let within : suc k ≤ length (b ∷ bytes) = rw h at (unit_len-sound (b ∷ bytes) (omega arith)).within in
    let skip = sound_from-skip k bytes (omega arith) in
    rw h (grind (arith, nat_tests, skip))

-- one turn of the check
pub sound_step : (bytes : List ℕ) (at len total : ℕ) → len ≡ unit_len (drop at bytes) → at + sound_from 0 (drop at bytes) ≡ total → 0 < len →
    (at + len) + sound_from 0 (drop (at + len) bytes) ≡ total
sound_step bytes at len total is h pos =
    let k = len - 1 in
    let ek : unit_len (drop at bytes) ≡ suc k = omega arith in
    let lk : len ≡ suc k = omega arith in
    let e = sound_from-unit (drop at bytes) k ek in
    let d : drop (suc k) (drop at bytes) ≡ drop (at + suc k) bytes = drop-drop (suc k) at bytes in
    let e2 : sound_from 0 (drop at bytes) ≡ suc k + sound_from 0 (drop (at + suc k) bytes) = rw d at e in
    rw lk (omega (arith, e2))

pub sound_stop : (bytes : List ℕ) (at total : ℕ) → at + sound_from 0 (drop at bytes) ≡ total → unit_len (drop at bytes) ≡ 0 → at ≡ total
sound_stop bytes at total h none = omega (arith, sound_from-none (drop at bytes) none)

pub sound_from-nil : sound_from 0 [] ≡ 0
unfolding sound_from
sound_from-nil = refl

pub sound_end : (bytes : List ℕ) (at : ℕ) → at ≤ length bytes → length bytes ≤ at → at + sound_from 0 (drop at bytes) ≡ sound_from 0 bytes →
    sound_from 0 bytes ≡ length bytes
sound_end bytes at le ge h =
    let e : drop at bytes ≡ [] = nil_from_length (drop at bytes) (omega (arith, length-drop at bytes)) in
    let z : sound_from 0 (drop at bytes) ≡ 0 = rw e sound_from-nil in
    omega arith

-- one byte that is a unit by itself
pub sound_plain : (bytes : List ℕ) (at total : ℕ) → at < length bytes → 1 ≤ get_or bytes at 0 → get_or bytes at 0 ≤ 0x7F →
    at + sound_from 0 (drop at bytes) ≡ total → (at + 1) + sound_from 0 (drop (at + 1) bytes) ≡ total
sound_plain bytes at total lt low high h =
    let one : unit_len (drop at bytes) ≡ 1 = ap unit_len (drop-cons bytes at 0 lt) ∙ len_1 (get_or bytes at 0) (drop (suc at) bytes) (omega arith) (omega arith)
    in
    sound_step bytes at 1 total (sym one) h (omega arith)
