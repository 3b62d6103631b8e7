-- The computation of texts is the grammar of texts.
use Rattle.std.proofs.Common.{◌≡◌, ℕ, zero, suc, ◌+◌, ◌-◌, ◌<◌, ◌≤◌, ◌↔◌, Bool, true, false, ◌&&◌, cond, ltb, List, [], ◌∷◌, ◌++◌, length, take, drop, take-add, refl, sym, ap, subst, ◌∙◌, arith, inl, inr}
use Rattle.std.proofs.lemmas.Bool.{cases_lt}
use Rattle.std.proofs.lemmas.List.{drop-drop, drop_at, length-drop, length-append, nil_from_length}
use Rattle.std.specs.List.{flat_map}
use Rattle.std.proofs.Math.Seq.{take-length}
use Rattle.std.proofs.lemmas.List.Concat.{flat_map-cons}
use Rattle.mh_class_bytes.specs.Mutf8.{AreUnits, IsText, IsBadAt, unit_bytes, unit_len, sound_from}
use Rattle.mh_class_bytes.proofs.UnitLen.{IsFront, unit_len-sound}
use Rattle.mh_class_bytes.proofs.UnitLenComplete.{unit_len-complete}
use Rattle.mh_class_bytes.proofs.SoundLen.{sound_from-none, sound_from-unit, sound_from-nil, unit_len-nil}

nothing : IsText []
nothing = ([], tt, refl)

one_more : (bytes : List ℕ) (k n : ℕ) → unit_len bytes ≡ suc k → IsText (take n (drop (suc k) bytes)) → IsText (take (suc k + n) bytes)
one_more bytes k n h t =
    let f : IsFront bytes (suc k) = subst (λ (m : ℕ). IsFront bytes m) h (unit_len-sound bytes (omega arith)) in
    let e : take (suc k + n) bytes ≡ take (suc k) bytes ++ take n (drop (suc k) bytes) = take-add (suc k) n bytes in (
      f.unit ∷ t.0,
      (f.small, t.1),
      e ∙ ap (λ (x : List ℕ). x ++ take n (drop (suc k) bytes)) f.front ∙ ap (λ (x : List ℕ). unit_bytes f.unit ++ x) t.2 ∙
          sym (flat_map-cons unit_bytes f.unit t.0),
    )

-- what stands before the first bad byte is a text
front_is_text : (fuel : ℕ) (bytes : List ℕ) → length bytes ≤ fuel → IsText (take (sound_from 0 bytes) bytes)
front_is_text zero bytes le =
    let e : bytes ≡ [] = nil_from_length bytes (omega arith) in
    rw e (rw sound_from-nil nothing)
front_is_text (suc fuel) bytes le =
    elim (cases_lt 0 (unit_len bytes)) [
      | inl pos ↦
          let k = unit_len bytes - 1 in
          let ek : unit_len bytes ≡ suc k = omega arith in
          let e = sound_from-unit bytes k ek in
          rw e (one_more bytes k (sound_from 0 (drop (suc k) bytes)) ek (front_is_text fuel (drop (suc k) bytes) (omega (arith, length-drop (suc k) bytes))))
      | inr none ↦ rw (sound_from-none bytes (omega arith)) nothing
    ]

-- no unit stands at the first bad byte
no_unit_there : (fuel : ℕ) (bytes : List ℕ) → length bytes ≤ fuel → unit_len (drop (sound_from 0 bytes) bytes) ≡ 0
no_unit_there zero bytes le =
    let e : bytes ≡ [] = nil_from_length bytes (omega arith) in
    rw e (rw sound_from-nil unit_len-nil)
no_unit_there (suc fuel) bytes le =
    elim (cases_lt 0 (unit_len bytes)) [
      | inl pos ↦
          let k = unit_len bytes - 1 in
          let ek : unit_len bytes ≡ suc k = omega arith in
          let e = sound_from-unit bytes k ek in
          let rest = drop (suc k) bytes in
          let ih = no_unit_there fuel rest (omega (arith, length-drop (suc k) bytes)) in
          rw (e, ← drop-drop (sound_from 0 rest) (suc k) bytes) ih
      | inr none ↦ rw (sound_from-none bytes (omega arith)) (omega arith)
    ]

pub unit_bytes-some : (u : ℕ) → 0 < length (unit_bytes u)
unit_bytes-some u = some (ltb 0 u && ltb u 0x80) (ltb u 0x800) (u ∷ []) _ _ (omega arith) (omega arith) (omega arith)
  where
    some : (t1 t2 : Bool) (x y z : List ℕ) → 0 < length x → 0 < length y → 0 < length z → 0 < length (cond t1 x (cond t2 y z))
    some true t2 x y z h k l = h
    some false true x y z h k l = k
    some false false x y z h k l = l

pub bad_place : (bytes : List ℕ) → sound_from 0 bytes < length bytes → IsBadAt bytes (sound_from 0 bytes)
bad_place bytes within = record {
  within = within;
  before = front_is_text (length bytes) bytes (omega arith);
  here = λ u rest small e.
      let none = no_unit_there (length bytes) bytes (omega arith) in
      let some = unit_len-complete u rest small in
      let same = ap unit_len e in
      absurd (omega (arith, unit_bytes-some u));
}

pub whole_text : (bytes : List ℕ) → sound_from 0 bytes ≡ length bytes → IsText bytes
whole_text bytes h = subst IsText (ap (λ (n : ℕ). take n bytes) h ∙ take-length bytes) (front_is_text (length bytes) bytes (omega arith))

pub text_is_whole : (units : List ℕ) → AreUnits units → sound_from 0 (flat_map unit_bytes units) ≡ length (flat_map unit_bytes units)
text_is_whole [] h = sound_from-nil
text_is_whole (u ∷ units) h =
    let rest = flat_map unit_bytes units in
    let k = length (unit_bytes u) - 1 in
    let ek : length (unit_bytes u) ≡ suc k = omega (arith, unit_bytes-some u) in
    let c = unit_len-complete u rest h.0 ∙ ek in
    let e = sound_from-unit (unit_bytes u ++ rest) k c in
    let d : drop (suc k) (unit_bytes u ++ rest) ≡ rest = drop_at (unit_bytes u) rest (suc k) ek in
    let ih = text_is_whole units h.1 in
    rw flat_map-cons (omega (arith, rw d at e, length-append (unit_bytes u) rest))

-- The computation decides the grammar.
pub text_law : (bytes : List ℕ) → (sound_from 0 bytes ≡ length bytes) ↔ IsText bytes
text_law bytes = (whole_text bytes, λ t. subst (λ (x : List ℕ). sound_from 0 x ≡ length x) (sym t.2) (text_is_whole t.0 t.1))
