-- Going over the characters of a text, one after the other.
use Rattle.std.proofs.Common.{◌≡◌, ℕ, ◌+◌, ◌<◌, ◌≤◌, List, [], ◌∷◌, ◌++◌, length, drop, Option, Some, None, Result, Ok, Err, refl, sym, ap, subst, ◌∙◌, append_assoc, arith}
use Rattle.std.proofs.lemmas.List.{append-nil, drop-drop, length-drop, nil_from_length}
use Rattle.std.specs.Prelude.{unwrap_or}
use Rattle.mh_class_bytes.specs.Chars.{units_from, first_char, first_len, shown, shown_text, preceded_by, chars_from, chars_of}
use Rattle.mh_class_bytes.proofs.Units.{IsSound, units_in-nil}
use Rattle.mh_class_bytes.proofs.FirstChar.{Begins, begins}
use Rattle.mh_class_bytes.proofs.CharSteps.{shown-nil, shown-first, told, chars-nil, chars-first, begins-rest}

pub record IsAt (bytes : List ℕ) (at : ℕ) : Type 0 where
  pub within : at ≤ length bytes
  pub sound : IsSound (drop at bytes)

pub is_at-next : (bytes : List ℕ) (at : ℕ) → IsAt bytes at → at < length bytes → Begins (drop at bytes)
is_at-next bytes at i lt = begins (drop at bytes) i.sound (omega (arith, length-drop at bytes))

pub is_at-more : (bytes : List ℕ) (at : ℕ) → IsAt bytes at → at < length bytes → IsAt bytes (at + first_len (drop at bytes))
is_at-more bytes at i lt =
    let r = begins-rest (drop at bytes) (is_at-next bytes at i lt) in
    record { within = omega (arith, r.1, length-drop at bytes); sound = subst IsSound (drop-drop (first_len (drop at bytes)) at bytes) r.0 }

pub record IsShowing (bytes : List ℕ) (at : ℕ) (found : List ℕ) : Type 0 where
  pub place : IsAt bytes at
  pub so_far : found ++ shown (units_from 0 (drop at bytes)) ≡ shown_text bytes

pub showing-next : (bytes : List ℕ) (at : ℕ) (found : List ℕ) → IsShowing bytes at found → at < length bytes →
    IsShowing bytes (at + first_len (drop at bytes)) (found ++ unwrap_or (first_char (drop at bytes)) 0xFFFD ∷ [])
showing-next bytes at found s lt =
    let c = unwrap_or (first_char (drop at bytes)) 0xFFFD in
    let step = shown-first (drop at bytes) (is_at-next bytes at s.place lt) ∙ ap (λ (b : List ℕ). c ∷ shown (units_from 0 b))
    (drop-drop (first_len (drop at bytes)) at bytes) in
    let rest = shown (units_from 0 (drop (at + first_len (drop at bytes)) bytes)) in
    record { place = is_at-more bytes at s.place lt; so_far = append_assoc found (c ∷ []) rest ∙ ap (λ (x : List ℕ). found ++ x) (sym step) ∙ s.so_far }

at_end : (bytes : List ℕ) (at : ℕ) → length bytes ≤ at → drop at bytes ≡ []
at_end bytes at le = nil_from_length (drop at bytes) (omega (arith, length-drop at bytes))

pub showing-done : (bytes : List ℕ) (at : ℕ) (found : List ℕ) → IsShowing bytes at found → length bytes ≤ at → found ≡ shown_text bytes
showing-done bytes at found s le =
    sym (append-nil found) ∙ ap (λ (x : List ℕ). found ++ x) (sym (ap (λ (b : List ℕ). shown (units_from 0 b)) (at_end bytes at le) ∙ ap shown units_in-nil ∙
    shown-nil)) ∙ s.so_far

pub record IsDecoding (bytes : List ℕ) (at : ℕ) (found : List ℕ) : Type 0 where
  pub place : IsAt bytes at
  pub so_far : preceded_by found (chars_from at (units_from 0 (drop at bytes))) ≡ chars_of bytes

preceded_by-twice : (a b : List ℕ) (r : Result (List ℕ) ℕ) → preceded_by a (preceded_by b r) ≡ preceded_by (a ++ b) r
preceded_by-twice a b (Ok cs) = ap (λ (x : List ℕ). Ok x) (sym (append_assoc a b cs))
preceded_by-twice a b (Err at) = refl

chars-next : (bytes : List ℕ) (at : ℕ) → IsAt bytes at → at < length bytes → chars_from at (units_from 0 (drop at bytes)) ≡ told (first_char (drop at bytes)) at
    (chars_from (at + first_len (drop at bytes)) (units_from 0 (drop (at + first_len (drop at bytes)) bytes)))
chars-next bytes at i lt =
    chars-first (drop at bytes) at (is_at-next bytes at i lt) ∙
    ap (λ (b : List ℕ). told (first_char (drop at bytes)) at (chars_from (at + first_len (drop at bytes)) (units_from 0 b)))
    (drop-drop (first_len (drop at bytes)) at bytes)

pub decoding-next : (bytes : List ℕ) (at : ℕ) (found : List ℕ) (c : ℕ) → IsDecoding bytes at found → at < length bytes → first_char (drop at bytes) ≡ Some c →
    IsDecoding bytes (at + first_len (drop at bytes)) (found ++ c ∷ [])
decoding-next bytes at found c d lt h =
    let rest = chars_from (at + first_len (drop at bytes)) (units_from 0 (drop (at + first_len (drop at bytes)) bytes)) in
    let step = chars-next bytes at d.place lt ∙ ap (λ (o : Option ℕ). told o at rest) h in
    record { place = is_at-more bytes at d.place lt; so_far = sym (preceded_by-twice found (c ∷ []) rest) ∙ ap (preceded_by found) (sym step) ∙ d.so_far }

pub decoding-stops : (bytes : List ℕ) (at : ℕ) (found : List ℕ) → IsDecoding bytes at found → at < length bytes → first_char (drop at bytes) ≡ None →
    chars_of bytes ≡ Err at
decoding-stops bytes at found d lt h =
    let rest = chars_from (at + first_len (drop at bytes)) (units_from 0 (drop (at + first_len (drop at bytes)) bytes)) in
    let step = chars-next bytes at d.place lt ∙ ap (λ (o : Option ℕ). told o at rest) h in
    sym d.so_far ∙ ap (preceded_by found) step

pub decoding-done : (bytes : List ℕ) (at : ℕ) (found : List ℕ) → IsDecoding bytes at found → length bytes ≤ at → chars_of bytes ≡ Ok found
decoding-done bytes at found d le =
    let none = ap (λ (b : List ℕ). chars_from at (units_from 0 b)) (at_end bytes at le) ∙ ap (chars_from at) units_in-nil ∙ chars-nil at in
    sym d.so_far ∙ ap (preceded_by found) none ∙ ap (λ (x : List ℕ). Ok x) (append-nil found)
