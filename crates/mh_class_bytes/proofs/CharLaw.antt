-- The characters that are found are those that the bytes spell, and a half is refused just where it is alone.
use Rattle.std.proofs.Common.{◌≡◌, ℕ, ◌+◌, ◌-◌, ◌^◌, ◌<◌, ◌≤◌, Bool, true, false, ◌&&◌, cond, List, [], ◌∷◌, ◌++◌, length, take, drop, Result, Ok, Err, refl, sym, ap, subst, ◌∙◌, append_assoc, take-add, arith}
use Rattle.std.proofs.lemmas.Bool.Decides.{nat_tests}
use Rattle.std.proofs.lemmas.List.{length-append, take_at, drop_at, drop-drop}
use Rattle.std.proofs.lemmas.List.Concat.{flat_map-cons}
use Rattle.std.specs.List.{flat_map}
use Rattle.mh_class_bytes.specs.Mutf8.{AreUnits, unit_bytes, unit_len}
use Rattle.mh_class_bytes.specs.Chars.{unit_value, units_from, is_high, is_low, is_half, pair_value, spelled, IsLoneAt, preceded_by, chars_from, chars_of, shown, shown_text, IsShownAs}
use Rattle.mh_class_bytes.proofs.Texts.{whole_text, unit_bytes-some}
use Rattle.mh_class_bytes.proofs.Units.{IsSound, units_in-spelled, value-spelled}
use Rattle.mh_class_bytes.proofs.FirstChar.{long_half, high_low}
use Rattle.mh_class_bytes.proofs.CharBytes.{char_bytes, char_bytes-small, char_bytes-joined}

-- what a search from a place finds of the bytes of units
abbrev FindsChars : ℕ → List ℕ → Result (List ℕ) ℕ → Type 0
FindsChars at bytes (Ok cs) = bytes ≡ spelled cs
FindsChars at bytes (Err place) = (k : ℕ) × (place ≡ at + k) × IsLoneAt bytes k

-- after a character
after_char : (at n c : ℕ) (bytes : List ℕ) (r : Result (List ℕ) ℕ) → (c < 0x110000) × (is_half c ≡ false) → length (char_bytes c) ≡ n →
    FindsChars (at + n) bytes r →
    FindsChars at (char_bytes c ++ bytes) (preceded_by (c ∷ []) r)
after_char at n c bytes (Ok cs) h len f = ap (λ (x : List ℕ). char_bytes c ++ x) f ∙ sym (flat_map-cons char_bytes c cs)
after_char at n c bytes (Err place) h len f =
    let l = f.2 in (
      n + f.0,
      omega (arith, f.1),
      record {
        chars = c ∷ l.chars;
        whole = (h, l.whole);
        before = take-both n (char_bytes c) bytes f.0 len ∙ ap (λ (x : List ℕ). char_bytes c ++ x) l.before ∙ sym (flat_map-cons char_bytes c l.chars);
        half = l.half;
        rest = l.rest;
        is_half = l.is_half;
        here = drop-both n (char_bytes c) bytes f.0 len ∙ l.here;
        alone = l.alone;
      },
    )
  where
    take-both : (n : ℕ) (front rest : List ℕ) (k : ℕ) → length front ≡ n → take (n + k) (front ++ rest) ≡ front ++ take k rest
    take-both n front rest k e = take-add n k (front ++ rest) ∙ ap (λ (x : List ℕ). x ++ take k (drop n (front ++ rest))) (take_at front rest n e) ∙
        ap (λ (x : List ℕ). front ++ take k x) (drop_at front rest n e)

    drop-both : (n : ℕ) (front rest : List ℕ) (k : ℕ) → length front ≡ n → drop (n + k) (front ++ rest) ≡ drop k rest
    drop-both n front rest k e = sym (drop-drop k n (front ++ rest)) ∙ ap (drop k) (drop_at front rest n e)

half_range : (u : ℕ) → is_half u ≡ true → (0xD800 ≤ u) × (u < 0xE000)
half_range u h = (grind (arith, nat_tests), grind (arith, nat_tests))

-- a half by itself
lone : (at u : ℕ) (rest : List ℕ) → is_half u ≡ true → ((low : ℕ) (more : List ℕ) → is_high u ≡ true → is_low low ≡ true → ¬ (rest ≡ unit_bytes low ++ more)) →
    FindsChars at (unit_bytes u ++ rest) (Err at)
lone at u rest h alone = (
  0,
  omega arith,
  record {
    chars = [];
    whole = tt;
    before = refl;
    half = u;
    rest = rest;
    is_half = half_range u h;
    here = refl;
    alone =
        alone;
  },
)

low_small : (v : ℕ) → is_low v ≡ true → v < 2 ^ 16
low_small v h = grind (arith, nat_tests)

-- Two units whose spellings begin the same bytes are one.
same_unit : (v w : ℕ) (a b : List ℕ) → v < 2 ^ 16 → w < 2 ^ 16 → unit_bytes v ++ a ≡ unit_bytes w ++ b → v ≡ w
same_unit v w a b hv hw e = sym (value-spelled v a hv) ∙ ap (λ (x : List ℕ). unit_value (unit_len x) x) e ∙ value-spelled w b hw

not_a_pair : (u v low : ℕ) → (is_high u && is_low v) ≡ false → is_high u ≡ true → is_low low ≡ true → ¬ (v ≡ low)
not_a_pair u v low apart hu hl e = absurd (go (is_high u) (is_low v) hu (ap is_low e ∙ hl) apart)
  where
    go : (a b : Bool) → a ≡ true → b ≡ true → (a && b) ≡ false → ⊥
    go true true p q r = absurd cc
    go true false p q r = absurd cc
    go false b p q r = absurd cc

found-last : (at u : ℕ) → u < 2 ^ 16 → (t : Bool) → is_half u ≡ t → FindsChars at (flat_map unit_bytes (u ∷ [])) (cond t (Err at) (Ok (u ∷ [])))
found-last at u h true e =
    rw flat_map-cons (lone at u [] e (λ low more hu hl same. absurd (omega (arith, ap length same, length-append (unit_bytes low) more, unit_bytes-some low))))
found-last at u h false e = flat_map-cons unit_bytes u [] ∙ ap (λ (x : List ℕ). x ++ []) (sym (char_bytes-small u h)) ∙ sym (flat_map-cons char_bytes u [])

found-apart : (at u v : ℕ) (units : List ℕ) → u < 2 ^ 16 → v < 2 ^ 16 → (is_high u && is_low v) ≡ false → (r : Result (List ℕ) ℕ) →
    FindsChars (at + length (unit_bytes u)) (flat_map unit_bytes (v ∷ units)) r
    → (t : Bool) → is_half u ≡ t → FindsChars at (unit_bytes u ++ flat_map unit_bytes (v ∷ units)) (cond t (Err at) (preceded_by (u ∷ []) r))
found-apart at u v units hu hv apart r f true e = lone at u (flat_map unit_bytes (v ∷ units)) e (λ low more high is_low same. not_a_pair u v low apart high
    is_low (same_unit v low (flat_map unit_bytes units) more hv (low_small low is_low) (sym (flat_map-cons unit_bytes v units) ∙ same)))
found-apart at u v units hu hv apart r f false e =
    let b = char_bytes-small u hu in
    subst (λ (x : List ℕ). FindsChars at (x ++ flat_map unit_bytes (v ∷ units)) (preceded_by (u ∷ []) r)) b (after_char at (length (unit_bytes u)) u
    (flat_map unit_bytes (v ∷ units)) r (omega arith, e) (ap length b) f)

found-two : (at u v : ℕ) (units : List ℕ) → u < 2 ^ 16 → v < 2 ^ 16 → (r s : Result (List ℕ) ℕ) → FindsChars (at + 6) (flat_map unit_bytes units) s →
    FindsChars (at + length (unit_bytes u)) (flat_map unit_bytes (v ∷ units)) r
    → (t : Bool) → (is_high u && is_low v) ≡ t →
    FindsChars at (flat_map unit_bytes (u ∷ v ∷ units)) (cond t (preceded_by (pair_value u v ∷ []) s) (cond (is_half u) (Err at) (preceded_by (u ∷ []) r)))
found-two at u v units hu hv r s g f true e =
    let b = char_bytes-joined u v e in
    let hl = high_low u v e in
    let len : length (char_bytes (pair_value u v)) ≡ 6 = omega
    (arith, ap length b, length-append (unit_bytes u) (unit_bytes v), long_half u hl.0, long_half v hl.1)
    in
    let whole : char_bytes (pair_value u v) ++ flat_map unit_bytes units ≡ flat_map unit_bytes (u ∷ v ∷ units) =
    ap (λ (x : List ℕ). x ++ flat_map unit_bytes units) b ∙ append_assoc (unit_bytes u) (unit_bytes v) (flat_map unit_bytes units)
    ∙ ap (λ (x : List ℕ). unit_bytes u ++ x) (sym (flat_map-cons unit_bytes v units)) ∙ sym (flat_map-cons unit_bytes u (v ∷ units)) in
    subst (λ (x : List ℕ). FindsChars at x (preceded_by (pair_value u v ∷ []) s)) whole (after_char at 6 (pair_value u v) (flat_map unit_bytes units) s
    (grind (arith, nat_tests), grind (arith, nat_tests)) len g)
found-two at u v units hu hv r s g f false e = subst (λ (x : List ℕ). FindsChars at x (cond (is_half u) (Err at) (preceded_by (u ∷ []) r)))
    (sym (flat_map-cons unit_bytes u (v ∷ units))) (found-apart at u v units hu hv e r f (is_half u) refl)

pub found : (at : ℕ) (units : List ℕ) → AreUnits units → FindsChars at (flat_map unit_bytes units) (chars_from at units)
unfolding chars_from
found at [] h = refl
found at (u ∷ []) h = found-last at u h.0 (is_half u) refl
found at (u ∷ v ∷ units) h = found-two at u v units h.0 h.1.0 (chars_from (at + length (unit_bytes u)) (v ∷ units)) (chars_from (at + 6) units)
    (found (at + 6) units h.1.1) (found (at + length (unit_bytes u)) (v ∷ units) h.1) (is_high u && is_low v) refl

-- What the search in a text finds.
pub chars_law : (bytes : List ℕ) → IsSound bytes → FindsChars 0 bytes (chars_of bytes)
chars_law bytes sound =
    let t = whole_text bytes sound in
    let units : units_from 0 bytes ≡ t.0 = ap (units_from 0) t.2 ∙ units_in-spelled t.0 t.1 in
    rw units (subst (λ (x : List ℕ). FindsChars 0 x (chars_from 0 t.0)) (sym t.2) (found 0 t.0 t.1))

-- A text that is found to have characters spells them.
pub chars_law-ok : (bytes cs : List ℕ) → IsSound bytes → chars_of bytes ≡ Ok cs → bytes ≡ spelled cs
chars_law-ok bytes cs sound e = subst (λ (r : Result (List ℕ) ℕ). FindsChars 0 bytes r) e (chars_law bytes sound)

-- A half that is refused is alone.
pub chars_law-lone : (bytes : List ℕ) (at : ℕ) → IsSound bytes → chars_of bytes ≡ Err at → IsLoneAt bytes at
chars_law-lone bytes at sound e =
    let f = subst (λ (r : Result (List ℕ) ℕ). FindsChars 0 bytes r) e (chars_law bytes sound) in
    let same : f.0 ≡ at = omega (arith, f.1) in
    subst (IsLoneAt bytes) same f.2

-- What is shown of a text is what its units show.
pub shown_law : (bytes cs : List ℕ) → IsSound bytes → cs ≡ shown_text bytes → IsShownAs bytes cs
shown_law bytes cs sound e =
    let t = whole_text bytes sound in
    (t.0, t.1, t.2, e ∙ ap shown (ap (units_from 0) t.2 ∙ units_in-spelled t.0 t.1))
