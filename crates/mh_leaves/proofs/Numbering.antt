-- A text that gets a number, and what the numbers of all texts then are.
use Rattle.std.proofs.Common.{◌≡◌, sym, subst, ◌∙◌, ℕ, ◌+◌, ◌⊎◌, inl, inr, false, List, None, Some, arith}
use Rattle.std.proofs.lemmas.Bool.{cases_Bool}
use Rattle.std.proofs.lemmas.Slice.Eq.{bytes_eq-Decides}
use Rattle.std.specs.BTreeMap.{BTreeMap, btree_map_len}
use Rattle.std.specs.Global.{Vec}
use Rattle.std.specs.Str.{bytes_eq}
use Rattle.mh_base.specs.TextMaps.{WritesText}
use Rattle.mh_base.proofs.TextMaps.{at_text-other}
use Rattle.mh_leaves.specs.Numbers.{text_number, AreBelow, AreNumbered, IsNumberedAnew, AreGrown}

-- the maps from texts to numbers
abbrev pub Texts : Type 0
Texts = BTreeMap (Vec ℕ) ℕ

-- ---- one key that is written

-- the call of `insert` at a text
abbrev pub Writes : Texts → Texts → List ℕ → ℕ → Type 0
Writes m n key v = WritesText m n key (Some v)

number_at-other : (m n : Texts) (key text : List ℕ) (v : ℕ) → Writes m n key v → bytes_eq key text ≡ false → text_number n text ≡ text_number m text
number_at-other m n key text v h e = at_text-other m n key text (Some v) h e

-- ---- a new text

written-anew : (m n : Texts) (key text : List ℕ) (v : ℕ) → Writes m n key v → text_number m key ≡ None → v ≡ btree_map_len m → IsNumberedAnew m n text
written-anew m n key text v h new here =
    elim (cases_Bool (bytes_eq key text)) [
      | inl e ↦
          let is : key ≡ text = (bytes_eq-Decides key text).0 e in
          inr (v, subst (λ l. text_number m l ≡ None) is new, subst (λ l. text_number n l ≡ Some v) is h.1, omega (arith, here))
      | inr e ↦ inl (number_at-other m n key text v h e)
    ]

pub grown-written : (m n : Texts) (key : List ℕ) (v : ℕ) → Writes m n key v → text_number m key ≡ None → v ≡ btree_map_len m →
    btree_map_len n ≡ btree_map_len m + 1 → AreGrown m n
grown-written m n key v h new here more = record {
  numbers = λ text. written-anew m n key text v h new here;
  longer = omega (arith, more);
}

-- ---- what holds of texts with numbers from 0 on

-- the two ways in which a text has a number after the call
written_cases : (m n : Texts) (key text : List ℕ) (v k : ℕ) → Writes m n key v →
    text_number n text ≡ Some k → ((key ≡ text) × (k ≡ v))
    ⊎ (text_number m text ≡ Some k)
written_cases m n key text v k h is =
    elim (cases_Bool (bytes_eq key text)) [
      | inl e ↦
          let same : key ≡ text = (bytes_eq-Decides key text).0 e in
          let here : text_number n text ≡ Some v = subst (λ l. text_number n l ≡ Some v) same h.1 in
          inl (same, cc)
      | inr e ↦ inr (sym (number_at-other m n key text v h e) ∙ is)
    ]

not_below : (m : Texts) (a : List ℕ) (v : ℕ) → AreBelow m → v ≡ btree_map_len m → text_number m a ≡ Some v → ⊥
not_below m a v below here is = omega (arith, below a v is, here)

pub numbered-written : (m n : Texts) (key : List ℕ) (v : ℕ) → AreNumbered m → Writes m n key v → v ≡ btree_map_len m → btree_map_len n ≡ btree_map_len m + 1 →
    AreNumbered n
numbered-written m n key v old h here more = record {
  apart = λ a b k at_a at_b.
      elim (written_cases m n key a v k h at_a) [
        | inl x ↦ elim (written_cases m n key b v k h at_b) [
          | inl y ↦ sym x.0 ∙ y.0
          | inr y ↦ absurd (not_below m b v old.below here (subst (λ l. text_number m b ≡ Some l) x.1 y))
        ]
        | inr x ↦ elim (written_cases m n key b v k h at_b) [
          | inl y ↦ absurd (not_below m a v old.below here (subst (λ l. text_number m a ≡ Some l) y.1 x))
          | inr y ↦ old.apart a b k x y
        ]
      ];
  below = λ a k at_a.
      elim (written_cases m n key a v k h at_a) [
        | inl x ↦ omega (arith, x.1, here, more)
        | inr x ↦ omega (arith, old.below a k x, more)
      ];
}

-- ---- one call after another

pub grown-further : (a b c : Texts) → AreGrown a b → AreGrown b c → AreGrown a c
grown-further a b c first second = record {
  numbers = λ text.
      elim (first.numbers text) [
        | inl same ↦ elim (second.numbers text) [
          | inl more ↦ inl (more ∙ same)
          | inr w ↦ inr (w.0, sym same ∙ w.1, w.2, omega (arith, w.3, first.longer))
        ]
        | inr v ↦ elim (second.numbers text) [
          | inl more ↦ inr (v.0, v.1, more ∙ v.2, v.3)
          | inr w ↦ cc (v.2, w.1)
        ]
      ];
  longer = omega (arith, first.longer, second.longer);
}

-- a number stays
pub number_at-kept : (old new : Texts) (text : List ℕ) (n : ℕ) → AreGrown old new → text_number old text ≡ Some n → text_number new text ≡ Some n
number_at-kept old new text n grown is = elim (grown.numbers text) [ inl same ↦ same ∙ is | inr w ↦ cc (w.1, is) ]
