-- Which leaves an index finds when texts get numbers.
use Rattle.std.proofs.Common.{◌≡◌, refl, sym, ap, ap₂, ◌∙◌, ℕ, ◌≤◌, ◌⊎◌, inl, inr, List, Option, None, Some, arith}
use Rattle.std.specs.BTreeMap.{BTreeMap, get, btree_map_len}
use Rattle.mh_leaves.specs.Numbers.{text_number, Key, key_cmp, leaf_at, AreGrown, AreByTexts}
use Rattle.mh_leaves.proofs.Numbering.{Texts}

abbrev pub Found : Type 0
Found = BTreeMap Key ℕ

-- ---- a key whose number no text had

no_key : (texts : Texts) (leaves : Found) (owner i j : ℕ) (o : Option ℕ) → AreByTexts texts leaves → (btree_map_len texts ≤ i) ⊎ (btree_map_len texts ≤ j) →
    get key_cmp leaves (owner, i, j) ≡ o → o ≡ None
no_key texts leaves owner i j None by past is = refl
no_key texts leaves owner i j (Some n) by past is =
    let within = by owner i j n is in
    elim past [ inl p ↦ absurd (omega (arith, p, within.0)) | inr p ↦ absurd (omega (arith, p, within.1)) ]

-- ---- texts that get numbers

leaf_at-none : (leaves : Found) (owner : ℕ) (x : Option ℕ) → leaf_at leaves owner x None ≡ None
leaf_at-none leaves owner None = refl
leaf_at-none leaves owner (Some i) = refl

past_name : (texts : Texts) (leaves : Found) (owner i : ℕ) (y : Option ℕ) → AreByTexts texts leaves → btree_map_len texts ≤ i →
    leaf_at leaves owner (Some i) y ≡ None
past_name texts leaves owner i None by past = refl
past_name texts leaves owner i (Some j) by past = no_key texts leaves owner i j _ by (inl past) refl

past_descriptor : (texts : Texts) (leaves : Found) (owner j : ℕ) (x : Option ℕ) → AreByTexts texts leaves → btree_map_len texts ≤ j →
    leaf_at leaves owner x (Some j) ≡ None
past_descriptor texts leaves owner j None by past = refl
past_descriptor texts leaves owner j (Some i) by past = no_key texts leaves owner i j _ by (inr past) refl

pub leaf_at-grown : (old new : Texts) (leaves : Found) (owner : ℕ) (a b : List ℕ) → AreByTexts old leaves → AreGrown old new →
    leaf_at leaves owner (text_number new a) (text_number new b) ≡ leaf_at leaves owner (text_number old a) (text_number old b)
leaf_at-grown old new leaves owner a b by grown =
    elim (grown.numbers a) [
      | inl same_a ↦ elim (grown.numbers b) [
        | inl same_b ↦ ap₂ (leaf_at leaves owner) same_a same_b
        | inr w ↦
            ap (leaf_at leaves owner (text_number new a)) w.2 ∙ past_descriptor old leaves owner w.0 (text_number new a) by w.3
            ∙ sym (ap (leaf_at leaves owner (text_number old a)) w.1 ∙ leaf_at-none leaves owner (text_number old a))
      ]
      | inr w ↦
          ap (λ x. leaf_at leaves owner x (text_number new b)) w.2 ∙ past_name old leaves owner w.0 (text_number new b) by w.3
          ∙ sym (ap (λ x. leaf_at leaves owner x (text_number old b)) w.1)
    ]

pub by_texts-grown : (old new : Texts) (leaves : Found) → AreByTexts old leaves → AreGrown old new → AreByTexts new leaves
by_texts-grown old new leaves by grown owner i j n is =
    let within = by owner i j n is in (omega (arith, within.0, grown.longer), omega (arith, within.1, grown.longer))
