-- Texts with numbers, and leaves by the numbers of their texts.
use Rattle.std.specs.Prelude.{◌≡◌, ℕ, ◌<◌, ◌≤◌, ◌⊎◌, List, Option, None, Some, option_and_then}
use Rattle.std.specs.BTreeMap.{BTreeMap, get_by, get, btree_map_len}
use Rattle.std.specs.Cmp.Lexicographic.{slice_cmp}
use Rattle.std.specs.Global.{Vec}
use Rattle.std.specs.declared.cmp.Ordering.{Ordering}
use Rattle.std.specs.Ordering.{nat_cmp, ordering_then}

-- the number of a text
abbrev pub text_number : BTreeMap (Vec ℕ) ℕ → List ℕ → Option ℕ
text_number texts text = get_by (λ k. slice_cmp nat_cmp text k.items) texts

-- the numbers of an owner, a name and a descriptor
abbrev pub Key : Type 0
Key = ℕ × ℕ × ℕ

-- the order of keys
abbrev pub key_cmp : Key → Key → Ordering
key_cmp x y = ordering_then (ordering_then (nat_cmp x.0 y.0) (nat_cmp x.1 y.1)) (nat_cmp x.2 y.2)

-- the leaf of an owner whose name and descriptor have these numbers, if they have any
abbrev pub leaf_at : BTreeMap Key ℕ → ℕ → Option ℕ → Option ℕ → Option ℕ
leaf_at leaves owner name descriptor = option_and_then (λ i. option_and_then (λ j. get key_cmp leaves (owner, i, j)) descriptor) name

-- no two texts have the same number
abbrev pub AreApart : BTreeMap (Vec ℕ) ℕ → Type 0
AreApart texts = (a b : List ℕ) (n : ℕ) → text_number texts a ≡ Some n → text_number texts b ≡ Some n → a ≡ b

-- numbers are below the count of texts
abbrev pub AreBelow : BTreeMap (Vec ℕ) ℕ → Type 0
AreBelow texts = (a : List ℕ) (n : ℕ) → text_number texts a ≡ Some n → n < btree_map_len texts

-- texts with numbers from 0 on
pub record AreNumbered (texts : BTreeMap (Vec ℕ) ℕ) : Type 0 where
  pub apart : AreApart texts
  pub below : AreBelow texts

-- leaves are found by numbers of texts
abbrev pub AreByTexts : BTreeMap (Vec ℕ) ℕ → BTreeMap Key ℕ → Type 0
AreByTexts texts leaves = (owner i j n : ℕ) → get key_cmp leaves (owner, i, j) ≡ Some n → (i < btree_map_len texts) × (j < btree_map_len texts)

-- a text keeps its number, or has a new one after all earlier ones
abbrev pub IsNumberedAnew : BTreeMap (Vec ℕ) ℕ → BTreeMap (Vec ℕ) ℕ → List ℕ → Type 0
IsNumberedAnew old new text =
    (text_number new text ≡ text_number old text)
    ⊎ ((n : ℕ) × (text_number old text ≡ None) × (text_number new text ≡ Some n) × (btree_map_len old ≤ n))

-- each text keeps its number, and new texts have numbers after all earlier ones
pub record AreGrown (old new : BTreeMap (Vec ℕ) ℕ) : Type 0 where
  pub numbers : (text : List ℕ) → IsNumberedAnew old new text
  pub longer : btree_map_len old ≤ btree_map_len new
