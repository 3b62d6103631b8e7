-- An index finds leaves by their texts.
use Rattle.std.specs.Prelude.{◌≡◌, ℕ, Bool, true, false, List, [], ◌∷◌, Option, Some, position, if◌then◌else◌}
use Rattle.std.specs.List.{list_any}
use Rattle.mh_values.specs.declared.class.ClassId.{ClassId}
use Rattle.mh_leaf.specs.declared.leaf.Leaf.{Leaf}
use Rattle.mh_leaves.specs.declared.index.Index.{Index}
use Rattle.mh_leaves.specs.Find.{are_texts, has_texts}
use Rattle.mh_leaves.specs.Numbers.{text_number, leaf_at}

-- the leaf of an owner with a name and a descriptor
abbrev pub found_at : Index → ClassId → List ℕ → List ℕ → Option ℕ
found_at index owner name descriptor = leaf_at index.leaves owner.0 (text_number index.texts name) (text_number index.texts descriptor)

-- the same leaves are found
abbrev pub FindsSame : Index → Index → Type 0
FindsSame old new = (owner : ClassId) (name descriptor : List ℕ) → found_at new owner name descriptor ≡ found_at old owner name descriptor

-- one more leaf is found, by these texts
abbrev pub FindsOneMore : Index → Index → ClassId → List ℕ → List ℕ → ℕ → Type 0
FindsOneMore old new owner name descriptor n =
    (o : ClassId) (a b : List ℕ) → found_at new o a b ≡ (if are_texts owner name descriptor o a b then Some n else found_at old o a b)

-- at most one leaf of a list passes a test
abbrev pub PassesOnce : (Leaf → Bool) → List Leaf → Type 0
PassesOnce test [] = Unit {0}
PassesOnce test (leaf ∷ leaves) = (test leaf ≡ true → list_any test leaves ≡ false) × PassesOnce test leaves

-- an index finds the leaves of a list by their texts, which no two of them share
pub record IsIndexOf (index : Index) (leaves : List Leaf) : Type 0 where
  pub found : (owner : ClassId) (name descriptor : List ℕ) → found_at index owner name descriptor ≡ position (has_texts owner name descriptor) leaves
  pub once : (owner : ClassId) (name descriptor : List ℕ) → PassesOnce (has_texts owner name descriptor) leaves
