-- Lines of other numbers of tokens than a manifest has.
use Rattle.std.proofs.Common.{◌≡◌, ◌≢◌, refl, ℕ, List, [], ◌∷◌, length, Err}
use Rattle.mh_leaf.specs.LeafTable.{LeafTable}
use Rattle.mh_leaves.specs.declared.manifest.ManifestKind.TheVariants.{BadLine}
use Rattle.mh_leaves.specs.Manifest.{tokens_meaning}

pub tokens_meaning-other : (table : LeafTable) (tokens : List (List ℕ)) → length tokens ≢ 3 → length tokens ≢ 5 → tokens_meaning table tokens ≡ Err BadLine
tokens_meaning-other table [] three five = refl
tokens_meaning-other table (a ∷ []) three five = refl
tokens_meaning-other table (a ∷ b ∷ []) three five = refl
tokens_meaning-other table (a ∷ b ∷ c ∷ []) three five = absurd (three refl)
tokens_meaning-other table (a ∷ b ∷ c ∷ d ∷ []) three five = refl
tokens_meaning-other table (a ∷ b ∷ c ∷ d ∷ e ∷ []) three five = absurd (five refl)
tokens_meaning-other table (a ∷ b ∷ c ∷ d ∷ e ∷ f ∷ rest) three five = refl
