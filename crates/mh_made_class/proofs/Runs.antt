-- Bytes that were put after others, piece by piece.
use Rattle.std.proofs.Common.{◌≡◌, ℕ, List, [], ◌++◌, refl, append_assoc}
use Rattle.std.proofs.lemmas.List.{append-nil}

-- four pieces
pub four_pieces : (old n1 n2 n3 n4 a b c d : List ℕ) → n1 ≡ old ++ a → n2 ≡ n1 ++ b → n3 ≡ n2 ++ c → n4 ≡ n3 ++ d → n4 ≡ old ++ (a ++ (b ++ (c ++ (d ++ []))))
four_pieces old n1 n2 n3 n4 a b c d h1 h2 h3 h4 = rw (h4, h3, h2, h1, append-nil) (simp append_assoc refl)
