-- For proofs: no clause of a public function reaches these definitions.
-- Depths as numbers; 0 stands for none.
use Rattle.std.specs.Prelude.{◌≡◌, ℕ, zero, suc, List, map, length, Option, Some, None, option_map, slice_index, unwrap_or}
use Rattle.mh_link.specs.Named.{Constants}
use Rattle.mh_link.specs.Depth.{depth_within, greatest}

-- the depth that a number stands for
abbrev pub as_depth : ℕ → Option ℕ
as_depth zero = None
as_depth (suc k) = Some (suc k)

-- the number that stands for a depth
abbrev pub as_number : Option ℕ → ℕ
as_number o = unwrap_or o 0

-- the depth over names
abbrev pub over_names : List ℕ → List ℕ → ℕ
over_names depths names = as_number (option_map suc (greatest (map (λ d. as_depth (slice_index depths d)) names)))

-- the depths of constants that are at most n
abbrev pub AreDepthsWithin : Constants → ℕ → List ℕ → Type 0
AreDepthsWithin run n depths = (length depths ≡ length run.jobs) × ((c : ℕ) → slice_index depths c ≡ as_number (depth_within run n c))
