-- How deep a constant stands over those that it names.
use Rattle.std.specs.Prelude.{ℕ, zero, suc, max, nat_le, if◌then◌else◌, List, [], ◌∷◌, map, Option, Some, None, option_map, slice_get, unwrap_or}
use Rattle.std.specs.Option.{option_map_or}
use Rattle.mh_jobs.specs.declared.constants.ConstJob.{ConstJob}
use Rattle.mh_link.specs.Named.{Constants}

-- the greatest of some depths, if all are there
abbrev pub greatest : List (Option ℕ) → Option ℕ
greatest [] = Some 0
greatest (None ∷ depths) = None
greatest (Some k ∷ depths) = option_map (max k) (greatest depths)

-- the depth of a constant, if it is at most n: 1 more than the greatest of those that it names
unfoldable pub depth_within : Constants → ℕ → ℕ → Option ℕ
depth_within run zero c = None
depth_within run (suc n) c =
    option_map_or (λ (job : ConstJob). option_map suc (greatest (map (λ d. depth_within run n d) job.names))) (slice_get run.jobs c) None

-- the greatest depth that there is
unfoldable pub most_depth : ℕ
most_depth = 64

-- the depth of a constant; one that reaches itself has none
abbrev pub depth : Constants → ℕ → Option ℕ
depth run c = depth_within run most_depth c

-- a depth that is at most n
abbrev pub cut : ℕ → Option ℕ → Option ℕ
cut n None = None
cut n (Some k) = if nat_le k n then Some k else None

-- the rank of a constant: its depth, or 0 if it has none
abbrev pub rank : Constants → ℕ → ℕ
rank run c = unwrap_or (depth run c) 0
