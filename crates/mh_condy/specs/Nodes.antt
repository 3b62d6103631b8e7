-- What is known of the constants of a run.
use Rattle.std.specs.Prelude.{◌≡◌, ℕ, ◌+◌, zero, suc, Bool, true, ◌&&◌, if◌then◌else◌, List, [], ◌∷◌, length, map, slice_get, Option, Some, option_map, is_none, is_some, nat_lt}
use Rattle.std.specs.List.{count_by}
use Rattle.std.specs.Option.{option_flatten}
use Rattle.mh_link.specs.Named.{Constants}
use Rattle.mh_jobs.specs.Given.{Found}
use Rattle.mh_link.specs.Constants.{Serials, const_under}
use Rattle.mh_link.specs.Asking.{asked_by}
use Rattle.mh_link.specs.Places.{Has}
use Rattle.mh_condy.specs.Recorded.{ConstView, FindingView, IsConst}

-- for each constant what is recorded of it, if that is known
abbrev pub Nodes : Type 0
Nodes = List (Option ConstView)

-- what is recorded of a constant
abbrev pub node_in : Nodes → ℕ → Option ConstView
node_in known c = option_flatten (slice_get known c)

-- what is found of each constant
abbrev pub found_in : Nodes → Found
found_in known c = option_map (λ (node : ConstView). node.value) (node_in known c)

-- something is known of a constant
abbrev pub is_known : Nodes → ℕ → Bool
is_known known c = is_some (node_in known c)

-- the serial of each constant that is known
abbrev pub serials_in : Nodes → Serials
serials_in known = map (λ o. option_map (λ (node : ConstView). node.serial) o) known

-- what is known stays known
pub record Keeps (old new : Nodes) : Type 0 where
  pub kept : (c : ℕ) (node : ConstView) → node_in old c ≡ Some node → node_in new c ≡ Some node
  pub places : length new ≡ length old

-- what an attempt has found of a constant is known
pub record Knows (known : Nodes) (f : FindingView) : Type 0 where
  pub node : ConstView
  pub at : node_in known f.constant ≡ Some node
  pub serial : node.serial ≡ f.serial
  pub value : node.value ≡ f.value

-- a constant is what is recorded of it under what is known, and all that it looks at is known
pub record IsNodeOf (run : Constants) (known : Nodes) (c : ℕ) (node : ConstView) : Type 0 where
  pub is : node.value ≡ const_under run (found_in known) c node.serial
  pub below : (d : ℕ) → Has (asked_by run (found_in known) c) d → is_known known d ≡ true

-- so is each that is known
pub record AreNodes (run : Constants) (known : Nodes) : Type 0 where
  pub each : (c : ℕ) (node : ConstView) → node_in known c ≡ Some node → IsNodeOf run known c node

-- each that is known is one of the run's, and is recorded under what its own attempt has found
pub record AreConsts (run : Constants) (known : Nodes) : Type 0 where
  pub each : (c : ℕ) (node : ConstView) → node_in known c ≡ Some node → (node.job.number ≡ c) × IsConst run node

-- there is a place for each constant of the run, and each that is known is so
pub record IsKnown (run : Constants) (known : Nodes) : Type 0 where
  pub count : length known ≡ length run.jobs
  pub nodes : AreConsts run known

-- ---- how many are not known

-- how many constants are not known
abbrev pub unresolved : Nodes → ℕ
unresolved known = count_by is_none known

-- how many of them have a rank below a number
abbrev pub unknown : (ℕ → ℕ) → ℕ → Nodes → ℕ
unknown ranks r [] = 0
unknown ranks r (o ∷ known) = (if is_none o && nat_lt (ranks zero) r then 1 else 0) + unknown (λ c. ranks (suc c)) r known
