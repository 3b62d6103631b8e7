-- What contracts see of the bootstrap methods that are read.
use Rattle.std.specs.Prelude.{ℕ, ◌+◌, ◌≤◌, List, take, drop, Option, Some, None}
use Rattle.std.specs.List.{AllByRecursion}
use Rattle.mh_classfile.specs.declared.bootstraps.Span.{Span}

-- a bootstrap method, by indexes of the pool
pub record Row : Type 0 where
  pub handle : ℕ
  pub arguments : List ℕ

-- those that are read, and the arguments of the one that is being read
pub record Rows : Type 0 where
  pub closed : List Row
  pub begun : List ℕ

-- the bootstrap method whose arguments stand in a span of a list
abbrev pub row_of : List ℕ → Span → Row
row_of arguments s = record { handle = s.handle; arguments = take s.count (drop s.start arguments) }

-- every span ends before a place
abbrev pub AreWithin : ℕ → List Span → Type 0
AreWithin end spans = AllByRecursion (λ s. s.start + s.count ≤ end) spans

-- the bootstrap methods that were read, if any were
abbrev pub closed_of : Option Rows → Option (List Row)
closed_of None = None
closed_of (Some rows) = Some rows.closed
