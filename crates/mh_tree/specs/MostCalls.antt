-- The leaf calls that a run made, and how many a tree can make at most.
use Rattle.std.specs.Prelude.{ℕ, ◌+◌, ◌*◌, ◌≤◌, max, List, [], length}
use Rattle.mh_values.specs.declared.calls.LeafCall.{LeafCall}
use Rattle.mh_values.specs.Computation.{Ran, Gave, Threw, Stuck}
use Rattle.mh_leaf.specs.Ending.{most_turns}
use Rattle.mh_tree.specs.Tree.{Tree, Cases}
use Rattle.mh_tree.specs.Tree as tree

-- the leaf calls that were made
abbrev pub calls_made : {A : Type 0} → Ran A → List LeafCall
calls_made (Gave a calls) = calls
calls_made (Threw e calls) = calls
calls_made Stuck = []

-- a run makes no more leaf calls than so many
abbrev pub MakesAtMost : {A : Type 0} → ℕ → Ran A → Type 0
MakesAtMost most r = length (calls_made r) ≤ most

-- the most leaf calls of trees and of cases
abbrev mutual
  -- The most leaf calls of a tree. A leaf makes one, and parts that run one after the other add theirs. Of branches the larger counts, and the body
  -- of a loop counts for each turn that there may be. A constant, an identity, a throw and a concatenation make none.
  pub most_calls : Tree → ℕ
  most_calls (tree.Leaf leaf) = 1
  most_calls (tree.Bind target place value) = most_calls target
  most_calls (tree.Drop target place types) = most_calls target
  most_calls (tree.Permute target ty reorder) = most_calls target
  most_calls (tree.FilterArg target place filter) = most_calls filter + most_calls target
  most_calls (tree.FilterRet target filter) = most_calls target + most_calls filter
  most_calls (tree.Fold target place combiner) = most_calls combiner + most_calls target
  most_calls (tree.Collect target place filter) = most_calls filter + most_calls target
  most_calls (tree.Spread target array count) = most_calls target
  most_calls (tree.Gather target array count) = most_calls target
  most_calls (tree.AsType target ty) = most_calls target
  most_calls (tree.Explicit target ty) = most_calls target
  most_calls (tree.Guard test target fallback) = most_calls test + max (most_calls target) (most_calls fallback)
  most_calls (tree.Catch target class handler) = most_calls target + most_calls handler
  most_calls (tree.TryFinally target cleanup) = most_calls target + most_calls cleanup
  most_calls (tree.Switch fallback cases) = max (most_calls fallback) (cases_calls cases)
  most_calls (tree.Counted iterations init body) = most_calls iterations + (most_calls init + most_turns * most_calls body)
  most_calls _ = 0

  -- the most leaf calls of one of these cases
  pub cases_calls : Cases → ℕ
  cases_calls tree.no_cases = 0
  cases_calls (tree.one_case first others) = max (most_calls first) (cases_calls others)

-- the most leaf calls of a tree that weighs at most 256: one for the turns of a loop, one for its start, and 64 in each of 64 turns
abbrev pub most_leaf_calls : ℕ
most_leaf_calls = 4098
