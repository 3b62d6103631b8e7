-- Handles that stand for the cases of a switch, whichever they are.
use Rattle.std.specs.Prelude.{List}
use Rattle.mh_leaf.specs.LeafTable.{LeafTable}
use Rattle.mh_tree.specs.Tree.{Cases}
use Rattle.mh_handle.specs.Stands.{HandleView}
use Rattle.mh_more.specs.Several.{StandForCases}

-- there are cases that the handles stand for, each for the one at its place
abbrev pub StandForSome : LeafTable → List HandleView → Type 0
StandForSome table hs = (cs : Cases) × StandForCases table hs cs
