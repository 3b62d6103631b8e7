-- Maps whose keys are texts.
use Rattle.std.specs.Prelude.{ℕ, List, Option}
use Rattle.std.specs.BTreeMap.{BTreeMap, UpdatesBy, get_by}
use Rattle.std.specs.Cmp.Lexicographic.{slice_cmp}
use Rattle.std.specs.Global.{Vec}
use Rattle.std.specs.Ordering.{nat_cmp}

-- what a map has at a text
abbrev pub at_text : {X : Type 0} → BTreeMap (Vec ℕ) X → List ℕ → Option X
at_text entries text = get_by (λ k. slice_cmp nat_cmp text k.items) entries

-- a call of `insert` or `remove` at a text, with what the new map has there; at every other text the new map has what the old one has
abbrev pub WritesText : {X : Type 0} → BTreeMap (Vec ℕ) X → BTreeMap (Vec ℕ) X → List ℕ → Option X → Type 0
WritesText old new key there = UpdatesBy (λ (x y : Vec ℕ). slice_cmp nat_cmp x.items y.items) (λ k. slice_cmp nat_cmp key k.items) old new there
