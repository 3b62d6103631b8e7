-- Operands that are the cases of a switch, and how much a list of operands weighs.
use Rattle.std.specs.Prelude.{◌≡◌, ℕ, ◌+◌, List, [], ◌∷◌, Result, Ok, Err}
use Rattle.mh_values.specs.declared.types.MethodTy.{MethodTy}
use Rattle.mh_intern.specs.Views.{SeatView}
use Rattle.mh_leaf.specs.LeafTable.{LeafTable}
use Rattle.mh_tree.specs.declared.error.CheckError.{CheckError}
use Rattle.mh_tree.specs.declared.error.CheckError.TheVariants as check
use Rattle.mh_tree.specs.Tree.{Cases, Tree, cases_of}
use Rattle.mh_tree.specs.Tree as tree
use Rattle.mh_tree.specs.Typing.{type_of}
use Rattle.mh_form.specs.Erasure.{shape_of}
use Rattle.mh_edit.specs.declared.key.Key.{Key}
use Rattle.mh_edit.specs.declared.key.Key.TheVariants as key
use Rattle.mh_jobs.specs.Thrown.{OrThrown}
use Rattle.mh_attempt.specs.declared.handle.HandleOperand.{HandleOperand}
use Rattle.mh_attempt.specs.declared.handle.HandleOperand.TheVariants as operand
use Rattle.mh_attempt.specs.Registers.{IsHeldIn, StandsFor}

-- each operand stands for the case at its place
abbrev pub StandForEach : LeafTable → List HandleOperand → Cases → Type 0
StandForEach leaves [] tree.no_cases = Unit {0}
StandForEach leaves (o ∷ os) (tree.one_case t ts) = StandsFor leaves o t × StandForEach leaves os ts
StandForEach leaves _ _ = ⊥

-- the operands stand for some cases
abbrev pub StandForSome : LeafTable → List HandleOperand → Type 0
StandForSome leaves os = (ts : Cases) × StandForEach leaves os ts

-- The operands stand for the trees that are asked for, or are the exception in their place. If memory runs out, this says nothing.
abbrev pub TellsCases : LeafTable → Result (List HandleOperand) CheckError → OrThrown (List Tree) → Type 0
TellsCases leaves (Ok os) m = (ts : List Tree) × (m ≡ Ok ts) × StandForEach leaves os (cases_of ts)
TellsCases leaves (Err (check.Refused e)) m = m ≡ Err e
TellsCases leaves (Err check.NoMemory) m = Unit {0}

-- the seat holds the types of all operands
abbrev pub AreAllHeldIn : SeatView → List HandleOperand → Type 0
AreAllHeldIn seat [] = Unit {0}
AreAllHeldIn seat (o ∷ os) = IsHeldIn seat o × AreAllHeldIn seat os

-- ---- weights

-- what an operand weighs: a leaf is one node
abbrev pub own_weight : HandleOperand → ℕ
own_weight (operand.Held h) = h.now.weight
own_weight (operand.Leaf l) = 1

-- what operands weigh together
abbrev pub own_weights : List HandleOperand → ℕ
own_weights [] = 0
own_weights (o ∷ os) = own_weight o + own_weights os

-- ---- operands of one type

-- if the operand is a leaf, it has this type
abbrev pub IsLeafOfType : LeafTable → MethodTy → HandleOperand → Type 0
IsLeafOfType leaves ty (operand.Held h) = Unit {0}
IsLeafOfType leaves ty (operand.Leaf l) = type_of leaves (tree.Leaf l) ≡ Ok ty

-- the operands that are leaves have this type
abbrev pub AreLeavesOfType : LeafTable → MethodTy → List HandleOperand → Type 0
AreLeavesOfType leaves ty [] = Unit {0}
AreLeavesOfType leaves ty (o ∷ os) = IsLeafOfType leaves ty o × AreLeavesOfType leaves ty os

-- the recipe of each leaf of a type
abbrev pub leaf_recipe : MethodTy → List Key
leaf_recipe ty = key.LeafRoot (shape_of ty) ∷ []
