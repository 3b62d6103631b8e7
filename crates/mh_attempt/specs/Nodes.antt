-- What the operation of a line asks for: a combinator with its operands, by the number of its handles.
use Rattle.std.specs.Prelude.{◌≡◌, ℕ, ◌<◌, List, [], ◌∷◌, length, flat_map, Result, Ok, Err, IfOk}
use Rattle.mh_values.specs.declared.class.Class.{Class}
use Rattle.mh_values.specs.declared.types.MethodTy.{MethodTy}
use Rattle.mh_intern.specs.Views.{SeatView}
use Rattle.mh_leaf.specs.LeafTable.{LeafTable}
use Rattle.mh_tree.specs.declared.error.CheckError.{CheckError}
use Rattle.mh_tree.specs.declared.error.CheckError.TheVariants as check
use Rattle.mh_tree.specs.Joints.{joint_row, joint_tree}
use Rattle.mh_tree.specs.Rows.{TypeOrRefusal, bind_row, catch_row, counted_row, drop_row, gather_row, guard_row, permute_row, tryfinally_row}
use Rattle.mh_tree.specs.Tree.{Cases, Tree, weight}
use Rattle.mh_tree.specs.Tree as tree
use Rattle.mh_tree.specs.Typing.{type_of}
use Rattle.mh_script.specs.declared.operand.Register.{Register}
use Rattle.mh_script.specs.declared.script.Operation.{Operation}
use Rattle.mh_jobs.specs.Thrown.{OrThrown, ◌>>=◌}
use Rattle.mh_link.specs.Made.{nodes_of_uses}
use Rattle.mh_link.specs.Operands.{Frame, handle_in}
use Rattle.mh_link.specs.Operations.{asked_by, spread_of, use_of}
use Rattle.mh_attempt.specs.declared.handle.HandleOperand.{HandleOperand}
use Rattle.mh_attempt.specs.declared.lines.nodes.Node.{Node}
use Rattle.mh_attempt.specs.declared.lines.nodes.Node.TheVariants as node
use Rattle.mh_attempt.specs.declared.lines.nodes.OfOne.{OfOne}
use Rattle.mh_attempt.specs.declared.lines.nodes.OfOne.TheVariants as one
use Rattle.mh_attempt.specs.declared.lines.nodes.OfThree.{OfThree}
use Rattle.mh_attempt.specs.declared.lines.nodes.OfThree.TheVariants as three
use Rattle.mh_attempt.specs.declared.lines.nodes.OfTwo.{OfTwo}
use Rattle.mh_attempt.specs.declared.lines.nodes.OfTwo.TheVariants as two
use Rattle.mh_attempt.specs.declared.registers.Registers.{Registers}
use Rattle.mh_attempt.specs.Cases.{AreAllHeldIn, StandForEach}
use Rattle.mh_attempt.specs.Recipes.{spread_asked, use_asked}
use Rattle.mh_attempt.specs.Registers.{AreHeldBy, Hold, IsHeldIn, StandsFor, StandsForSome, node_made}

-- ---- combinators

-- the type that a combinator of one handle gives to a target, or the exception that refuses it
abbrev pub one_row : List Class → OfOne → MethodTy → ℕ → TypeOrRefusal
one_row classes (one.Bind place v) target weight = bind_row classes target weight place v
one_row classes (one.Drop place types) target weight = drop_row target weight place types
one_row classes (one.Permute asked order) target weight = permute_row target weight asked order.now
one_row classes (one.Gather array count) target weight = gather_row classes target weight array count

-- its tree
abbrev pub one_tree : OfOne → Tree → Tree
one_tree (one.Bind place v) t = tree.Bind t place v
one_tree (one.Drop place types) t = tree.Drop t place types
one_tree (one.Permute asked order) t = tree.Permute t asked order.now
one_tree (one.Gather array count) t = tree.Gather t array count

-- the type that a combinator of two handles gives to a target and a part, or the exception that refuses it
abbrev pub two_row : List Class → OfTwo → MethodTy → ℕ → MethodTy → ℕ → TypeOrRefusal
two_row classes (two.Joint j) target target_weight part part_weight = joint_row j target target_weight part part_weight
two_row classes (two.Catch class) target target_weight part part_weight = catch_row classes target target_weight class part part_weight
two_row classes two.TryFinally target target_weight part part_weight = tryfinally_row target target_weight part part_weight

-- its tree
abbrev pub two_tree : OfTwo → Tree → Tree → Tree
two_tree (two.Joint j) t p = joint_tree j t p
two_tree (two.Catch class) t p = tree.Catch t class p
two_tree two.TryFinally t p = tree.TryFinally t p

-- the type that a combinator of three handles gives to them, or the exception that refuses it
abbrev pub three_row : OfThree → MethodTy → ℕ → MethodTy → ℕ → MethodTy → ℕ → TypeOrRefusal
three_row three.Guard test l target n fallback m = guard_row test l target n fallback m
three_row three.Counted iterations l init n body m = counted_row iterations l init n body m

-- its tree
abbrev pub three_tree : OfThree → Tree → Tree → Tree → Tree
three_tree three.Guard a b c = tree.Guard a b c
three_tree three.Counted a b c = tree.Counted a b c

-- ---- what an operation asks for

-- it asks for this tree, and makes itself only the form of this tree
pub record IsAlone (m : OrThrown Tree) (itself : Tree → List Tree) (n : Tree) : Type 0 where
  pub asked : m ≡ Ok n
  pub forms : itself ≡ (λ (t : Tree). t ∷ [])

-- the node asks for a tree, or for the exception in its place, and for the forms of the nodes that it makes itself
abbrev pub IsAsked : LeafTable → Node → OrThrown Tree → (Tree → List Tree) → Type 0
IsAsked leaves (node.Leaf l) m itself = (l.0 < length leaves.leaves) × IsAlone m itself (tree.Leaf l)
IsAsked leaves (node.Constant ty v) m itself = IsAlone m itself (tree.Constant ty v)
IsAsked leaves (node.Identity ty) m itself = IsAlone m itself (tree.Identity ty)
IsAsked leaves (node.Throw ret class) m itself = IsAlone m itself (tree.Throw ret class)
IsAsked leaves (node.One h by) m itself = (t : Tree) × StandsFor leaves h t × IsAlone m itself (one_tree by t)
IsAsked leaves (node.Two h by k) m itself = (t : Tree) × (p : Tree) × StandsFor leaves h t × StandsFor leaves k p × IsAlone m itself (two_tree by t p)
IsAsked leaves (node.Three f by h k) m itself =
    (a : Tree) × (b : Tree) × (c : Tree) × StandsFor leaves f a × StandsFor leaves h b × StandsFor leaves k c × IsAlone m itself (three_tree by a b c)
IsAsked leaves (node.Switch h os) m itself =
    (t : Tree) × (ts : Cases) × StandsFor leaves h t × StandForEach leaves os ts × IsAlone m itself (tree.Switch t ts)
IsAsked leaves (node.Spread h array count) m itself =
    (t : Tree) × StandsFor leaves h t × (m ≡ spread_of leaves t array count) × (itself ≡ spread_asked leaves t)
IsAsked leaves (node.Use h by asked) m itself = (t : Tree) × StandsFor leaves h t × (m ≡ use_of by leaves t asked) × (itself ≡ use_asked leaves t)

-- The answer is the node that is asked for, or the exception of an operand. If memory runs out, it says nothing.
abbrev pub TellsNode : LeafTable → Result Node CheckError → OrThrown Tree → (Tree → List Tree) → Type 0
TellsNode leaves (Ok n) m itself = IsAsked leaves n m itself
TellsNode leaves (Err (check.Refused e)) m itself = m ≡ Err e
TellsNode leaves (Err check.NoMemory) m itself = Unit {0}

-- ---- its operands

-- the handles of a node, from left to right
abbrev pub parts_of : Node → List HandleOperand
parts_of (node.One h by) = h ∷ []
parts_of (node.Two h by k) = h ∷ k ∷ []
parts_of (node.Three f by h k) = f ∷ h ∷ k ∷ []
parts_of (node.Switch h os) = h ∷ os
parts_of (node.Spread h array count) = h ∷ []
parts_of (node.Use h by asked) = h ∷ []
parts_of _ = []

-- the seat holds their types
abbrev pub AreHeldIn : SeatView → Node → Type 0
AreHeldIn seat (node.One h by) = IsHeldIn seat h
AreHeldIn seat (node.Two h by k) = IsHeldIn seat h × IsHeldIn seat k
AreHeldIn seat (node.Three f by h k) = IsHeldIn seat f × IsHeldIn seat h × IsHeldIn seat k
AreHeldIn seat (node.Switch h os) = IsHeldIn seat h × AreAllHeldIn seat os
AreHeldIn seat (node.Spread h array count) = IsHeldIn seat h
AreHeldIn seat (node.Use h by asked) = IsHeldIn seat h
AreHeldIn seat _ = Unit {0}

-- ---- where registers stand for frames

-- the tree that an operation asks for in a frame
abbrev pub asked_of : LeafTable → Operation → Frame → OrThrown Tree
asked_of leaves op frame = asked_by leaves frame op

-- the tree that a combinator of the handles of two registers asks for
abbrev pub two_asked : Register → OfTwo → Register → Frame → OrThrown Tree
two_asked h by f frame = do
  target ← handle_in frame h
  part ← handle_in frame f
  Ok (two_tree by target part)

-- the same for three registers
abbrev pub three_asked : Register → OfThree → Register → Register → Frame → OrThrown Tree
three_asked f by h k frame = do
  first ← handle_in frame f
  second ← handle_in frame h
  third ← handle_in frame k
  Ok (three_tree by first second third)

-- the answer is the node that is asked for, which makes itself only its own form
abbrev pub TellsAlone : (Frame → OrThrown Tree) → LeafTable → Registers → Result Node CheckError → Type 0
TellsAlone m leaves registers r = (frame : Frame) → Hold leaves registers frame → TellsNode leaves r (m frame) (λ (t : Tree). t ∷ [])

-- the node's handles make the same nodes as the uses of these registers
abbrev pub MakesUses : List Register → Registers → Result Node CheckError → Type 0
MakesUses used registers r =
    (leaves : LeafTable) (frame : Frame) → Hold leaves registers frame → IfOk r (λ n. flat_map node_made (parts_of n) ≡ nodes_of_uses frame used)

-- a seat that holds the types of all registers holds those of the node
abbrev pub KeepsTypes : Registers → Result Node CheckError → Type 0
KeepsTypes registers r = (seat : SeatView) → AreHeldBy seat registers → IfOk r (AreHeldIn seat)

-- ---- operands of which handles are made

-- the type and the weight of a tree
pub record IsTypedAs (leaves : LeafTable) (t : Tree) (ty : MethodTy) (n : ℕ) : Type 0 where
  pub typed : type_of leaves t ≡ Ok ty
  pub weighed : n ≡ weight t

-- a handle can be made of an operand: it stands for a tree, and the seat holds its types
pub record IsOperand (leaves : LeafTable) (seat : SeatView) (h : HandleOperand) : Type 0 where
  pub stands : StandsForSome leaves h
  pub held : IsHeldIn seat h

-- the same for all operands of a list
abbrev pub AreAllOperands : LeafTable → SeatView → List HandleOperand → Type 0
AreAllOperands leaves seat [] = Unit {0}
AreAllOperands leaves seat (o ∷ os) = IsOperand leaves seat o × AreAllOperands leaves seat os

-- the same for all operands of a node; a leaf must be one of the table
abbrev pub AreOperands : LeafTable → SeatView → Node → Type 0
AreOperands leaves seat (node.Leaf l) = l.0 < length leaves.leaves
AreOperands leaves seat (node.One h by) = IsOperand leaves seat h
AreOperands leaves seat (node.Two h by k) = IsOperand leaves seat h × IsOperand leaves seat k
AreOperands leaves seat (node.Three f by h k) = IsOperand leaves seat f × IsOperand leaves seat h × IsOperand leaves seat k
AreOperands leaves seat (node.Switch h os) = IsOperand leaves seat h × AreAllOperands leaves seat os
AreOperands leaves seat (node.Spread h array count) = IsOperand leaves seat h
AreOperands leaves seat (node.Use h by asked) = IsOperand leaves seat h
AreOperands leaves seat _ = Unit {0}
