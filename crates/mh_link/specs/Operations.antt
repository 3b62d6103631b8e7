-- What each operation of a script makes: a tree of its operands, which must have a type.
use Rattle.std.specs.Prelude.{ℕ, nat_le, ◌&&◌, List, [], ◌∷◌, length, codes, Option, is_some, Ok}
use Rattle.mh_values.specs.declared.types.Ty.{Ty}
use Rattle.mh_values.specs.declared.types.MethodTy.{MethodTy}
use Rattle.mh_convert.specs.declared.conv.Rules.{Rules}
use Rattle.mh_convert.specs.declared.conv.Rules.TheVariants as rules
use Rattle.mh_leaf.specs.LeafTable.{LeafTable}
use Rattle.mh_leaves.specs.declared.naming.How.TheVariants.{Any}
use Rattle.mh_tree.specs.Tree.{Tree, cases_of}
use Rattle.mh_tree.specs.Tree as tree
use Rattle.mh_tree.specs.Rows.{component_of, illegal}
use Rattle.mh_tree.specs.Typing.{type_of}
use Rattle.mh_tree.specs.Use.{used_by, items_used_as}
use Rattle.mh_script.specs.declared.operand.Register.{Register}
use Rattle.mh_script.specs.declared.script.Operation.{Operation}
use Rattle.mh_script.specs.declared.script.Operation.TheVariants as operation
use Rattle.mh_link.specs.Operands.{Frame, handle_in, value_in, type_in, method_type_in}
use Rattle.mh_jobs.specs.Names.{class_of, types_of_text, leaf_named}
use Rattle.mh_jobs.specs.Thrown.{OrThrown, ◌>>=◌, ◌>>◌, require, plainly}

-- a tree converted to a type by the rules
abbrev pub use_of : Rules → LeafTable → Tree → MethodTy → OrThrown Tree
use_of by leaves t asked = do
  own ← type_of leaves t
  Ok (used_by by own asked t)

-- a spread of a tree, which is first converted to the type that takes the array's items
abbrev pub spread_of : LeafTable → Tree → Option Ty → ℕ → OrThrown Tree
spread_of leaves t array count = do
  own ← type_of leaves t
  require (is_some (component_of array) && nat_le count (length own.params)) (illegal (codes "spread"))
  Ok (tree.Spread (items_used_as own array count t) array count)

-- the trees of registers with method handles, which are resolved from left to right
abbrev pub handles_in : Frame → List Register → OrThrown (List Tree)
handles_in frame [] = Ok []
handles_in frame (r ∷ rs) = do
  t ← handle_in frame r
  ts ← handles_in frame rs
  Ok (t ∷ ts)

-- the tree that an operation asks for; its operands are resolved from left to right
abbrev pub asked_by : LeafTable → Frame → Operation → OrThrown Tree
asked_by leaves frame (operation.Leaf method) = do
  l ← leaf_named plainly leaves Any method
  Ok (tree.Leaf l)
asked_by leaves frame (operation.Constant ty v) = do
  t ← type_in leaves.classes frame ty
  w ← value_in frame v
  Ok (tree.Constant t w)
asked_by leaves frame (operation.Identity ty) = do
  t ← type_in leaves.classes frame ty
  Ok (tree.Identity t)
asked_by leaves frame (operation.Throw ret class) = do
  t ← type_in leaves.classes frame ret
  c ← class_of plainly leaves.classes class
  Ok (tree.Throw t c)
asked_by leaves frame (operation.Bind h place v) = do
  target ← handle_in frame h
  w ← value_in frame v
  Ok (tree.Bind target place w)
asked_by leaves frame (operation.Drop h place types) = do
  target ← handle_in frame h
  ts ← types_of_text plainly leaves.classes types
  Ok (tree.Drop target place ts)
asked_by leaves frame (operation.Permute h ty order) = do
  target ← handle_in frame h
  asked ← method_type_in leaves.classes frame ty
  Ok (tree.Permute target asked order)
asked_by leaves frame (operation.Filter h place f) = do
  target ← handle_in frame h
  filter ← handle_in frame f
  Ok (tree.FilterArg target place filter)
asked_by leaves frame (operation.FilterReturn h f) = do
  target ← handle_in frame h
  filter ← handle_in frame f
  Ok (tree.FilterRet target filter)
asked_by leaves frame (operation.Fold h place f) = do
  target ← handle_in frame h
  combiner ← handle_in frame f
  Ok (tree.Fold target place combiner)
asked_by leaves frame (operation.Collect h place f) = do
  target ← handle_in frame h
  filter ← handle_in frame f
  Ok (tree.Collect target place filter)
asked_by leaves frame (operation.Spread h ty count) = do
  target ← handle_in frame h
  array ← type_in leaves.classes frame ty
  spread_of leaves target array count
asked_by leaves frame (operation.Gather h ty count) = do
  target ← handle_in frame h
  array ← type_in leaves.classes frame ty
  Ok (tree.Gather target array count)
asked_by leaves frame (operation.AsType h ty) = do
  target ← handle_in frame h
  asked ← method_type_in leaves.classes frame ty
  use_of rules.AsType leaves target asked
asked_by leaves frame (operation.Explicit h ty) = do
  target ← handle_in frame h
  asked ← method_type_in leaves.classes frame ty
  use_of rules.Explicit leaves target asked
asked_by leaves frame (operation.Guard c h e) = do
  test ← handle_in frame c
  target ← handle_in frame h
  fallback ← handle_in frame e
  Ok (tree.Guard test target fallback)
asked_by leaves frame (operation.Catch h class f) = do
  target ← handle_in frame h
  c ← class_of plainly leaves.classes class
  handler ← handle_in frame f
  Ok (tree.Catch target c handler)
asked_by leaves frame (operation.TryFinally h f) = do
  target ← handle_in frame h
  cleanup ← handle_in frame f
  Ok (tree.TryFinally target cleanup)
asked_by leaves frame (operation.Switch f cs) = do
  fallback ← handle_in frame f
  cases ← handles_in frame cs
  Ok (tree.Switch fallback (cases_of cases))
asked_by leaves frame (operation.Counted n i b) = do
  iterations ← handle_in frame n
  init ← handle_in frame i
  body ← handle_in frame b
  Ok (tree.Counted iterations init body)

-- the node that an operation makes: the tree that it asks for, which must have a type
abbrev pub node_of : LeafTable → Frame → Operation → OrThrown Tree
node_of leaves frame op = do
  t ← asked_by leaves frame op
  own ← type_of leaves t
  Ok t
