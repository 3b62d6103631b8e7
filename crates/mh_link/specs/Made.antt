-- What an attempt makes: nodes of trees, and the recipes of the forms that it asks for.
use Rattle.std.specs.Prelude.{ℕ, List, [], ◌∷◌, ◌++◌, map, flat_map, Option, Some, slice_get, Ok, Err}
use Rattle.mh_values.specs.declared.class.Class.{Class}
use Rattle.mh_values.specs.declared.types.MethodTy.{MethodTy}
use Rattle.mh_leaf.specs.LeafTable.{LeafTable}
use Rattle.mh_tree.specs.Tree.{Tree}
use Rattle.mh_tree.specs.Tree as tree
use Rattle.mh_tree.specs.Typing.{type_of, held_before}
use Rattle.mh_jobs.specs.declared.job.Argument.{Argument}
use Rattle.mh_jobs.specs.declared.job.Argument.TheVariants as argument
use Rattle.mh_jobs.specs.declared.job.BootstrapCall.{BootstrapCall}
use Rattle.mh_jobs.specs.declared.job.Method.{Method}
use Rattle.mh_jobs.specs.declared.job.Method.TheVariants as method
use Rattle.mh_script.specs.declared.operand.Register.{Register}
use Rattle.mh_script.specs.declared.operand.Register.TheVariants as register
use Rattle.mh_script.specs.declared.script.End.{End}
use Rattle.mh_script.specs.declared.script.End.TheVariants as end
use Rattle.mh_script.specs.declared.script.Operation.{Operation}
use Rattle.mh_script.specs.declared.script.Operation.TheVariants as operation
use Rattle.mh_script.specs.declared.script.Script.{Script}
use Rattle.mh_script.specs.declared.script.Step.{Step}
use Rattle.mh_script.specs.declared.script.Step.TheVariants as step
use Rattle.mh_link.specs.Concatenation.{concat_of}
use Rattle.mh_link.specs.Linked.{stepped, ended, called_script, at_start}
use Rattle.mh_link.specs.Operands.{Frame}
use Rattle.mh_link.specs.Operations.{node_of}
use Rattle.mh_jobs.specs.Thrown.{OrThrown}

-- ---- the nodes of a line

-- the registers whose method handles an operation uses
abbrev pub handles_of : Operation → List Register
handles_of (operation.Bind h place v) = h ∷ []
handles_of (operation.Drop h place types) = h ∷ []
handles_of (operation.Permute h ty order) = h ∷ []
handles_of (operation.Filter h place f) = h ∷ f ∷ []
handles_of (operation.FilterReturn h f) = h ∷ f ∷ []
handles_of (operation.Fold h place f) = h ∷ f ∷ []
handles_of (operation.Collect h place f) = h ∷ f ∷ []
handles_of (operation.Spread h ty count) = h ∷ []
handles_of (operation.Gather h ty count) = h ∷ []
handles_of (operation.AsType h ty) = h ∷ []
handles_of (operation.Explicit h ty) = h ∷ []
handles_of (operation.Guard c h e) = c ∷ h ∷ e ∷ []
handles_of (operation.Catch h class f) = h ∷ f ∷ []
handles_of (operation.TryFinally h f) = h ∷ f ∷ []
handles_of (operation.Switch f cases) = f ∷ cases
handles_of (operation.Counted n i b) = n ∷ i ∷ b ∷ []
handles_of (operation.Leaf method) = []
handles_of (operation.Constant ty v) = []
handles_of (operation.Identity ty) = []
handles_of (operation.Throw ret class) = []

-- the node of a static argument that is a leaf
abbrev pub leaf_among : Option Argument → List Tree
leaf_among (Some (argument.Leaf l)) = tree.Leaf l ∷ []
leaf_among _ = []

-- The node that the use of a register makes. Only a static argument that is a leaf makes one: the other handles were made before.
abbrev pub node_of_use : Frame → Register → List Tree
node_of_use frame (register.Argument n) = leaf_among (slice_get frame.call.arguments n)
node_of_use frame _ = []

-- the nodes that the uses of registers make
abbrev pub nodes_of_uses : Frame → List Register → List Tree
nodes_of_uses frame used = flat_map (node_of_use frame) used

-- the register whose method handle is returned
abbrev pub returned : End → List Register
returned (end.Return h) = h ∷ []
returned (end.Raise class message) = []
returned (end.Value v) = []

-- The nodes that an operation makes itself: its own. A spread first makes the conversion of its target to the type that takes the items.
abbrev pub nodes_of : Tree → List Tree
nodes_of (tree.Spread t array count) = t ∷ tree.Spread t array count ∷ []
nodes_of t = t ∷ []

-- ---- the nodes of an attempt

-- these trees, or none if an exception is thrown
abbrev pub unless_thrown : {A : Type 0} → OrThrown A → (A → List Tree) → List Tree
unless_thrown (Ok a) made = made a
unless_thrown (Err e) made = []

-- the nodes that a line before the last one makes: none if it throws
abbrev pub nodes_of_step : LeafTable → Step → Frame → List Tree
nodes_of_step leaves (step.Let name op) frame = unless_thrown (node_of leaves frame op) (λ t. nodes_of_uses frame (handles_of op) ++ nodes_of t)
nodes_of_step leaves _ frame = []

-- the nodes that the rest of a script makes, up to the line that throws
abbrev pub nodes_from : LeafTable → List Step → End → Frame → List Tree
nodes_from leaves [] e frame = unless_thrown (ended leaves e frame) (λ t. nodes_of_uses frame (returned e))
nodes_from leaves (s ∷ steps) e frame = nodes_of_step leaves s frame ++ unless_thrown (stepped leaves s frame) (nodes_from leaves steps e)

-- the node that a concatenation makes
abbrev pub concat_nodes : List Class → BootstrapCall → List Tree
concat_nodes classes call = unless_thrown (concat_of classes call) (λ t. t ∷ [])

-- the nodes that a call of a bootstrap method makes, in the attempt with a serial number
abbrev pub nodes_of_method : LeafTable → List Script → ℕ → BootstrapCall → Method → List Tree
nodes_of_method leaves scripts serial call (method.Script id) =
    unless_thrown (called_script scripts id) (λ script. nodes_from leaves script.steps script.end (at_start call serial))
nodes_of_method leaves scripts serial call method.Concat = concat_nodes leaves.classes call

-- the nodes that the bootstrap method of a call makes
abbrev pub nodes_of_call : LeafTable → List Script → ℕ → BootstrapCall → List Tree
nodes_of_call leaves scripts serial call = nodes_of_method leaves scripts serial call call.method

-- the nodes that the attempt with a serial number makes for a call; the list may have a node twice
abbrev pub nodes : LeafTable → List Script → OrThrown BootstrapCall → ℕ → List Tree
nodes leaves scripts call serial = unless_thrown call (nodes_of_call leaves scripts serial)

-- ---- what is asked for

-- the types of nodes
abbrev pub types_of : LeafTable → List Tree → List MethodTy
types_of leaves made = flat_map (λ t. held_before (type_of leaves t) []) made

-- the beginnings of a list, except the empty one
abbrev pub beginnings : {A : Type 0} → List A → List (List A)
beginnings [] = []
beginnings (x ∷ xs) = (x ∷ []) ∷ map (λ front. x ∷ front) (beginnings xs)

-- The edits of an attempt: the recipes of its nodes, with all beginnings of each. An edit makes a form from the form with one key less.
-- So an attempt asks for a form of each beginning too, and the edits do not depend on which line made which form.
abbrev pub edits : {K : Type 0} → (Tree → List K) → LeafTable → List Script → OrThrown BootstrapCall → ℕ → List (List K)
edits recipe leaves scripts call serial = flat_map (λ t. beginnings (recipe t)) (nodes leaves scripts call serial)
