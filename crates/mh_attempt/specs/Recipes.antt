-- The nodes whose forms the lines of a script ask for, and their recipes.
use Rattle.std.specs.Prelude.{ℕ, List, [], ◌∷◌, ◌++◌, map, flat_map, if◌then◌else◌}
use Rattle.mh_leaf.specs.LeafTable.{LeafTable}
use Rattle.mh_tree.specs.Tree.{Tree}
use Rattle.mh_tree.specs.Tree as tree
use Rattle.mh_edit.specs.declared.key.Key.{Key}
use Rattle.mh_handle.specs.Recipe.{recipe}
use Rattle.mh_handle.specs.SameRecipes.{same_recipe}
use Rattle.mh_jobs.specs.declared.job.BootstrapCall.{BootstrapCall}
use Rattle.mh_jobs.specs.declared.job.Method.{Method}
use Rattle.mh_jobs.specs.declared.job.Method.TheVariants as method
use Rattle.mh_jobs.specs.Thrown.{OrThrown}
use Rattle.mh_script.specs.declared.script.End.{End}
use Rattle.mh_script.specs.declared.script.Operation.{Operation}
use Rattle.mh_script.specs.declared.script.Operation.TheVariants as operation
use Rattle.mh_script.specs.declared.script.Script.{Script}
use Rattle.mh_script.specs.declared.script.Step.{Step}
use Rattle.mh_script.specs.declared.script.Step.TheVariants as step
use Rattle.mh_attempt.specs.declared.handle.HandleOperand.{HandleOperand}
use Rattle.mh_attempt.specs.Registers.{node_made}
use Rattle.mh_link.specs.Linked.{stepped, ended, called_script, at_start}
use Rattle.mh_link.specs.Made.{concat_nodes, handles_of, returned, nodes_of_uses, unless_thrown}
use Rattle.mh_link.specs.Operands.{Frame, handle_in}
use Rattle.mh_link.specs.Operations.{node_of}

-- ---- nodes

-- a conversion of a tree, if it has another recipe; one with the same recipe asks for no form
abbrev pub use_asked : LeafTable → Tree → Tree → List Tree
use_asked leaves t u = if same_recipe (recipe leaves u) (recipe leaves t) then [] else u ∷ []

-- a spread of a tree, and before it the conversion of the tree
abbrev pub spread_asked : LeafTable → Tree → Tree → List Tree
spread_asked leaves t (tree.Spread u array count) = use_asked leaves t u ++ tree.Spread u array count ∷ []
spread_asked leaves t s = s ∷ []

-- the nodes that an operation makes itself and whose forms it asks for, given its node
abbrev pub asked_itself : LeafTable → Frame → Operation → Tree → List Tree
asked_itself leaves frame (operation.Spread h ty count) s = unless_thrown (handle_in frame h) (λ t. spread_asked leaves t s)
asked_itself leaves frame (operation.AsType h ty) u = unless_thrown (handle_in frame h) (λ t. use_asked leaves t u)
asked_itself leaves frame (operation.Explicit h ty) u = unless_thrown (handle_in frame h) (λ t. use_asked leaves t u)
asked_itself leaves frame op t = t ∷ []

-- the nodes whose forms an operation asks for, with its uses of leaves first: none if it throws
abbrev pub line_asked : LeafTable → Frame → Operation → List Tree
line_asked leaves frame op = unless_thrown (node_of leaves frame op) (λ t. nodes_of_uses frame (handles_of op) ++ asked_itself leaves frame op t)

-- the nodes whose forms a line before the last one asks for
abbrev pub step_asked : LeafTable → Step → Frame → List Tree
step_asked leaves (step.Let name op) frame = line_asked leaves frame op
step_asked leaves _ frame = []

-- the nodes whose forms the last line asks for
abbrev pub end_asked : LeafTable → End → Frame → List Tree
end_asked leaves e frame = unless_thrown (ended leaves e frame) (λ t. nodes_of_uses frame (returned e))

-- the nodes whose forms the rest of a script asks for, up to the line that throws
abbrev pub script_asked : LeafTable → List Step → End → Frame → List Tree
script_asked leaves [] e frame = end_asked leaves e frame
script_asked leaves (s ∷ steps) e frame = step_asked leaves s frame ++ unless_thrown (stepped leaves s frame) (script_asked leaves steps e)

-- the nodes whose forms a call of a bootstrap method asks for, in the attempt with a serial number
abbrev pub method_asked : LeafTable → List Script → ℕ → BootstrapCall → Method → List Tree
method_asked leaves scripts serial call (method.Script id) =
    unless_thrown (called_script scripts id) (λ script. script_asked leaves script.steps script.end (at_start call serial))
method_asked leaves scripts serial call method.Concat = concat_nodes leaves.classes call

-- the nodes whose forms the bootstrap method of a call asks for
abbrev pub call_asked : LeafTable → List Script → ℕ → BootstrapCall → List Tree
call_asked leaves scripts serial call = method_asked leaves scripts serial call call.method

-- the nodes whose forms the attempt with a serial number asks for, for a call
abbrev pub attempt_asked : LeafTable → List Script → OrThrown BootstrapCall → ℕ → List Tree
attempt_asked leaves scripts call serial = unless_thrown call (call_asked leaves scripts serial)

-- ---- their recipes

-- the recipes of the forms that an operation asks for
abbrev pub line_recipes : LeafTable → Frame → Operation → List (List Key)
line_recipes leaves frame op = map (recipe leaves) (line_asked leaves frame op)

-- the recipes of the forms that the last line asks for
abbrev pub end_recipes : LeafTable → End → Frame → List (List Key)
end_recipes leaves e frame = map (recipe leaves) (end_asked leaves e frame)

-- the recipes of the forms that the rest of a script asks for
abbrev pub script_recipes : LeafTable → List Step → End → Frame → List (List Key)
script_recipes leaves steps e frame = map (recipe leaves) (script_asked leaves steps e frame)

-- the recipes of the forms that the attempt with a serial number asks for, for a call
abbrev pub attempt_recipes : LeafTable → List Script → OrThrown BootstrapCall → ℕ → List (List Key)
attempt_recipes leaves scripts call serial = map (recipe leaves) (attempt_asked leaves scripts call serial)

-- the recipes of the forms that making handles of operands, and then these nodes, asks for
abbrev pub recipes_made : LeafTable → List HandleOperand → List Tree → List (List Key)
recipes_made leaves operands nodes = map (recipe leaves) (flat_map node_made operands ++ nodes)
