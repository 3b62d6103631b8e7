-- For proofs: no clause of a public function reaches these definitions.
-- How the operation of a line changes the work.
use Rattle.std.specs.Prelude.{◌≡◌, List, [], ◌∷◌, Result, Ok}
use Rattle.mh_tree.specs.Tree.{Tree}
use Rattle.mh_handle.specs.declared.error.HandleError.{HandleError}
use Rattle.mh_handle.specs.declared.handle.Handle.{Handle}
use Rattle.mh_handle.specs.declared.work.Work.{Work}
use Rattle.mh_handle.specs.Works.{GoesOn}
use Rattle.mh_jobs.specs.Thrown.{OrThrown, ◌>>=◌}
use Rattle.mh_script.specs.declared.script.Operation.{Operation}
use Rattle.mh_link.specs.Operands.{Frame}
use Rattle.mh_link.specs.Operations.{node_of}
use Rattle.mh_attempt.specs.declared.handle.HandleOperand.{HandleOperand}
use Rattle.mh_attempt.specs.Asked.{AsksIfMade, AsksOrThrows}
use Rattle.mh_attempt.specs.AskedTypes.{AsksTypesOrThrows, line_types, node_types}
use Rattle.mh_attempt.specs.Lines.{MakesNode, typed}
use Rattle.mh_attempt.specs.Recipes.{line_recipes, recipes_made}
use Rattle.mh_attempt.specs.Several.{AddsTypes}

-- How an operation answers and changes the work, if the registers stand for a frame. The answer stands for its node, or is its exception.
-- It asks for exactly the forms of the node's recipes, and for no types except those of its nodes.
pub record MakesOperation (frame : Frame) (operation : Operation) (old new : Work) (r : Result Handle HandleError) : Type 0 where
  pub node : MakesNode (node_of old.leaves.now frame operation) old new r
  pub asks : AsksOrThrows (line_recipes old.leaves.now frame operation) old new r
  pub asked : AsksTypesOrThrows (line_types old.leaves.now frame operation) old new r

-- How a call that makes what an operation asks for answers and changes the work. The answer stands for the tree, or is its exception.
-- It asks for the forms of operands that are leaves, then for those of the nodes that the operation makes itself.
-- It asks for no types except those of these nodes.
pub record MakesAsked (operands : List HandleOperand) (m : OrThrown Tree) (itself : Tree → List Tree) (old new : Work) (r : Result Handle HandleError)
    : Type 0 where
  pub goes_on : GoesOn 4 old new
  pub types : AddsTypes old new r
  pub node : MakesNode (m >>= typed old.leaves.now) old new r
  pub asks : (n : Tree) → m ≡ Ok n → AsksIfMade (recipes_made old.leaves.now operands (itself n)) old new r
  pub asked : AsksTypesOrThrows (node_types old.leaves.now operands (m >>= typed old.leaves.now)) old new r

-- the same for one tree: after the operands' forms it asks only for the form of this tree
abbrev pub MakesOf : List HandleOperand → Tree → Work → Work → Result Handle HandleError → Type 0
MakesOf operands n old new r = MakesAsked operands (Ok n) (λ (t : Tree). t ∷ []) old new r
