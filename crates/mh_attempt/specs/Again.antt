-- For proofs: no clause of a public function reaches these definitions.
-- Lines that join something to the handle of the register which they assign.
use denote.Ref.{Bor}
use Rattle.std.specs.Prelude.{◌≡◌, ℕ, List, [], ◌∷◌, ◌++◌, map, Result, Ok}
use Rattle.mh_leaf.specs.LeafTable.{LeafTable}
use Rattle.mh_tree.specs.Tree.{Tree}
use Rattle.mh_handle.specs.declared.error.HandleError.{HandleError}
use Rattle.mh_handle.specs.declared.handle.Handle.{Handle}
use Rattle.mh_handle.specs.declared.work.Work.{Work}
use Rattle.mh_handle.specs.Recipe.{recipe}
use Rattle.mh_jobs.specs.Thrown.{OrThrown, ◌>>=◌}
use Rattle.mh_script.specs.declared.operand.Register.{Register}
use Rattle.mh_script.specs.declared.operand.Register.TheVariants as register
use Rattle.mh_script.specs.declared.script.Operation.{Operation}
use Rattle.mh_link.specs.Made.{handles_of, nodes_of, nodes_of_uses, types_of, unless_thrown}
use Rattle.mh_link.specs.Operands.{Frame, handle_in}
use Rattle.mh_link.specs.Operations.{asked_by}
use Rattle.mh_attempt.specs.declared.lines.nodes.OfTwo.{OfTwo}
use Rattle.mh_attempt.specs.Asked.{AsksIfMade}
use Rattle.mh_attempt.specs.AskedTypes.{AsksTypesOrThrows}
use Rattle.mh_attempt.specs.Lines.{MakesNode, typed}
use Rattle.mh_attempt.specs.Nodes.{two_tree}
use Rattle.mh_attempt.specs.Recipes.{asked_itself}

-- the tree that is asked for: the handle of the register of this name, with that of another register joined to it
abbrev pub pair_asked : List ℕ → OfTwo → Register → Frame → OrThrown Tree
pair_asked name by part frame = do
  t ← handle_in frame (register.Assigned name)
  p ← handle_in frame part
  Ok (two_tree by t p)

-- the operation asks for this tree, and makes itself only the form of this tree
pub record IsPair (op : Operation) (name : List ℕ) (by : OfTwo) (part : Register) : Type 0 where
  pub asked : (leaves : LeafTable) (frame : Frame) → asked_by leaves frame op ≡ pair_asked name by part frame
  pub itself : (leaves : LeafTable) (frame : Frame) → asked_itself leaves frame op ≡ (λ (t : Tree). t ∷ [])
  pub handles : handles_of op ≡ register.Assigned name ∷ part ∷ []

-- this part is joined in this way, and the target is the register of this name
pub record IsJoined (target : Register) (name : List ℕ) (by : OfTwo) (part : Bor Register) (with : OfTwo × Bor Register) : Type 0 where
  pub target_is : target ≡ register.Assigned name
  pub by_is : with.0 ≡ by
  pub part_is : with.1 ≡ part

-- How a call that makes this tree answers and changes the work, if the registers stand for a frame. Only the use of the part may make a node.
pub record MakesPair (frame : Frame) (name : List ℕ) (by : OfTwo) (part : Register) (old new : Work) (r : Result Handle HandleError) : Type 0 where
  pub node : MakesNode (pair_asked name by part frame >>= typed old.leaves.now) old new r
  pub asks : (n : Tree) → pair_asked name by part frame ≡ Ok n →
      AsksIfMade (map (recipe old.leaves.now) (nodes_of_uses frame (part ∷ []) ++ n ∷ [])) old new r
  pub asked : AsksTypesOrThrows (types_of old.leaves.now (unless_thrown (pair_asked name by part frame >>= typed old.leaves.now)
      (λ n. nodes_of_uses frame (part ∷ []) ++ nodes_of n))) old new r
