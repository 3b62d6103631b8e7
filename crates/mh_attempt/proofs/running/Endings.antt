-- The last line of a script: what is returned, and what is raised.
use Rattle.std.proofs.Common.{◌≡◌, refl, sym, ◌∙◌, ap, Bool, true, false, Result, Ok, Err, IfOk}
use Rattle.mh_values.specs.declared.types.MethodTy.{MethodTy}
use Rattle.mh_values.specs.declared.value.Exc.{Exc}
use Rattle.mh_values.specs.Same.{is_same_method_type}
use Rattle.mh_leaf.specs.LeafTable.{LeafTable}
use Rattle.mh_tree.specs.Tree.{Tree}
use Rattle.mh_tree.specs.Rows.{mismatch}
use Rattle.mh_tree.specs.Typing.{type_of}
use Rattle.mh_handle.specs.declared.error.HandleError.{HandleError}
use Rattle.mh_handle.specs.declared.error.HandleError.TheVariants.{NoMemory, FormsFull, TypesFull, Refused}
use Rattle.mh_handle.specs.declared.handle.Handle.{Handle}
use Rattle.mh_handle.specs.declared.work.Work.{Work}
use Rattle.mh_handle.specs.Stands.{Stands}
use Rattle.mh_handle.specs.Works.{IsAccepted}
use Rattle.mh_handle.proofs.obeying.Going.{unchanged-still}
use Rattle.mh_script.specs.declared.operand.Register.{Register}
use Rattle.mh_script.specs.declared.script.End.TheVariants as end
use Rattle.mh_jobs.specs.Thrown.{OrThrown, ◌>>=◌, ◌>>◌, require}
use Rattle.mh_attempt.specs.Lines.{MakesNode}
use Rattle.mh_link.specs.Linked.{ended}
use Rattle.mh_link.specs.Operands.{Frame, handle_in}

-- ---- `return`

-- a tree of a type, where that is the site's
back : LeafTable → MethodTy → Tree → MethodTy → OrThrown Tree
back leaves asked t own = require (is_same_method_type own asked) (mismatch leaves.classes own asked) >> Ok t

-- what a last line returns by its parts
returned-is : (leaves : LeafTable) (r : Register) (frame : Frame) (t : Tree) (own asked : MethodTy) → handle_in frame r ≡ Ok t → type_of leaves t ≡ Ok own →
    frame.call.ty ≡ asked → ended leaves (end.Return r) frame ≡ back leaves asked t own
unfolding back
returned-is leaves r frame t own asked held typed is =
    ap (λ m. m >>= (λ u. type_of leaves u >>= (λ o. back leaves frame.call.ty u o))) held
    ∙ (ap (λ m. m >>= (λ o. back leaves frame.call.ty t o)) typed ∙ ap (λ a. back leaves a t own) is)

-- a handle of another type
pub mismatched-node : (w : Work) (r : Register) (frame : Frame) (t : Tree) (own asked : MethodTy) (exc : Exc) → handle_in frame r ≡ Ok t →
    type_of w.leaves.now t ≡ Ok own → frame.call.ty ≡ asked → is_same_method_type own asked ≡ false → exc ≡ mismatch w.leaves.now.classes own asked →
    MakesNode (ended w.leaves.now (end.Return r) frame) w w (Err (Refused exc))
unfolding back
mismatched-node w r frame t own asked exc held typed is other told = (
  returned-is w.leaves.now r frame t own asked held typed is
      ∙ (ap (λ b. require b (mismatch w.leaves.now.classes own asked) >> Ok t) other ∙ ap Err (sym told)),
  unchanged-still w,
)

-- a handle of the site's type is what the last line gives
pub returned-given : (leaves : LeafTable) (r : Register) (frame : Frame) (t : Tree) (own asked : MethodTy) → handle_in frame r ≡ Ok t →
    type_of leaves t ≡ Ok own → frame.call.ty ≡ asked → is_same_method_type own asked ≡ true → ended leaves (end.Return r) frame ≡ Ok t
unfolding back
returned-given leaves r frame t own asked held typed is same =
    returned-is leaves r frame t own asked held typed is ∙ ap (λ b. require b (mismatch leaves.classes own asked) >> Ok t) same

-- a handle of the site's type
pub returned-node : (old new : Work) (r : Register) (frame : Frame) (t : Tree) (own asked : MethodTy) (made : Result Handle HandleError) →
    handle_in frame r ≡ Ok t → type_of old.leaves.now t ≡ Ok own → frame.call.ty ≡ asked → is_same_method_type own asked ≡ true → IsAccepted made →
    IfOk made (λ h. Stands old.leaves.now h t) → MakesNode (ended old.leaves.now (end.Return r) frame) old new made
unfolding back
returned-node old new r frame t own asked (Ok h) held typed is same accepted stands =
    (t, returned-is old.leaves.now r frame t own asked held typed is ∙ ap (λ b. require b (mismatch old.leaves.now.classes own asked) >> Ok t) same, stands)
returned-node old new r frame t own asked (Err (FormsFull drawn)) held typed is same accepted stands =
    (t, returned-is old.leaves.now r frame t own asked held typed is ∙ ap (λ b. require b (mismatch old.leaves.now.classes own asked) >> Ok t) same)
returned-node old new r frame t own asked (Err (TypesFull bucket)) held typed is same accepted stands =
    (t, returned-is old.leaves.now r frame t own asked held typed is ∙ ap (λ b. require b (mismatch old.leaves.now.classes own asked) >> Ok t) same)
returned-node old new r frame t own asked (Err NoMemory) held typed is same accepted stands = tt
returned-node old new r frame t own asked (Err (Refused e)) held typed is same accepted stands = absurd accepted

-- ---- `raise`

-- an exception, thrown
throw : Exc → OrThrown Tree
throw e = Err e

below : (b : Bool) (e exc : Exc) → ((require b e >> Ok exc) >>= throw) ≡ (require b e >> throw exc)
below true e exc = refl
below false e exc = refl
