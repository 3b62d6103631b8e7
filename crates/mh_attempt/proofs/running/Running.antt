-- What the lines of a script give, one after the other.
use Rattle.std.proofs.Common.{◌≡◌, sym, ◌∙◌, ap, subst, ℕ, List, Result, Ok, Err}
use Rattle.mh_values.specs.declared.value.Exc.{Exc}
use Rattle.mh_leaf.specs.LeafTable.{LeafTable}
use Rattle.mh_tree.specs.Tree.{Tree}
use Rattle.mh_handle.specs.declared.error.HandleError.{HandleError}
use Rattle.mh_handle.specs.declared.error.HandleError.TheVariants.{NoMemory, FormsFull, TypesFull, Refused}
use Rattle.mh_handle.specs.declared.handle.Handle.{Handle}
use Rattle.mh_handle.specs.declared.work.Work.{Work}
use Rattle.mh_handle.specs.Stands.{Stands}
use Rattle.mh_script.specs.declared.script.Operation.{Operation}
use Rattle.mh_script.specs.declared.script.Step.TheVariants as step
use Rattle.mh_jobs.specs.Thrown.{OrThrown, ◌>>=◌, ◌>>◌}
use Rattle.mh_link.specs.Linked.{assigning, stepped}
use Rattle.mh_link.specs.Operands.{Frame, handle}
use Rattle.mh_link.specs.Operations.{node_of}
use Rattle.mh_attempt.specs.Lines.{MakesNode, TellsTarget, passes}

-- ---- one line

-- the line made a node
pub let-made : (leaves : LeafTable) (name : List ℕ) (op : Operation) (frame : Frame) (t : Tree) → node_of leaves frame op ≡ Ok t →
    stepped leaves (step.Let name op) frame ≡ Ok (assigning name (handle t) frame)
let-made leaves name op frame t made = ap (λ m. m >>= (λ u. Ok (assigning name (handle u) frame))) made

-- its operation threw
pub let-thrown : (leaves : LeafTable) (name : List ℕ) (op : Operation) (frame : Frame) (exc : Exc) → node_of leaves frame op ≡ Err exc →
    stepped leaves (step.Let name op) frame ≡ Err exc
let-thrown leaves name op frame exc thrown = ap (λ m. m >>= (λ u. Ok (assigning name (handle u) frame))) thrown

-- the number of the attempt has another remainder
pub pass-stepped : (leaves : LeafTable) (modulus remainder serial : ℕ) (frame : Frame) (u : Unit {0}) → frame.serial ≡ serial →
    passes serial modulus remainder ≡ Ok u → stepped leaves (step.FailMod modulus remainder) frame ≡ Ok frame
pass-stepped leaves modulus remainder serial frame u is passed =
    ap (λ n. passes n modulus remainder >> Ok frame) is ∙ ap (λ m. m >> Ok frame) passed

-- it has this remainder
pub pass-thrown : (leaves : LeafTable) (modulus remainder serial : ℕ) (frame : Frame) (exc : Exc) → frame.serial ≡ serial →
    passes serial modulus remainder ≡ Err exc → stepped leaves (step.FailMod modulus remainder) frame ≡ Err exc
pass-thrown leaves modulus remainder serial frame exc is thrown =
    ap (λ n. passes n modulus remainder >> Ok frame) is ∙ ap (λ m. m >> Ok frame) thrown

-- ---- what is told of the target

-- over leaves that stayed
pub tells-over : (target : OrThrown Tree) (old mid : Work) (r : Result Handle HandleError) → mid.leaves ≡ old.leaves → TellsTarget target mid r →
    TellsTarget target old r
tells-over target old mid (Ok h) same tells = (tells.0, tells.1, subst (λ leaves. Stands leaves.now h tells.0) same tells.2)
tells-over target old mid (Err (Refused e)) same tells = tells
tells-over target old mid (Err (FormsFull drawn)) same tells = tells
tells-over target old mid (Err (TypesFull bucket)) same tells = tells
tells-over target old mid (Err NoMemory) same tells = tells

-- of a target that is equal
pub same-target : (target other : OrThrown Tree) (old : Work) (r : Result Handle HandleError) → target ≡ other → TellsTarget other old r →
    TellsTarget target old r
same-target target other old r is tells = subst (λ m. TellsTarget m old r) (sym is) tells

-- by the last line
pub told-node : (node : OrThrown Tree) (old new : Work) (r : Result Handle HandleError) → MakesNode node old new r → TellsTarget node old r
told-node node old new (Ok h) makes = makes
told-node node old new (Err (Refused e)) makes = makes.0
told-node node old new (Err (FormsFull drawn)) makes = tt
told-node node old new (Err (TypesFull bucket)) makes = tt
told-node node old new (Err NoMemory) makes = tt
