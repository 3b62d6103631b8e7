-- What is linked has the type of its site.
use Rattle.std.proofs.Common.{◌≡◌, refl, subst, Bool, List, [], ◌∷◌, Ok, Err, codes, ℕ}
use Rattle.std.specs.Prelude.{not, ◌==◌, ◌%◌}
use Rattle.mh_base.proofs.Inversion.{ok_is}
use Rattle.mh_values.specs.declared.types.MethodTy.{MethodTy}
use Rattle.mh_values.specs.declared.value.Exc.{Exc}
use Rattle.mh_values.specs.Class.{is_subclass, throwable_class}
use Rattle.mh_values.specs.Exception.{saying}
use Rattle.mh_values.specs.Same.{is_same_method_type}
use Rattle.mh_values.proofs.SameTypes.{same_method_type-is}
use Rattle.mh_leaf.specs.LeafTable.{LeafTable}
use Rattle.mh_tree.specs.Tree.{Tree}
use Rattle.mh_tree.specs.Rows.{illegal, mismatch}
use Rattle.mh_tree.specs.Typing.{type_of}
use Rattle.mh_jobs.specs.declared.job.BootstrapCall.{BootstrapCall}
use Rattle.mh_jobs.specs.declared.job.Method.{Method}
use Rattle.mh_jobs.specs.declared.job.Method.TheVariants as method
use Rattle.mh_script.specs.declared.script.End.{End}
use Rattle.mh_script.specs.declared.script.End.TheVariants as end
use Rattle.mh_script.specs.declared.script.Script.{Script}
use Rattle.mh_script.specs.declared.script.Step.{Step}
use Rattle.mh_script.specs.declared.script.Step.TheVariants as step
use Rattle.mh_jobs.proofs.Parts.{bound-parts, require-parts}
use Rattle.mh_link.specs.Linked.{Target, linkage, assigning, stepped, ended, ran, called_script, at_start, method_target, target_of, outcome, linked}
use Rattle.mh_link.proofs.typing.Concatenations.{concat-typed}
use Rattle.mh_jobs.specs.Names.{class_of}
use Rattle.mh_link.specs.Operands.{Frame, handle_in, handle}
use Rattle.mh_link.specs.Operations.{node_of}
use Rattle.mh_jobs.specs.Thrown.{OrThrown, ◌>>=◌, ◌>>◌, require, plainly, runtime_class}

is_thrown : (e : Exc) (t : Tree) → ◌≡◌ {A = OrThrown Tree} (Err e) (Ok t) → ⊥
is_thrown e t h = absurd cc

-- what a script returns has the site's type
pub ended-typed : (leaves : LeafTable) (e : End) (frame : Frame) (t : Tree) → ended leaves e frame ≡ Ok t → type_of leaves t ≡ Ok frame.call.ty
ended-typed leaves (end.Return r) frame t h =
    let same : MethodTy → Bool = λ own. is_same_method_type own frame.call.ty in
    let wrong : MethodTy → Exc = λ own. mismatch leaves.classes own frame.call.ty in
    let held = bound-parts (handle_in frame r) (λ u. type_of leaves u >>= (λ own. require (same own) (wrong own) >> Ok u)) t h in
    let typed = bound-parts (type_of leaves held.0) (λ own. require (same own) (wrong own) >> Ok held.0) t held.2 in
    let asked = require-parts (same typed.0) (wrong typed.0) (Ok held.0) t typed.2 in
    let is = same_method_type-is typed.0 frame.call.ty asked.0 in
    subst (λ u. type_of leaves u ≡ Ok frame.call.ty) (ok_is held.0 t asked.1) (subst (λ own. type_of leaves held.0 ≡ Ok own) is typed.1)
ended-typed leaves (end.Raise class message) frame t h =
    let known = bound-parts (class_of plainly leaves.classes class)
    (λ c. require (is_subclass leaves.classes c throwable_class) (illegal (codes "raise")) >> Err (saying c message)) t h in
    let below = require-parts (is_subclass leaves.classes known.0 throwable_class) (illegal (codes "raise")) (Err (saying known.0 message)) t known.2 in
    absurd (is_thrown (saying known.0 message) t below.1)
ended-typed leaves (end.Value v) frame t h = absurd cc

-- no line changes what the script is called with
pub stepped-call : (leaves : LeafTable) (s : Step) (frame next : Frame) → stepped leaves s frame ≡ Ok next → next.call ≡ frame.call
stepped-call leaves (step.Let name op) frame next h =
    let made = bound-parts (node_of leaves frame op) (λ t. Ok (assigning name (handle t) frame)) next h in
    subst (λ (f : Frame). f.call ≡ frame.call) (ok_is (assigning name (handle made.0) frame) next made.2) refl
stepped-call leaves (step.Serial name) frame next h = subst (λ (f : Frame). f.call ≡ frame.call) (ok_is _ next h) refl
stepped-call leaves (step.FailMod modulus remainder) frame next h =
    let other = require-parts (not (frame.serial % modulus == remainder)) (saying runtime_class (codes "failmod")) (Ok frame) next h in
    subst (λ (f : Frame). f.call ≡ frame.call) (ok_is frame next other.1) refl

-- a target has the site's type
pub ran-typed : (leaves : LeafTable) (steps : List Step) (e : End) (frame : Frame) (t : Tree) → ran leaves steps e frame ≡ Ok t → type_of leaves t
    ≡ Ok frame.call.ty
ran-typed leaves [] e frame t h = ended-typed leaves e frame t h
ran-typed leaves (s ∷ steps) e frame t h =
    let next = bound-parts (stepped leaves s frame) (ran leaves steps e) t h in
    subst (λ (c : BootstrapCall). type_of leaves t ≡ Ok c.ty) (stepped-call leaves s frame next.0 next.1) (ran-typed leaves steps e next.0 t next.2)

is_target : (leaves : LeafTable) (o : OrThrown Tree) (t : Tree) → linkage leaves.classes o ≡ Target t → o ≡ Ok t
is_target leaves (Ok u) t h = cc
is_target leaves (Err e) t h = absurd cc

method_target-typed : (leaves : LeafTable) (scripts : List Script) (serial : ℕ) (call : BootstrapCall) (m : Method) (t : Tree) →
    method_target leaves scripts serial call m ≡ Ok t → type_of leaves t ≡ Ok call.ty
method_target-typed leaves scripts serial call (method.Script id) t h =
    let scripted = bound-parts (called_script scripts id) (λ script. ran leaves script.steps script.end (at_start call serial)) t h in
    ran-typed leaves scripted.0.steps scripted.0.end (at_start call serial) t scripted.2
method_target-typed leaves scripts serial call method.Concat t h = concat-typed leaves call t h

-- what is linked is linked for a call of the bootstrap method, and has the type of the call
pub linked-typed : (leaves : LeafTable) (scripts : List Script) (call : OrThrown BootstrapCall) (serial : ℕ) (t : Tree) →
    linked leaves scripts call serial ≡ Target t → (own : BootstrapCall) × (call ≡ Ok own) × (type_of leaves t ≡ Ok own.ty)
linked-typed leaves scripts call serial t h =
    let found = is_target leaves (outcome leaves scripts call serial) t h in
    let called = bound-parts call (target_of leaves scripts serial) t found in
    (called.0, called.1, method_target-typed leaves scripts serial called.0 called.0.method t called.2)
