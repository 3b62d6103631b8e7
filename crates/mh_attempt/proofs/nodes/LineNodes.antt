-- The nodes of lines: what their operands and their rules give.
use Rattle.std.proofs.Common.{◌≡◌, sym, ◌∙◌, ap, subst, List, Result, Ok, Err, IfOk}
use Rattle.std.specs.Prelude.{IsErrAnd}
use Rattle.mh_base.proofs.Inversion.{err_is}
use Rattle.mh_values.specs.declared.types.MethodTy.{MethodTy}
use Rattle.mh_values.specs.declared.value.Exc.{Exc}
use Rattle.mh_leaf.specs.LeafTable.{LeafTable}
use Rattle.mh_tree.specs.declared.error.CheckError.{CheckError}
use Rattle.mh_tree.specs.declared.error.CheckError.TheVariants as check
use Rattle.mh_tree.specs.Check as row
use Rattle.mh_tree.specs.Rows.{TypeOrRefusal}
use Rattle.mh_tree.specs.Tree.{Tree}
use Rattle.mh_tree.specs.Typing.{type_of}
use Rattle.mh_edit.specs.declared.key.Key.{Key}
use Rattle.mh_handle.specs.declared.error.HandleError.{HandleError}
use Rattle.mh_handle.specs.declared.error.HandleError.TheVariants.{NoMemory, FormsFull, TypesFull, Refused}
use Rattle.mh_handle.specs.declared.handle.Handle.{Handle}
use Rattle.mh_handle.specs.declared.work.Work.{Work}
use Rattle.mh_handle.specs.Errors.{of_check}
use Rattle.mh_handle.specs.Obeys.{Obeys}
use Rattle.mh_handle.specs.Stands.{HandleView, Stands}
use Rattle.mh_handle.specs.Works.{IsAccepted, Makes}
use Rattle.mh_handle.proofs.obeying.Going.{unchanged-still}
use Rattle.mh_jobs.specs.Thrown.{OrThrown, ◌>>=◌}
use Rattle.mh_attempt.specs.Lines.{MakesNode, typed}
use Rattle.mh_attempt.specs.Nodes.{TellsNode}

-- a tree that has a type
pub typed-is : (leaves : LeafTable) (t : Tree) (own : MethodTy) → type_of leaves t ≡ Ok own → typed leaves t ≡ Ok t
typed-is leaves t own h = ap (λ m. m >>= (λ (o : MethodTy). Ok t)) h

-- ---- what is thrown

-- what an operand throws is thrown in the place of the node
pub thrown-node : (w : Work) (error : CheckError) (m : OrThrown Tree) (itself : Tree → List Tree) → TellsNode w.leaves.now (Err error) m itself →
    MakesNode (m >>= typed w.leaves.now) w w (Err (of_check error))
thrown-node w check.NoMemory m itself h = tt
thrown-node w (check.Refused e) m itself h = (ap (λ x. x >>= typed w.leaves.now) h, unchanged-still w)

-- what is thrown in the place of the type is thrown in the place of the tree
thrown-typed : (leaves : LeafTable) (m : OrThrown Tree) (e : Exc) → (m >>= type_of leaves) ≡ Err e → (m >>= typed leaves) ≡ Err e
thrown-typed leaves (Ok u) e h = ap (λ m. m >>= (λ (o : MethodTy). Ok u)) h
thrown-typed leaves (Err x) e h = ap (λ y. Err y) (err_is x e h)

-- a node that the rule refuses
pub refused-node : (w : Work) (m : OrThrown Tree) (rule : TypeOrRefusal) (error : CheckError) → (m >>= type_of w.leaves.now) ≡ rule →
    row.TellsRow (Err error) rule → MakesNode (m >>= typed w.leaves.now) w w (Err (of_check error))
refused-node w m rule check.NoMemory is tells = tt
refused-node w m rule (check.Refused e) is tells = (thrown-typed w.leaves.now m e (is ∙ tells), unchanged-still w)

-- an error that is handed on
pub error-node : (node : OrThrown Tree) (old new : Work) (error : HandleError) (r : Result Handle HandleError) → IsErrAnd r (λ x. x ≡ error) →
    MakesNode node old new (Err error) → MakesNode node old new r
error-node node old new error (Ok h) is makes = absurd is
error-node node old new error (Err x) is makes = subst (λ e. MakesNode node old new (Err e)) (sym is) makes

-- ---- what is made

-- where the rule gives a type, a leaf that is not made is no refusal
pub unmade-node : (old new : Work) (t : Tree) (own : MethodTy) (error : HandleError) → type_of old.leaves.now t ≡ Ok own → IsAccepted (Err error) →
    MakesNode (typed old.leaves.now t) old new (Err error)
unmade-node old new t own NoMemory is h = tt
unmade-node old new t own (FormsFull drawn) is h = (t, typed-is old.leaves.now t own is)
unmade-node old new t own (TypesFull bucket) is h = (t, typed-is old.leaves.now t own is)
unmade-node old new t own (Refused e) is h = absurd h

is-refused : (own : MethodTy) (e : Exc) (m : TypeOrRefusal) → m ≡ Ok own → m ≡ Err e → ⊥
is-refused own e m h k = absurd cc

-- the handle that a combinator makes by its rule, after the work went on
pub made-node : (old mid new : Work) (t : Tree) (own : MethodTy) (rule : TypeOrRefusal) (r : Result Handle HandleError) → mid.leaves ≡ old.leaves →
    type_of old.leaves.now t ≡ Ok own → type_of old.leaves.now t ≡ rule → Obeys rule r → IfOk r (λ h. Stands mid.leaves.now h t) →
    MakesNode (typed old.leaves.now t) old new r
made-node old mid new t own rule (Ok h) same is by obeys stands =
    (t, typed-is old.leaves.now t own is, subst (λ leaves. Stands leaves h t) (ap (λ leaves. leaves.now) same) stands)
made-node old mid new t own rule (Err NoMemory) same is by obeys stands = tt
made-node old mid new t own rule (Err (FormsFull drawn)) same is by obeys stands = (t, typed-is old.leaves.now t own is)
made-node old mid new t own rule (Err (TypesFull bucket)) same is by obeys stands = (t, typed-is old.leaves.now t own is)
made-node old mid new t own rule (Err (Refused e)) same is by obeys stands = absurd (is-refused own e rule (sym by ∙ is) obeys)

-- a handle stands for its tree still
pub stands-yet : (old mid : Work) (h : HandleView) (t : Tree) → mid.leaves ≡ old.leaves → Stands old.leaves.now h t → Stands mid.leaves.now h t
stands-yet old mid h t same stands = subst (λ leaves. Stands leaves h t) (ap (λ l. l.now) (sym same)) stands

-- the handle that a call makes by a rule that was asked before, after the work went on
pub ruled-node : (old mid new : Work) (t : Tree) (own : MethodTy) (r : Result Handle HandleError) → mid.leaves ≡ old.leaves →
    type_of old.leaves.now t ≡ Ok own → IsAccepted r → IfOk r (λ h. Stands mid.leaves.now h t) → MakesNode (typed old.leaves.now t) old new r
ruled-node old mid new t own (Ok h) same is accepted stands =
    (t, typed-is old.leaves.now t own is, subst (λ leaves. Stands leaves h t) (ap (λ leaves. leaves.now) same) stands)
ruled-node old mid new t own (Err error) same is accepted stands = unmade-node old new t own error is accepted

-- a node that is equal
pub same-node : (m n : OrThrown Tree) (old new : Work) (r : Result Handle HandleError) → m ≡ n → MakesNode n old new r → MakesNode m old new r
same-node m n old new r is makes = subst (λ node. MakesNode node old new r) (sym is) makes

-- ---- of none

pub node-of-root : (old new : Work) (node : Tree) (keys : List Key) (r : Result Handle HandleError) → Obeys (type_of old.leaves.now node) r →
    Makes keys old new r → IfOk r (λ h. Stands old.leaves.now h node) → MakesNode (typed old.leaves.now node) old new r
node-of-root old new node keys (Ok h) obeys makes stands = (node, typed-is old.leaves.now node h.ty obeys, stands)
node-of-root old new node keys (Err NoMemory) obeys makes stands = tt
node-of-root old new node keys (Err (FormsFull drawn)) obeys makes stands = (node, typed-is old.leaves.now node obeys.0 obeys.1)
node-of-root old new node keys (Err (TypesFull bucket)) obeys makes stands = (node, typed-is old.leaves.now node obeys.0 obeys.1)
node-of-root old new node keys (Err (Refused e)) obeys makes stands = (ap (λ m. m >>= (λ (o : MethodTy). Ok node)) obeys, makes)

-- of a leaf, which is never refused
pub node-of-leaf : (old new : Work) (node : Tree) (own : MethodTy) (r : Result Handle HandleError) → type_of old.leaves.now node ≡ Ok own → IsAccepted r →
    IfOk r (λ h. Stands old.leaves.now h node) → MakesNode (typed old.leaves.now node) old new r
node-of-leaf old new node own (Ok h) is accepted stands = (node, typed-is old.leaves.now node own is, stands)
node-of-leaf old new node own (Err NoMemory) is accepted stands = tt
node-of-leaf old new node own (Err (FormsFull drawn)) is accepted stands = (node, typed-is old.leaves.now node own is)
node-of-leaf old new node own (Err (TypesFull bucket)) is accepted stands = (node, typed-is old.leaves.now node own is)
node-of-leaf old new node own (Err (Refused e)) is accepted stands = absurd accepted
