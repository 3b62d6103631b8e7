use Rattle.std.proofs.Common.{refl, sym, subst, [], ◌∷◌, arith}
use Rattle.std.specs.Prelude.{IfOk}
use Rattle.mh_leaf.specs.LeafTable.{LeafTable}
use Rattle.mh_tree.specs.Meaning.{exact, generic}
use Rattle.mh_tree.specs.Tree as tree
use Rattle.mh_handle.specs.Answers.{IsAnswer}
use Rattle.mh_handle.specs.Recipe.{recipe}
use Rattle.mh_handle.proofs.obeying.Going.{goes_on-more}
use Rattle.mh_astype.specs.Calls.{exact_keys, generic_keys}
use Rattle.mh_link.specs.Made.{types_of}
use Rattle.mh_attempt.specs.Asked.{Asks}
use Rattle.mh_attempt.specs.AskedTypes.{AsksTypes}
use Rattle.mh_plan.specs.declared.call.Call.{Call}
use Rattle.mh_plan.specs.declared.call.Call.TheVariants.{Exact, Generic}
use Rattle.mh_report.specs.Forms.{used_edits}
use Rattle.mh_runtime.specs.Asking.{call_draws}
use Rattle.mh_runtime.specs.Linkers.{MakesCall, pass_in}
use Rattle.mh_runtime.specs.Attempts.{HasRoomForConstants}
use Rattle.mh_runtime.proofs.asking.MadeCalls.{leaf-made, on-ok}
use Rattle.mh_runtime.proofs.context.Context.call.Goals as goal

pub returns-in-Exact-clause-makes : goal.returns-in-Exact-clause-makes
returns-in-Exact-clause-makes g c =
    let given = g.J.Run.given in
    let pass = c.args.pass.now in
    let w = c.args.w.now in
    let w' = c.call_exact.new.w in
    let r = c.call_exact.result in
    let id = c.in-Exact.id in
    let ty = c.in-Exact.ty in
    let args = c.in-Exact.args in
    subst (λ (call : Call). MakesCall given call (pass_in pass w) (pass_in pass w') r) (sym c.in-Exact.is)
    (leaf-made given (Exact id ty args) pass w w' r refl c.constants_told.ensures
    (goes_on-more 1 call_draws w w' (omega arith) c.call_exact.ensures.goes_on) c.call_exact.ensures.types
    (λ known table. subst (λ (leaves : LeafTable). IfOk r (IsAnswer (exact leaves (tree.Leaf id) ty args 0) (exact_keys leaves (tree.Leaf id) ty)))
    c.requires.ready.leaves c.call_exact.ensures.answer)
    (subst (λ (leaves : LeafTable). Asks (recipe leaves (tree.Leaf id) ∷ []) w w' r) c.requires.ready.leaves c.call_exact.ensures.asks)
    (subst (λ (leaves : LeafTable). AsksTypes (types_of leaves (tree.Leaf id ∷ [])) w w' r) c.requires.ready.leaves c.call_exact.ensures.asked))

pub returns-in-Generic-clause-makes : goal.returns-in-Generic-clause-makes
returns-in-Generic-clause-makes g c =
    let given = g.J.Run.given in
    let pass = c.args.pass.now in
    let w = c.args.w.now in
    let w' = c.call_generic.new.w in
    let r = c.call_generic.result in
    let id = c.in-Generic.id in
    let ty = c.in-Generic.ty in
    let args = c.in-Generic.args in
    subst (λ (call : Call). MakesCall given call (pass_in pass w) (pass_in pass w') r) (sym c.in-Generic.is)
    (leaf-made given (Generic id ty args) pass w w' r refl c.constants_told.ensures
    (goes_on-more 2 call_draws w w' (omega arith) c.call_generic.ensures.goes_on) c.call_generic.ensures.types
    (λ known table. subst (λ (leaves : LeafTable). IfOk r (IsAnswer (generic leaves (tree.Leaf id) ty args 0) (generic_keys leaves (tree.Leaf id) ty)))
    c.requires.ready.leaves c.call_generic.ensures.answer)
    (subst (λ (leaves : LeafTable). Asks (recipe leaves (tree.Leaf id) ∷ used_edits leaves (tree.Leaf id) ty) w w' r) c.requires.ready.leaves
    c.call_generic.ensures.asks)
    (subst (λ (leaves : LeafTable). AsksTypes (types_of leaves (tree.Leaf id ∷ [])) w w' r) c.requires.ready.leaves c.call_generic.ensures.asked))

pub returns-in-Indy-clause-makes : goal.returns-in-Indy-clause-makes
returns-in-Indy-clause-makes g c =
    subst (λ (call : Call). MakesCall g.J.Run.given call (pass_in c.args.pass.now c.args.w.now) (pass_in c.call_site.new.pass c.call_site.new.w)
    c.call_site.result) (sym c.in-Indy.is) c.call_site.ensures.makes

-- a call of a leaf resolves no constant
pub returns-in-Exact-clause-room_left : goal.returns-in-Exact-clause-room_left
returns-in-Exact-clause-room_left g c = on-ok c.call_exact.result (HasRoomForConstants c.args.pass.now) c.requires.ready.constants

pub returns-in-Generic-clause-room_left : goal.returns-in-Generic-clause-room_left
returns-in-Generic-clause-room_left g c = on-ok c.call_generic.result (HasRoomForConstants c.args.pass.now) c.requires.ready.constants
