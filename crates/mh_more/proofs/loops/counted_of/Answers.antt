use Rattle.std.proofs.Common.{◌∙◌, ap, sym, subst, [], ◌∷◌, ◌++◌}
use Rattle.mh_more.proofs.Lists.{three-held}
use Rattle.mh_tree.specs.declared.error.CheckError.TheVariants as check
use Rattle.mh_tree.specs.Tree as tree
use Rattle.mh_handle.specs.Recipe.{recipe}
use Rattle.mh_handle.proofs.obeying.Going.{goes_on-after, makes-after, seated-still}
use Rattle.mh_handle.proofs.holding.Trading.{trades-checked}
use Rattle.mh_branch.proofs.Trading.{held-same, ready-still, trades-short}
use Rattle.mh_more.specs.Roots.{CanRoot}
use Rattle.mh_more.specs.Several.{holds_of}
use Rattle.mh_more.proofs.Rooting.{roots-same, roots-typed, roots-types}
use Rattle.mh_more.proofs.LoopAnswers.{loop-answers, loop-can, loop-gains, loop-makes}
use Rattle.mh_more.proofs.loops.counted_of.Goals as goal

pub make_rooted_of-requires-clause-can : goal.make_rooted_of-requires-clause-can
make_rooted_of-requires-clause-can g c =
    subst (λ hs. CanRoot hs c.in-Ok.root) (sym c.in_ok-handles-in-Ok.ensures.listed)
    (loop-can c.args.looped.iterations c.args.looped.init c.args.looped.body c.args.ty c.requires.ruled c.in-Ok.root c.in-Ok.ensures.root
    c.root.ensures.shaped)

pub make_rooted_of-requires-clause-ready : goal.make_rooted_of-requires-clause-ready
make_rooted_of-requires-clause-ready g c = ready-still 1 c.args.w.now c.three.new.w c.in_ok-handles-in-Ok.ensures.unchanged
    c.in_ok-handles-in-Ok.ensures.types c.requires.ready

pub make_rooted_of-requires-clause-held : goal.make_rooted_of-requires-clause-held
make_rooted_of-requires-clause-held g c =
    held-same (holds_of c.in_ok-handles-in-Ok.handles) (c.args.looped.iterations.held ++ c.args.looped.init.held ++ c.args.looped.body.held)
    c.args.w.now.seat.now c.three.new.w.seat.now c.in_ok-handles-in-Ok.ensures.types
    (ap holds_of c.in_ok-handles-in-Ok.ensures.listed ∙ three-held c.args.looped.iterations c.args.looped.init c.args.looped.body) c.requires.held

pub returns-in_ok-handles-in-Ok-clause-typed : goal.returns-in_ok-handles-in-Ok-clause-typed
returns-in_ok-handles-in-Ok-clause-typed g c = roots-typed c.in-Ok.root c.in_ok-handles-in-Ok.handles c.args.ty c.make_rooted_of.result
    c.in-Ok.ensures.root.typed
    c.make_rooted_of.ensures.roots

pub returns-in_ok-handles-in-Ok-clause-types : goal.returns-in_ok-handles-in-Ok-clause-types
returns-in_ok-handles-in-Ok-clause-types g c =
    roots-types c.in-Ok.root c.args.ty (holds_of c.in_ok-handles-in-Ok.handles) (c.args.looped.iterations.held ++ c.args.looped.init.held ++
    c.args.looped.body.held) c.args.w.now c.three.new.w c.make_rooted_of.new.w c.make_rooted_of.result
    c.in-Ok.ensures.root.typed (ap holds_of c.in_ok-handles-in-Ok.ensures.listed ∙ three-held c.args.looped.iterations c.args.looped.init
    c.args.looped.body) c.in_ok-handles-in-Ok.ensures.types c.make_rooted_of.ensures.types

pub returns-in_ok-handles-in-Ok-clause-goes_on : goal.returns-in_ok-handles-in-Ok-clause-goes_on
returns-in_ok-handles-in-Ok-clause-goes_on g c =
    goes_on-after 1 c.args.w.now c.three.new.w c.make_rooted_of.new.w c.in_ok-handles-in-Ok.ensures.unchanged (seated-still c.args.w.now c.three.new.w
    c.in_ok-handles-in-Ok.ensures.types) c.make_rooted_of.ensures.goes_on

pub returns-in_ok-handles-in-Ok-clause-makes : goal.returns-in_ok-handles-in-Ok-clause-makes
returns-in_ok-handles-in-Ok-clause-makes g c x y z counting starting turning =
    makes-after (recipe c.args.w.now.leaves.now (tree.Counted x y z)) c.args.w.now c.three.new.w c.make_rooted_of.new.w c.make_rooted_of.result
    c.in_ok-handles-in-Ok.ensures.unchanged
    (loop-makes c.args.looped.iterations c.args.looped.init c.args.looped.body c.args.ty c.requires.ruled c.in-Ok.root c.in-Ok.ensures.root
    c.args.w.now.leaves.now c.three.new.w c.make_rooted_of.new.w c.make_rooted_of.result x y z counting starting turning
    c.make_rooted_of.ensures.makes)

pub returns-in_ok-handles-in-Ok-clause-gains : goal.returns-in_ok-handles-in-Ok-clause-gains
returns-in_ok-handles-in-Ok-clause-gains g c =
    loop-gains c.args.looped.iterations c.args.looped.init c.args.looped.body c.args.ty c.requires.ruled c.in-Ok.root c.in-Ok.ensures.root
    c.make_rooted_of.result
    (roots-same c.in-Ok.root c.in_ok-handles-in-Ok.handles (c.args.looped.iterations ∷ c.args.looped.init ∷ c.args.looped.body ∷ []) c.make_rooted_of.result
    c.in_ok-handles-in-Ok.ensures.listed c.make_rooted_of.ensures.roots)

pub returns-in_ok-handles-in-Ok-clause-stands : goal.returns-in_ok-handles-in-Ok-clause-stands
returns-in_ok-handles-in-Ok-clause-stands g c x y z counting starting turning =
    loop-answers c.args.looped.iterations c.args.looped.init c.args.looped.body c.args.ty c.requires.ruled c.in-Ok.root c.in-Ok.ensures.root
    c.args.w.now.leaves.now c.make_rooted_of.result x y z c.classes-classes.ensures.are
    (roots-same c.in-Ok.root c.in_ok-handles-in-Ok.handles (c.args.looped.iterations ∷ c.args.looped.init ∷ c.args.looped.body ∷ []) c.make_rooted_of.result
    c.in_ok-handles-in-Ok.ensures.listed c.make_rooted_of.ensures.roots) counting starting turning

pub returns-in_err-handles-in-Ok-clause-types : goal.returns-in_err-handles-in-Ok-clause-types
returns-in_err-handles-in-Ok-clause-types g c =
    trades-short (c.args.ty ∷ []) (c.args.looped.iterations.held ++ c.args.looped.init.held ++ c.args.looped.body.held) c.args.w.now c.three.new.w
    c.from_residual.result c.from_residual.ensures.1
    c.in_err-handles-in-Ok.ensures.types

pub returns-in-Err-clause-types : goal.returns-in-Err-clause-types
returns-in-Err-clause-types g c =
    trades-checked (c.args.ty ∷ []) (c.args.looped.iterations.held ++ c.args.looped.init.held ++ c.args.looped.body.held) c.args.w.now
    c.refuse.new.w check.NoMemory c.refuse.result c.refuse.ensures.error
    c.refuse.ensures.types
