use Rattle.std.proofs.Common.{◌∷◌, ◌++◌, []}
use Rattle.mh_tree.specs.declared.error.CheckError.TheVariants as check
use Rattle.mh_tree.specs.Tree as tree
use Rattle.mh_handle.specs.Recipe.{recipe}
use Rattle.mh_handle.proofs.obeying.Going.{goes_on-after, makes-after, seated-still}
use Rattle.mh_handle.proofs.holding.Trading.{trades-checked}
use Rattle.mh_branch.proofs.CatchAnswers.{catch-answers, catch-few, catch-fits-by, catch-gains, catch-held, catch-light, catch-makes, catch-some}
use Rattle.mh_branch.proofs.Trading.{held-same, ready-still, trades-parts, trades-short}
use Rattle.mh_branch.proofs.branches.catch_of.Goals as goal

pub catch_key-requires : goal.catch_key-requires
catch_key-requires g c = record {
  some = catch-some c.args.w.now.leaves.now c.args.caught c.args.ty c.requires.ruled;
  few = catch-few c.args.w.now.leaves.now c.args.caught c.args.ty c.requires.ruled;
}

pub make_rooted-requires-clause-fits : goal.make_rooted-requires-clause-fits
make_rooted-requires-clause-fits g c = catch-fits-by c.args.w.now.leaves.now c.args.caught c.args.ty c.requires.ruled c.in-Ok.key c.in-Ok.ensures

pub make_rooted-requires-clause-light : goal.make_rooted-requires-clause-light
make_rooted-requires-clause-light g c =
    catch-light c.args.w.now.leaves.now c.args.caught c.args.ty c.requires.ruled c.weight-weight.result c.weight-weight.ensures.weight

pub make_rooted-requires-clause-few : goal.make_rooted-requires-clause-few
make_rooted-requires-clause-few g c =
    catch-held c.args.w.now.leaves.now c.args.caught c.args.ty c.requires.ruled c.in-Ok.key c.in-Ok.ensures c.weight-weight.result
    c.weight-weight.ensures.weight c.in_ok-parts-in-Ok.parts c.in_ok-parts-in-Ok.ensures.parts c.weight-weight.ensures.shaped

pub make_rooted-requires-clause-ready : goal.make_rooted-requires-clause-ready
make_rooted-requires-clause-ready g c =
    ready-still 1 c.args.w.now c.catch_parts.new.w c.in_ok-parts-in-Ok.ensures.unchanged c.in_ok-parts-in-Ok.ensures.types c.requires.ready

pub make_rooted-requires-clause-held : goal.make_rooted-requires-clause-held
make_rooted-requires-clause-held g c =
    held-same c.in_ok-parts-in-Ok.parts.held (c.args.caught.target.held ++ c.args.caught.handler.held)
    c.args.w.now.seat.now c.catch_parts.new.w.seat.now c.in_ok-parts-in-Ok.ensures.types c.in_ok-parts-in-Ok.ensures.parts.held c.requires.held

pub returns-in-Ok-clause-types : goal.returns-in-Ok-clause-types
returns-in-Ok-clause-types g c =
    trades-parts c.args.ty c.in_ok-parts-in-Ok.parts.held (c.args.caught.target.held ++ c.args.caught.handler.held)
    c.args.w.now c.catch_parts.new.w c.make_rooted.new.w c.make_rooted.result c.in_ok-parts-in-Ok.ensures.parts.held c.in_ok-parts-in-Ok.ensures.types
    c.make_rooted.ensures.types

pub returns-in-Ok-clause-goes_on : goal.returns-in-Ok-clause-goes_on
returns-in-Ok-clause-goes_on g c =
    goes_on-after 1 c.args.w.now c.catch_parts.new.w c.make_rooted.new.w c.in_ok-parts-in-Ok.ensures.unchanged
    (seated-still c.args.w.now c.catch_parts.new.w c.in_ok-parts-in-Ok.ensures.types) c.make_rooted.ensures.goes_on

pub returns-in-Ok-clause-makes : goal.returns-in-Ok-clause-makes
returns-in-Ok-clause-makes g c x y stands handled =
    makes-after (recipe c.args.w.now.leaves.now (tree.Catch x c.args.caught.class y)) c.args.w.now c.catch_parts.new.w c.make_rooted.new.w c.make_rooted.result
    c.in_ok-parts-in-Ok.ensures.unchanged
    (catch-makes c.args.w.now.leaves.now c.args.caught c.args.ty c.requires.ruled c.in-Ok.key c.in-Ok.ensures c.catch_parts.new.w c.make_rooted.new.w
    c.make_rooted.result x y stands handled c.make_rooted.ensures.makes)

pub returns-in-Ok-clause-gains : goal.returns-in-Ok-clause-gains
returns-in-Ok-clause-gains g c =
    catch-gains c.args.w.now.leaves.now c.args.caught c.args.ty c.requires.ruled c.in-Ok.key c.in-Ok.ensures c.weight-weight.result
    c.weight-weight.ensures.weight c.in_ok-parts-in-Ok.parts c.in_ok-parts-in-Ok.ensures.parts c.make_rooted.result c.make_rooted.ensures.grows

pub returns-in-Ok-clause-stands : goal.returns-in-Ok-clause-stands
returns-in-Ok-clause-stands g c x y stands handled =
    catch-answers c.args.w.now.leaves.now c.args.caught c.args.ty c.requires.ruled c.in-Ok.key c.in-Ok.ensures c.weight-weight.result
    c.weight-weight.ensures.weight c.in_ok-parts-in-Ok.parts c.in_ok-parts-in-Ok.ensures.parts
    c.make_rooted.result x y c.classes-classes.ensures.are c.make_rooted.ensures.grows stands handled

pub returns-in_err-parts-in-Ok-clause-types : goal.returns-in_err-parts-in-Ok-clause-types
returns-in_err-parts-in-Ok-clause-types g c =
    trades-short (c.args.ty ∷ []) (c.args.caught.target.held ++ c.args.caught.handler.held) c.args.w.now
    c.catch_parts.new.w c.from_residual.result c.from_residual.ensures.1 c.in_err-parts-in-Ok.ensures.types

pub returns-clause-types : goal.returns-clause-types
returns-clause-types g c =
    trades-checked (c.args.ty ∷ []) (c.args.caught.target.held ++ c.args.caught.handler.held) c.args.w.now
    c.refuse.new.w check.NoMemory c.refuse.result c.refuse.ensures.error c.refuse.ensures.types
