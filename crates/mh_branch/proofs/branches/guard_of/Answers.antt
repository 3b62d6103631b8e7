use Rattle.std.proofs.Common.{◌∷◌, ◌++◌, []}
use Rattle.mh_tree.specs.declared.error.CheckError.TheVariants as check
use Rattle.mh_tree.specs.Tree as tree
use Rattle.mh_handle.specs.Recipe.{recipe}
use Rattle.mh_handle.proofs.obeying.Going.{goes_on-after, makes-after, seated-still}
use Rattle.mh_handle.proofs.holding.Trading.{trades-checked}
use Rattle.mh_branch.proofs.GuardAnswers.{guard-answers, guard-few, guard-fits-by, guard-gains, guard-held, guard-light, guard-makes}
use Rattle.mh_branch.proofs.Trading.{held-same, ready-still, trades-parts, trades-short}
use Rattle.mh_branch.proofs.branches.guard_of.Goals as goal

pub guard_key-requires : goal.guard_key-requires
guard_key-requires g c = record { few = guard-few c.args.branches c.args.ty c.requires.ruled }

pub make_rooted-requires-clause-fits : goal.make_rooted-requires-clause-fits
make_rooted-requires-clause-fits g c = guard-fits-by c.args.branches c.args.ty c.requires.ruled c.in-Ok.key c.in-Ok.ensures

pub make_rooted-requires-clause-light : goal.make_rooted-requires-clause-light
make_rooted-requires-clause-light g c = guard-light c.args.branches c.args.ty c.requires.ruled c.weight-weight.result c.weight-weight.ensures.weight

pub make_rooted-requires-clause-few : goal.make_rooted-requires-clause-few
make_rooted-requires-clause-few g c =
    guard-held c.args.branches c.args.ty c.requires.ruled c.in-Ok.key c.in-Ok.ensures c.weight-weight.result c.weight-weight.ensures.weight
    c.in_ok-parts-in-Ok.parts c.in_ok-parts-in-Ok.ensures.parts c.weight-weight.ensures.shaped

pub make_rooted-requires-clause-ready : goal.make_rooted-requires-clause-ready
make_rooted-requires-clause-ready g c =
    ready-still 1 c.args.w.now c.guard_parts.new.w c.in_ok-parts-in-Ok.ensures.unchanged c.in_ok-parts-in-Ok.ensures.types c.requires.ready

pub make_rooted-requires-clause-held : goal.make_rooted-requires-clause-held
make_rooted-requires-clause-held g c =
    held-same c.in_ok-parts-in-Ok.parts.held (c.args.branches.test.held ++ c.args.branches.target.held ++ c.args.branches.fallback.held)
    c.args.w.now.seat.now c.guard_parts.new.w.seat.now c.in_ok-parts-in-Ok.ensures.types c.in_ok-parts-in-Ok.ensures.parts.held c.requires.held

pub returns-in-Ok-clause-types : goal.returns-in-Ok-clause-types
returns-in-Ok-clause-types g c =
    trades-parts c.args.ty c.in_ok-parts-in-Ok.parts.held (c.args.branches.test.held ++ c.args.branches.target.held ++ c.args.branches.fallback.held)
    c.args.w.now c.guard_parts.new.w c.make_rooted.new.w c.make_rooted.result c.in_ok-parts-in-Ok.ensures.parts.held c.in_ok-parts-in-Ok.ensures.types
    c.make_rooted.ensures.types

pub returns-in-Ok-clause-goes_on : goal.returns-in-Ok-clause-goes_on
returns-in-Ok-clause-goes_on g c =
    goes_on-after 1 c.args.w.now c.guard_parts.new.w c.make_rooted.new.w c.in_ok-parts-in-Ok.ensures.unchanged
    (seated-still c.args.w.now c.guard_parts.new.w c.in_ok-parts-in-Ok.ensures.types) c.make_rooted.ensures.goes_on

pub returns-in-Ok-clause-makes : goal.returns-in-Ok-clause-makes
returns-in-Ok-clause-makes g c x y z tests stands others =
    makes-after (recipe c.args.w.now.leaves.now (tree.Guard x y z)) c.args.w.now c.guard_parts.new.w c.make_rooted.new.w c.make_rooted.result
    c.in_ok-parts-in-Ok.ensures.unchanged
    (guard-makes c.args.branches c.args.ty c.requires.ruled c.in-Ok.key c.in-Ok.ensures c.args.w.now.leaves.now c.guard_parts.new.w c.make_rooted.new.w
    c.make_rooted.result x y z tests stands c.make_rooted.ensures.makes)

pub returns-in-Ok-clause-gains : goal.returns-in-Ok-clause-gains
returns-in-Ok-clause-gains g c =
    guard-gains c.args.branches c.args.ty c.requires.ruled c.in-Ok.key c.in-Ok.ensures c.weight-weight.result c.weight-weight.ensures.weight
    c.in_ok-parts-in-Ok.parts c.in_ok-parts-in-Ok.ensures.parts c.make_rooted.result c.make_rooted.ensures.grows

pub returns-in-Ok-clause-stands : goal.returns-in-Ok-clause-stands
returns-in-Ok-clause-stands g c x y z tests stands others =
    guard-answers c.args.branches c.args.ty c.requires.ruled c.in-Ok.key c.in-Ok.ensures c.weight-weight.result c.weight-weight.ensures.weight
    c.in_ok-parts-in-Ok.parts c.in_ok-parts-in-Ok.ensures.parts c.args.w.now.leaves.now c.make_rooted.result x y z c.make_rooted.ensures.grows tests stands
    others

pub returns-in_err-parts-in-Ok-clause-types : goal.returns-in_err-parts-in-Ok-clause-types
returns-in_err-parts-in-Ok-clause-types g c =
    trades-short (c.args.ty ∷ []) (c.args.branches.test.held ++ c.args.branches.target.held ++ c.args.branches.fallback.held) c.args.w.now
    c.guard_parts.new.w c.from_residual.result c.from_residual.ensures.1 c.in_err-parts-in-Ok.ensures.types

pub returns-clause-types : goal.returns-clause-types
returns-clause-types g c =
    trades-checked (c.args.ty ∷ []) (c.args.branches.test.held ++ c.args.branches.target.held ++ c.args.branches.fallback.held) c.args.w.now
    c.refuse.new.w check.NoMemory c.refuse.result c.refuse.ensures.error c.refuse.ensures.types
