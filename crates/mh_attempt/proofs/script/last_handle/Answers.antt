use Rattle.std.proofs.Common.{subst, sym, [], ◌∷◌}
use Rattle.mh_link.specs.Made.{nodes_of_uses, types_of, unless_thrown}
use Rattle.mh_link.specs.Operands.{handle_in}
use Rattle.mh_attempt.specs.AskedTypes.{AsksTypesOrThrows}
use Rattle.mh_attempt.proofs.asked.AskedOperations.{alone-asks, asks-node}
use Rattle.mh_attempt.proofs.types.AskingRuns.{alone-types}
use Rattle.mh_attempt.proofs.running.LastUses.{made-replaces, same-replaces, used-node}
use Rattle.mh_attempt.proofs.script.last_handle.Goals as goal

pub returns-in_err-target-in-SiteType-clause-types : goal.returns-in_err-target-in-SiteType-clause-types
returns-in_err-target-in-SiteType-clause-types g c =
    same-replaces c.args.registers.now c.args.w.now c.from_residual-in_err-target-in-SiteType.result _
    c.from_residual-in_err-target-in-SiteType.ensures.1 c.requires.kept

pub returns-in_ok-target-in-SiteType-clause-types : goal.returns-in_ok-target-in-SiteType-clause-types
returns-in_ok-target-in-SiteType-clause-types g c =
    made-replaces c.args.registers.now c.args.w.now c.make.new.w c.make.result c.requires.kept c.make.ensures.types

-- ---- what is asked for

pub returns-in_ok-target-in-SiteType-clause-asks : goal.returns-in_ok-target-in-SiteType-clause-asks
returns-in_ok-target-in-SiteType-clause-asks g c frame hold =
    let w = c.args.w.now in
    let r = c.args.register.now in
    let found = c.in_ok-target-in-SiteType in
    let target = found.ensures.stands w.leaves.now frame hold in
    let made = c.make.ensures in
    asks-node w.leaves.now (handle_in frame r) (λ t. nodes_of_uses frame (r ∷ [])) w c.make.new.w c.make.result
    (used-node w c.make.new.w (handle_in frame r) target.0 c.make.result target.1 made.accepted (made.stands target.0 target.2))
    (λ t _. alone-asks w.leaves.now frame found.target r w c.make.new.w c.make.result (found.ensures.makes w.leaves.now frame hold) made.asks)

pub returns-in_ok-target-in-SiteType-clause-asked : goal.returns-in_ok-target-in-SiteType-clause-asked
returns-in_ok-target-in-SiteType-clause-asked g c frame hold =
    let w = c.args.w.now in
    let r = c.args.register.now in
    let found = c.in_ok-target-in-SiteType in
    let target = found.ensures.stands w.leaves.now frame hold in
    subst (λ m. AsksTypesOrThrows (types_of w.leaves.now (unless_thrown m (λ t. nodes_of_uses frame (r ∷ [])))) w c.make.new.w c.make.result)
    (sym target.1)
    (alone-types w.leaves.now frame found.target r w c.make.new.w c.make.result (found.ensures.makes w.leaves.now frame hold) c.make.ensures.asked)
