use Rattle.std.proofs.Common.{sym, subst, [], ◌∷◌, ◌+◌, arith, Ok, Err}
use Rattle.mh_handle.specs.declared.handle.Handle.{Handle}
use Rattle.mh_more.specs.Several.{holds_of}
use Rattle.mh_handle.proofs.obeying.Rooms.{ready-less}
use Rattle.mh_attempt.specs.AskedTypes.{types_made}
use Rattle.mh_attempt.specs.Cases.{AreLeavesOfType, leaf_recipe, own_weight, own_weights}
use Rattle.mh_attempt.specs.Recipes.{recipes_made}
use Rattle.mh_attempt.proofs.types.Adding.{adds-back, adds-both, holds-after}
use Rattle.mh_attempt.proofs.asked.AllMade.{operands-yet}
use Rattle.mh_attempt.proofs.asked.AskedNodes.{asks-unchanged}
use Rattle.mh_attempt.proofs.asked.AskedOperands.{asks-more, asks-unmade-both}
use Rattle.mh_attempt.proofs.types.AskingTypes.{types-back}
use Rattle.mh_attempt.proofs.types.OperandTypes.{types-others, types-unmade_both}
use Rattle.mh_attempt.proofs.asked.Once.{once-back, once-goes, once-ready, once-then, ready-others}
use Rattle.mh_attempt.proofs.lines.several.make_cases.Goals as goal

-- ---- numbers

pub make-requires-clause-ready : goal.make-requires-clause-ready
make-requires-clause-ready g c = ready-less c.args.w.now 3 1 (omega arith) c.requires.ready

pub make_all-requires-clause-ready : goal.make_all-requires-clause-ready
make_all-requires-clause-ready g c =
    let key = leaf_recipe c.args.ty.now in
    let k = own_weight c.args.fallback.now in
    let m = own_weights c.args.cases.now in
    let light = c.requires.light in
    ready-others key k m c.args.w.now c.make.new.w (once-ready key (k + m) c.args.w.now (omega (arith, light)) c.requires.ready) c.make.ensures.goes_on
    (c.make.ensures.draws c.args.ty.now c.requires.alike.0) (c.in_ok-fallback.ensures.learns c.args.ty.now c.requires.alike.0) c.make.ensures.room

pub make_all-requires-clause-operands : goal.make_all-requires-clause-operands
make_all-requires-clause-operands g c =
    operands-yet c.args.cases.now c.in_ok-fallback.fallback.held c.args.w.now c.make.new.w c.make.ensures.goes_on.leaves c.in_ok-fallback.ensures.types
    c.requires.cases

pub make_all-requires-clause-alike : goal.make_all-requires-clause-alike
make_all-requires-clause-alike g c =
    subst (λ l. AreLeavesOfType l.now c.args.ty.now c.args.cases.now) (sym c.make.ensures.goes_on.leaves) c.requires.alike.1

pub returns-in-Ok-clause-goes_on : goal.returns-in-Ok-clause-goes_on
returns-in-Ok-clause-goes_on g c =
    let key = leaf_recipe c.args.ty.now in
    let k = own_weight c.args.fallback.now in
    let m = own_weights c.args.cases.now in
    let light = c.requires.light in
    once-goes key (k + m) c.args.w.now c.make_all.new.w (omega (arith, light))
    (once-then key k m c.args.w.now c.make.new.w c.make_all.new.w c.make.ensures.goes_on (c.make.ensures.draws c.args.ty.now c.requires.alike.0)
    (c.in_ok-fallback.ensures.learns c.args.ty.now c.requires.alike.0) c.make.ensures.room c.make_all.ensures.goes_on)

pub returns-in-Err-clause-goes_on : goal.returns-in-Err-clause-goes_on
returns-in-Err-clause-goes_on g c =
    let key = leaf_recipe c.args.ty.now in
    let k = own_weight c.args.fallback.now in
    let m = own_weights c.args.cases.now in
    let light = c.requires.light in
    once-goes key (k + m) c.args.w.now c.give_back.new.w (omega (arith, light))
    (once-back key (k + m) c.in_ok-fallback.fallback.held c.args.w.now c.make_all.new.w c.give_back.new.w
    (once-then key k m c.args.w.now c.make.new.w c.make_all.new.w c.make.ensures.goes_on (c.make.ensures.draws c.args.ty.now c.requires.alike.0)
    (c.in_ok-fallback.ensures.learns c.args.ty.now c.requires.alike.0) c.make.ensures.room c.make_all.ensures.goes_on) c.give_back.ensures.unchanged
    c.give_back.ensures.types)

-- ---- what is asked for

pub returns-in_err-fallback-clause-asks : goal.returns-in_err-fallback-clause-asks
returns-in_err-fallback-clause-asks g c =
    let w = c.args.w.now in
    asks-unmade-both w.leaves.now (c.args.fallback.now ∷ []) c.args.cases.now w c.make.new.w c.in_err-fallback.field-0.0 c.from_residual.result
    c.from_residual.ensures.1 c.in_err-fallback.ensures.asks

pub returns-in-Ok-clause-asks : goal.returns-in-Ok-clause-asks
returns-in-Ok-clause-asks g c =
    asks-more (c.args.fallback.now ∷ []) c.args.cases.now c.args.w.now c.make.new.w c.make_all.new.w (Ok c.in-Ok.cases) c.make.ensures.goes_on.leaves
    c.in_ok-fallback.ensures.asks c.in-Ok.ensures.asks

pub returns-in-Err-clause-asks : goal.returns-in-Err-clause-asks
returns-in-Err-clause-asks g c =
    let w = c.args.w.now in
    asks-unchanged {A = Handle} (recipes_made w.leaves.now (c.args.fallback.now ∷ c.args.cases.now) []) w c.make_all.new.w c.give_back.new.w
    (Err c.in-Err.error) c.give_back.ensures.unchanged.pass
    (asks-more {A = Handle} (c.args.fallback.now ∷ []) c.args.cases.now w c.make.new.w c.make_all.new.w (Err c.in-Err.error)
    c.make.ensures.goes_on.leaves c.in_ok-fallback.ensures.asks c.in-Err.ensures.asks)

-- ---- the seat of types

pub returns-in-Ok-clause-types : goal.returns-in-Ok-clause-types
returns-in-Ok-clause-types g c =
    adds-both c.in_ok-fallback.fallback.held (holds_of c.in-Ok.cases) c.args.w.now c.make.new.w c.make_all.new.w c.in_ok-fallback.ensures.types
    c.in-Ok.ensures.types

pub give_back-requires-clause-held : goal.give_back-requires-clause-held
give_back-requires-clause-held g c =
    holds-after c.in_ok-fallback.fallback.held c.args.w.now c.make.new.w c.make_all.new.w c.in_ok-fallback.ensures.types c.in-Err.ensures.types

pub returns-in-Err-clause-types : goal.returns-in-Err-clause-types
returns-in-Err-clause-types g c =
    adds-back c.in_ok-fallback.fallback.held c.args.w.now c.make.new.w c.make_all.new.w c.give_back.new.w c.in_ok-fallback.ensures.types
    c.in-Err.ensures.types c.give_back.ensures.types

-- ---- the types that are asked for

pub returns-in_err-fallback-clause-asked : goal.returns-in_err-fallback-clause-asked
returns-in_err-fallback-clause-asked g c =
    let w = c.args.w.now in
    types-unmade_both Handle w.leaves.now (c.args.fallback.now ∷ []) c.args.cases.now w c.make.new.w c.in_err-fallback.field-0.0 c.from_residual.result
    c.from_residual.ensures.1 c.in_err-fallback.ensures.asked

pub returns-in-Ok-clause-asked : goal.returns-in-Ok-clause-asked
returns-in-Ok-clause-asked g c =
    types-others (c.args.fallback.now ∷ []) c.args.cases.now c.args.w.now c.make.new.w c.make_all.new.w (Ok c.in-Ok.cases)
    c.make.ensures.goes_on.leaves c.in_ok-fallback.ensures.asked c.in-Ok.ensures.asked

pub returns-in-Err-clause-asked : goal.returns-in-Err-clause-asked
returns-in-Err-clause-asked g c =
    let w = c.args.w.now in
    types-back {A = Handle} (types_made w.leaves.now (c.args.fallback.now ∷ c.args.cases.now) []) c.in_ok-fallback.fallback.held w c.make_all.new.w
    c.give_back.new.w (Err c.in-Err.error) c.give_back.ensures.types
    (types-others {A = Handle} (c.args.fallback.now ∷ []) c.args.cases.now w c.make.new.w c.make_all.new.w (Err c.in-Err.error)
    c.make.ensures.goes_on.leaves c.in_ok-fallback.ensures.asked c.in-Err.ensures.asked)
