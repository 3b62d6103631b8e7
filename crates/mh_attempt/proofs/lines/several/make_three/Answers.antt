use Rattle.std.proofs.Common.{◌∙◌, arith, [], ◌∷◌, ◌++◌, Ok, Err}
use Rattle.mh_handle.proofs.obeying.Going.{goes_on-before, goes_on-both, seated-back}
use Rattle.mh_handle.specs.declared.handle.Handle.{Handle}
use Rattle.mh_handle.proofs.obeying.Rooms.{goes_on-sum}
use Rattle.mh_attempt.specs.AskedTypes.{types_made}
use Rattle.mh_attempt.specs.Recipes.{recipes_made}
use Rattle.mh_attempt.proofs.asked.AskedNodes.{asks-unchanged}
use Rattle.mh_attempt.proofs.asked.AskedOperands.{asks-more, asks-unmade-both}
use Rattle.mh_attempt.proofs.types.Adding.{adds-back-both, adds-three, holds-after, holds-first, holds-second, of-types, operand-yet}
use Rattle.mh_attempt.proofs.types.AskingTypes.{types-back}
use Rattle.mh_attempt.proofs.types.OperandTypes.{types-others, types-unmade_both}
use Rattle.mh_attempt.proofs.lines.several.make_three.Goals as goal

pub returns-in-Ok-clause-goes_on : goal.returns-in-Ok-clause-goes_on
returns-in-Ok-clause-goes_on g c =
    goes_on-sum 2 1 3 c.args.w.now c.make_both.new.w c.make.new.w (omega arith) c.make_both.ensures.goes_on c.make.ensures.goes_on

pub returns-in-Err-clause-goes_on : goal.returns-in-Err-clause-goes_on
returns-in-Err-clause-goes_on g c =
    let made = goes_on-sum 2 1 3 c.args.w.now c.make_both.new.w c.make.new.w (omega arith) c.make_both.ensures.goes_on c.make.ensures.goes_on in
    let first = goes_on-before 3 c.args.w.now c.make.new.w c.give_back.new.w made c.give_back.ensures.unchanged
    (seated-back [] c.in_ok-first.first.held c.make.new.w c.give_back.new.w c.give_back.ensures.types) in
    goes_on-before 3 c.args.w.now c.give_back.new.w c.give_back-in-Err.new.w first c.give_back-in-Err.ensures.unchanged
    (seated-back [] c.in_ok-first.second.held c.give_back.new.w c.give_back-in-Err.new.w c.give_back-in-Err.ensures.types)

-- ---- what is asked for

pub returns-in_err-first-clause-asks : goal.returns-in_err-first-clause-asks
returns-in_err-first-clause-asks g c =
    let w = c.args.w.now in
    asks-unmade-both w.leaves.now (c.args.first.now ∷ c.args.second.now ∷ []) (c.args.third.now ∷ []) w c.make_both.new.w
    c.in_err-first.field-0.0 c.from_residual.result c.from_residual.ensures.1 c.in_err-first.ensures.asks

pub returns-in-Ok-clause-asks : goal.returns-in-Ok-clause-asks
returns-in-Ok-clause-asks g c =
    asks-more (c.args.first.now ∷ c.args.second.now ∷ []) (c.args.third.now ∷ []) c.args.w.now c.make_both.new.w c.make.new.w (Ok c.in-Ok.third)
    c.make_both.ensures.goes_on.leaves c.in_ok-first.ensures.asks c.in-Ok.ensures.asks

pub returns-in-Err-clause-asks : goal.returns-in-Err-clause-asks
returns-in-Err-clause-asks g c =
    let w = c.args.w.now in
    asks-unchanged {A = Handle} (recipes_made w.leaves.now (c.args.first.now ∷ c.args.second.now ∷ c.args.third.now ∷ []) []) w c.make.new.w
    c.give_back-in-Err.new.w (Err c.in-Err.error) (c.give_back-in-Err.ensures.unchanged.pass ∙ c.give_back.ensures.unchanged.pass)
    (asks-more {A = Handle} (c.args.first.now ∷ c.args.second.now ∷ []) (c.args.third.now ∷ []) w c.make_both.new.w c.make.new.w (Err c.in-Err.error)
    c.make_both.ensures.goes_on.leaves c.in_ok-first.ensures.asks c.in-Err.ensures.asks)

-- ---- the seat of types

pub make-requires-clause-held : goal.make-requires-clause-held
make-requires-clause-held g c =
    operand-yet c.args.third.now (c.in_ok-first.first.held ++ c.in_ok-first.second.held) c.args.w.now c.make_both.new.w c.in_ok-first.ensures.types
    c.requires.third.held

pub returns-in-Ok-clause-types : goal.returns-in-Ok-clause-types
returns-in-Ok-clause-types g c =
    adds-three c.in_ok-first.first.held c.in_ok-first.second.held c.in-Ok.third.held c.args.w.now c.make_both.new.w c.make.new.w c.in_ok-first.ensures.types
    c.in-Ok.ensures.types

pub give_back-requires-clause-of_types : goal.give_back-requires-clause-of_types
give_back-requires-clause-of_types g c =
    of-types 3 3 c.args.w.now c.make.new.w (goes_on-both 2 1 c.args.w.now c.make_both.new.w c.make.new.w c.make_both.ensures.goes_on c.make.ensures.goes_on)
    c.requires.ready

pub give_back-requires-clause-held : goal.give_back-requires-clause-held
give_back-requires-clause-held g c =
    holds-first c.in_ok-first.first.held c.in_ok-first.second.held c.make.new.w
    (holds-after (c.in_ok-first.first.held ++ c.in_ok-first.second.held) c.args.w.now c.make_both.new.w c.make.new.w c.in_ok-first.ensures.types
    c.in-Err.ensures.types)

pub give_back-requires-in-Err-clause-held : goal.give_back-requires-in-Err-clause-held
give_back-requires-in-Err-clause-held g c =
    holds-second c.in_ok-first.first.held c.in_ok-first.second.held c.make.new.w c.give_back.new.w
    (holds-after (c.in_ok-first.first.held ++ c.in_ok-first.second.held) c.args.w.now c.make_both.new.w c.make.new.w c.in_ok-first.ensures.types
    c.in-Err.ensures.types) c.give_back.ensures.types

pub returns-in-Err-clause-types : goal.returns-in-Err-clause-types
returns-in-Err-clause-types g c =
    adds-back-both c.in_ok-first.first.held c.in_ok-first.second.held c.args.w.now c.make_both.new.w c.make.new.w c.give_back.new.w
    c.give_back-in-Err.new.w c.in_ok-first.ensures.types c.in-Err.ensures.types c.give_back.ensures.types c.give_back-in-Err.ensures.types

-- ---- the types that are asked for

pub returns-in_err-first-clause-asked : goal.returns-in_err-first-clause-asked
returns-in_err-first-clause-asked g c =
    let w = c.args.w.now in
    types-unmade_both (Handle × Handle) w.leaves.now (c.args.first.now ∷ c.args.second.now ∷ []) (c.args.third.now ∷ []) w c.make_both.new.w
    c.in_err-first.field-0.0 c.from_residual.result c.from_residual.ensures.1 c.in_err-first.ensures.asked

pub returns-in-Ok-clause-asked : goal.returns-in-Ok-clause-asked
returns-in-Ok-clause-asked g c =
    types-others (c.args.first.now ∷ c.args.second.now ∷ []) (c.args.third.now ∷ []) c.args.w.now c.make_both.new.w c.make.new.w (Ok c.in-Ok.third)
    c.make_both.ensures.goes_on.leaves c.in_ok-first.ensures.asked c.in-Ok.ensures.asked

pub returns-in-Err-clause-asked : goal.returns-in-Err-clause-asked
returns-in-Err-clause-asked g c =
    let w = c.args.w.now in
    let types = types_made w.leaves.now (c.args.first.now ∷ c.args.second.now ∷ c.args.third.now ∷ []) [] in
    types-back {A = Handle} types c.in_ok-first.second.held w c.give_back.new.w c.give_back-in-Err.new.w (Err c.in-Err.error) c.give_back-in-Err.ensures.types
    (types-back {A = Handle} types c.in_ok-first.first.held w c.make.new.w c.give_back.new.w (Err c.in-Err.error) c.give_back.ensures.types
    (types-others {A = Handle} (c.args.first.now ∷ c.args.second.now ∷ []) (c.args.third.now ∷ []) w c.make_both.new.w c.make.new.w (Err c.in-Err.error)
    c.make_both.ensures.goes_on.leaves c.in_ok-first.ensures.asked c.in-Err.ensures.asked))
