use Rattle.std.proofs.Common.{[]}
use Rattle.mh_handle.proofs.obeying.Going.{goes_on-before, seated-back}
use Rattle.mh_attempt.specs.Asked.{attempt_draws}
use Rattle.mh_steps.proofs.Adding.{adds-held, adds-next}
use Rattle.mh_class_tests.proofs.linked_calls.attempt_text.Goals as goal

-- the linkage is given back, with all that the attempt has left held
pub give_back-requires-clause-held : goal.give_back-requires-clause-held
give_back-requires-clause-held g c =
    adds-held c.in_ok-linkage.linkage.held c.args.w.now.seat.now c.attempt.new.w.seat.now c.in_ok-linkage.ensures.types

pub returns-clause-goes_on : goal.returns-clause-goes_on
returns-clause-goes_on g c =
    goes_on-before attempt_draws c.args.w.now c.attempt.new.w c.give_back.new.w c.in_ok-linkage.ensures.goes_on c.give_back.ensures.unchanged
    (seated-back [] c.in_ok-linkage.linkage.held c.attempt.new.w c.give_back.new.w c.give_back.ensures.types)

pub returns-clause-types : goal.returns-clause-types
returns-clause-types g c =
    adds-next [] c.in_ok-linkage.linkage.held [] c.args.w.now.seat.now c.attempt.new.w.seat.now c.give_back.new.w.seat.now c.in_ok-linkage.ensures.types
    ([], c.give_back.ensures.types)

pub returns-in_err-text-clause-goes_on : goal.returns-in_err-text-clause-goes_on
returns-in_err-text-clause-goes_on g c =
    goes_on-before attempt_draws c.args.w.now c.attempt.new.w c.give_back.new.w c.in_ok-linkage.ensures.goes_on c.give_back.ensures.unchanged
    (seated-back [] c.in_ok-linkage.linkage.held c.attempt.new.w c.give_back.new.w c.give_back.ensures.types)

pub returns-in_err-text-clause-types : goal.returns-in_err-text-clause-types
returns-in_err-text-clause-types g c =
    adds-next [] c.in_ok-linkage.linkage.held [] c.args.w.now.seat.now c.attempt.new.w.seat.now c.give_back.new.w.seat.now c.in_ok-linkage.ensures.types
    ([], c.give_back.ensures.types)
