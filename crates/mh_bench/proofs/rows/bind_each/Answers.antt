use Rattle.std.proofs.Common.{[], ◌+◌, ◌-◌, arith}
use Rattle.mh_handle.proofs.obeying.Rooms.{ready-less}
use Rattle.mh_steps.proofs.Adding.{adds-held, adds-next, adds-yet}
use Rattle.mh_bench.proofs.Turns.{bound-adds, ready-next, unbound-adds}
use Rattle.mh_bench.proofs.rows.bind_each.Goals as goal

pub copy-requires-clause-held : goal.copy-requires-clause-held
copy-requires-clause-held g c =
    adds-yet [] c.args.handle.now.held c.args.w.now.seat.now c.loop-turn.w.seat.now c.loop-turn.invariant.types c.requires.held

pub returns-in_err-copy-clause-types : goal.returns-in_err-copy-clause-types
returns-in_err-copy-clause-types g c =
    adds-next [] [] [] c.args.w.now.seat.now c.loop-turn.w.seat.now c.copy.new.w.seat.now c.loop-turn.invariant.types ([], c.in_err-copy.ensures.types)

pub bind-requires-clause-held : goal.bind-requires-clause-held
bind-requires-clause-held g c =
    adds-held c.in_ok-copy.copy.held c.loop-turn.w.seat.now c.copy.new.w.seat.now ([], c.in_ok-copy.ensures.types)

pub returns-in_err-bound-clause-types : goal.returns-in_err-bound-clause-types
returns-in_err-bound-clause-types g c =
    adds-next [] [] [] c.args.w.now.seat.now c.loop-turn.w.seat.now c.bind.new.w.seat.now c.loop-turn.invariant.types
    (unbound-adds _ c.in_ok-copy.copy c.loop-turn.w c.copy.new.w c.bind.new.w c.in_err-bound.field-0.0 c.in_ok-copy.ensures.types c.in_err-bound.ensures.types)

pub give_back-requires-clause-held : goal.give_back-requires-clause-held
give_back-requires-clause-held g c =
    adds-held c.in_ok-bound.bound.held c.loop-turn.w.seat.now c.bind.new.w.seat.now
    (bound-adds _ c.in_ok-copy.copy c.in_ok-bound.bound c.loop-turn.w c.copy.new.w c.bind.new.w c.in_ok-copy.ensures.types c.in_ok-bound.ensures.types)

pub loop-turn-preserved : goal.loop-turn-preserved
loop-turn-preserved g c =
    let bound = c.in_ok-bound.bound in
    let start = c.loop-turn.w in
    let end = c.give_back.new.w in
    let turn =
    adds-next [] bound.held [] start.seat.now c.bind.new.w.seat.now end.seat.now
    (bound-adds _ c.in_ok-copy.copy bound start c.copy.new.w c.bind.new.w c.in_ok-copy.ensures.types c.in_ok-bound.ensures.types)
    ([], c.give_back.ensures.types) in
    record {
      ready =
          ready-next (c.args.turns - (c.loop-turn.turn + 1)) start c.copy.new.w c.bind.new.w end c.in_ok-copy.ensures.unchanged c.bind.ensures.goes_on
          c.give_back.ensures.unchanged turn
          (ready-less start (1 + (c.args.turns - c.loop-turn.turn)) (2 + (c.args.turns - (c.loop-turn.turn + 1))) (omega (arith, c.loop-turn-test.true))
          c.loop-turn.invariant.ready);
      types = adds-next [] [] [] c.args.w.now.seat.now start.seat.now end.seat.now c.loop-turn.invariant.types turn;
    }
