use Rattle.std.proofs.Common.{sym, subst, ◌<◌, ◌≤◌, [], length, rules}
use Rattle.mh_intern.specs.Exchanges.{AreHeld}
use Rattle.mh_intern.specs.Seats.{Holds}
use Rattle.mh_intern.proofs.HoldLists.{copied-next, item-held, released-again, taken-more}
use Rattle.mh_intern.proofs.Exchanging.{held-came}
use Rattle.mh_intern.proofs.HeldLists.{held-none}
use Rattle.mh_intern.proofs.table.TypeTable.dup_all.Goals as goal

pub dup-requires-clause-held : goal.dup-requires-clause-held
dup-requires-clause-held c =
    item-held c.args.held.now c.loop-hold.copies.items c.loop-hold.hold-index c.hold-item.result c.args.seat.now c.loop-hold.seat (search rules) (search rules)
    c.requires.held c.loop-hold.invariant.exchanges

pub release_all-requires-clause-held : goal.release_all-requires-clause-held
release_all-requires-clause-held c =
    subst (λ s. AreHeld s c.loop-hold.copies.items) (sym c.in-Err.ensures.err)
    (held-came [] [] c.loop-hold.copies.items c.args.seat.now c.loop-hold.seat c.loop-hold.invariant.exchanges (held-none c.args.seat.now))

pub returns-in-Err-clause-exchanges : goal.returns-in-Err-clause-exchanges
returns-in-Err-clause-exchanges c =
    released-again c.loop-hold.copies.items c.args.seat.now c.loop-hold.seat c.dup.new.seat c.release_all.new.seat c.in-Err.ensures.err
    c.loop-hold.invariant.exchanges c.release_all.ensures

pub loop-hold-preserved : goal.loop-hold-preserved
loop-hold-preserved c =
    let holds = c.args.held.now in
    let within : c.loop-hold.hold-index < length holds = search rules in
    let held =
    item-held holds c.loop-hold.copies.items c.loop-hold.hold-index c.hold-item.result c.args.seat.now c.loop-hold.seat within c.hold-item.is c.requires.held
    c.loop-hold.invariant.exchanges in
    let some : 1 ≤ c.loop-hold.seat.room = search rules in
    record {
      copied = copied-next holds c.loop-hold.copies.items c.push_reserved.new.self.items c.loop-hold.hold-index c.hold-item.result c.in-Ok.copy within
          c.hold-item.is c.loop-hold.invariant.copied c.in-Ok.ensures.same c.push_reserved.ensures.items;
      exchanges = taken-more c.loop-hold.copies.items c.push_reserved.new.self.items c.in-Ok.copy c.args.seat.now c.loop-hold.seat c.dup.new.seat
          c.loop-hold.invariant.exchanges (subst (Holds c.loop-hold.seat) (sym c.in-Ok.ensures.same) held) some c.in-Ok.ensures.ok
          c.push_reserved.ensures.items;
    }
