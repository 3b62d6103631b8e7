use Rattle.std.proofs.Common.{sym, ◌∙◌, subst, [], ◌∷◌, length, map-id, rules}
use Rattle.std.proofs.lemmas.Iterator.Adapters.{YieldsList-from_vec}
use Rattle.std.proofs.lemmas.Iterator.Consumers.{YieldsList-so_far, YieldsList-turn}
use Rattle.mh_intern.specs.Exchanges.{Exchanges}
use Rattle.mh_intern.proofs.Exchanging.{exchanges-then}
use Rattle.mh_intern.proofs.SingleExchanges.{exchanges-released}
use Rattle.mh_intern.proofs.HoldLists.{next-held}
use Rattle.mh_intern.proofs.table.TypeTable.release_all.Goals as goal

pub release-requires-clause-held : goal.release-requires-clause-held
release-requires-clause-held c =
    let all = c.args.held.items in
    let list = YieldsList-from_vec {s = c.into_iter-hold-iterator.result} all (search rules) (search rules) in
    let before = c.loop-hold.yielded in
    let taken = YieldsList-turn list before c.loop-hold.hold-iterator c.loop-hold.yielded_by c.next.result c.next.new.self c.in-Some.hold c.in-Some.is
    c.next.ensures.steps in
    let so_far = sym (map-id before) ∙ YieldsList-so_far list before c.loop-hold.hold-iterator c.loop-hold.yielded_by in
    next-held all (length before) c.in-Some.hold c.args.seat.now c.loop-hold.seat taken.0 taken.1 c.requires.held
    (subst (λ l. Exchanges [] l [] c.args.seat.now c.loop-hold.seat) so_far c.loop-hold.invariant)

pub loop-hold-preserved : goal.loop-hold-preserved
loop-hold-preserved c =
    let all = c.args.held.items in
    let list = YieldsList-from_vec {s = c.into_iter-hold-iterator.result} all (search rules) (search rules) in
    let before = c.loop-hold.yielded in
    let taken = YieldsList-turn list before c.loop-hold.hold-iterator c.loop-hold.yielded_by c.next.result c.next.new.self c.in-Some.hold c.in-Some.is
    c.next.ensures.steps in
    let so_far = sym (map-id before) ∙ YieldsList-so_far list before c.loop-hold.hold-iterator c.loop-hold.yielded_by in
    let held = next-held all (length before) c.in-Some.hold c.args.seat.now c.loop-hold.seat taken.0 taken.1 c.requires.held
    (subst (λ l. Exchanges [] l [] c.args.seat.now c.loop-hold.seat) so_far c.loop-hold.invariant) in
    exchanges-then [] [] before [] (c.in-Some.hold ∷ []) [] c.args.seat.now c.loop-hold.seat c.release.new.seat c.loop-hold.invariant
    (exchanges-released c.in-Some.hold c.loop-hold.seat c.release.new.seat held c.release.ensures.released)
