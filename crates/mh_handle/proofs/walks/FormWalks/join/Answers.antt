use Rattle.std.proofs.Common.{◌≡◌, ◌<◌, ◌≤◌, sym, Some, length, arith}
use Rattle.std.specs.Prelude.{slice_get}
use Rattle.std.proofs.lemmas.Option.{slice_get_read}
use Rattle.mh_handle.specs.Chains.{chain_count}
use Rattle.mh_handle.proofs.chains.ManyWalks.{one-each}
use Rattle.mh_handle.proofs.chains.JoiningWalks.{joined-mine, joined-theirs, joining-first, joining-next}
use Rattle.mh_handle.proofs.walks.FormWalks.join.Goals as goal

pub loop-place-init : goal.loop-place-init
loop-place-init c = joining-first c.self.inside.walks.items c.other.inside.walks.items c.self.invariant

pub loop-place-preserved : goal.loop-place-preserved
loop-place-preserved c =
    let walks = c.loop-place.self-inside.walks.items in
    let others = c.loop-place.others.items in
    let place = c.loop-place.place in
    let chains = rw (← c.other.view_is) at c.requires.chains in
    let low : place < 64 = omega (arith, c.loop-place-test.true, c.len-place-end.ensures, c.self.invariant.count) in
    let mine : slice_get walks place ≡ Some c.index_mut.result.now =
    slice_get_read walks 64 place c.index_mut.result.now (sym c.loop-place.invariant.walks_are.count) low c.index_mut.ensures.value in
    let theirs : slice_get others place ≡ Some c.index_mut-in-loop-place.result.now =
    slice_get_read others (length c.other.inside.walks.items) place c.index_mut-in-loop-place.result.now (sym c.loop-place.invariant.joining.count)
    (omega (arith, low, c.other.invariant.count)) c.index_mut-in-loop-place.ensures.value in
    joining-next c.self.inside.walks.items c.other.inside.walks.items walks others place c.index_mut.result.now c.index_mut-in-loop-place.result.now
    c.keep_longer.new.walk c.keep_longer.new.other c.loop-place.invariant c.other.invariant
    (rw (← c.self.view_is) at chains) mine theirs c.keep_longer.ensures

pub returns-clause-chains : goal.returns-clause-chains
returns-clause-chains c = rw (← c.self.view_is) c.loop-place.invariant.joining.chains

pub returns-clause-mine : goal.returns-clause-mine
returns-clause-mine c =
    let meet = rw (← c.other.view_is) at c.requires.meet in
    let end : chain_count ≤ c.loop-place.place = omega (arith, c.loop-place-test.false, c.len-place-end.ensures, c.self.invariant.count) in
    rw (← c.self.view_is) (joined-mine c.self.inside.walks.items c.other.inside.walks.items c.loop-place.self-inside.walks.items c.loop-place.others.items
    c.loop-place.place c.loop-place.invariant end c.self.invariant c.other.invariant (rw (← c.self.view_is) at meet))

pub returns-clause-theirs : goal.returns-clause-theirs
returns-clause-theirs c =
    let meet = rw (← c.other.view_is) at c.requires.meet in
    let end : chain_count ≤ c.loop-place.place = omega (arith, c.loop-place-test.false, c.len-place-end.ensures, c.self.invariant.count) in
    rw (← c.other.view_is) (joined-theirs c.self.inside.walks.items c.other.inside.walks.items c.loop-place.self-inside.walks.items c.loop-place.others.items
    c.loop-place.place c.loop-place.invariant end c.self.invariant c.other.invariant (rw (← c.self.view_is) at meet))

pub returns-clause-once : goal.returns-clause-once
returns-clause-once c = one-each c.loop-place.self-inside.walks.items c.loop-place.invariant.walks_are
