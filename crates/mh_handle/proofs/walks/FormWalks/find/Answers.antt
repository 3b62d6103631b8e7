use Rattle.std.proofs.Common.{◌≡◌, sym, Some}
use Rattle.std.specs.Prelude.{slice_get, slice_set}
use Rattle.std.proofs.lemmas.Option.{slice_get_read}
use Rattle.mh_setonce.proofs.Replaced.{set-chains}
use Rattle.mh_handle.proofs.chains.ManyWalks.{found-finds, one-each, set-learnt, set-walks}
use Rattle.mh_handle.proofs.walks.FormWalks.find.Goals as goal

-- the walk that stands there
stands : (c : goal.After-self-1) → slice_get c.self.inside.walks.items c.chain-place.result ≡ Some c.index_mut.result.now
stands c = slice_get_read c.self.inside.walks.items 64 c.chain-place.result c.index_mut.result.now (sym c.self.invariant.count) c.chain-place.ensures.small
    c.index_mut.ensures.value

pub returns-clause-chains : goal.returns-clause-chains
returns-clause-chains c =
    rw (← c.self.view_is) (set-chains c.self.inside.walks.items c.chain-place.result c.index_mut.result.now c.find.new.walk (stands c) c.find.ensures.chain)

pub returns-clause-learnt : goal.returns-clause-learnt
returns-clause-learnt c =
    rw (← c.self.view_is) (set-learnt c.self.inside.walks.items c.chain-place.result c.index_mut.result.now c.find.new.walk (stands c) c.find.ensures.nodes)

pub returns-clause-once : goal.returns-clause-once
returns-clause-once c =
    one-each (slice_set c.self.inside.walks.items c.chain-place.result c.find.new.walk)
    (set-walks c.self.inside.walks.items c.chain-place.result c.index_mut.result.now c.find.new.walk (stands c) c.find.ensures.once c.self.invariant)

pub returns-clause-found : goal.returns-clause-found
returns-clause-found c =
    found-finds c.self.inside.walks.items c.chain-place.result c.index_mut.result.now c.find.new.walk c.args.recipe.now c.find.result (stands c)
    c.chain-place.ensures.chain c.find.ensures.found
