use Rattle.std.proofs.Common.{◌≡◌, ◌∙◌, sym, ap, Some}
use Rattle.std.specs.Prelude.{slice_get, slice_set}
use Rattle.std.proofs.lemmas.Option.{slice_get_read}
use Rattle.mh_handle.specs.Chains.{chain_of}
use Rattle.mh_setonce.proofs.Replaced.{set-chains}
use Rattle.mh_handle.proofs.chains.ManyWalks.{one-each, put-finds, set-learnt, set-walks}
use Rattle.mh_handle.proofs.walks.FormWalks.put.Given as given
use Rattle.mh_handle.proofs.walks.FormWalks.put.Goals as goal

-- the walk that stands there
stands : (g : given.Over) (c : goal.After-self-1 g) → slice_get c.self.inside.walks.items c.chain-place.result ≡ Some c.index_mut.result.now
stands g c = slice_get_read c.self.inside.walks.items 64 c.chain-place.result c.index_mut.result.now (sym c.self.invariant.count) c.chain-place.ensures.small
    c.index_mut.ensures.value

pub returns-clause-chains : goal.returns-clause-chains
returns-clause-chains g c =
    rw (← c.self.view_is) (set-chains c.self.inside.walks.items c.chain-place.result c.index_mut.result.now c.put_form.new.walk (stands g c)
    c.put_form.ensures.chain)

pub returns-clause-learnt : goal.returns-clause-learnt
returns-clause-learnt g c =
    rw (← c.self.view_is) (set-learnt c.self.inside.walks.items c.chain-place.result c.index_mut.result.now c.put_form.new.walk (stands g c)
    c.put_form.ensures.nodes)

pub returns-clause-once : goal.returns-clause-once
returns-clause-once g c =
    one-each (slice_set c.self.inside.walks.items c.chain-place.result c.put_form.new.walk)
    (set-walks c.self.inside.walks.items c.chain-place.result c.index_mut.result.now c.put_form.new.walk (stands g c) c.put_form.ensures.once c.self.invariant)

pub returns-clause-put : goal.returns-clause-put
returns-clause-put g c =
    put-finds c.self.inside.walks.items c.chain-place.result c.index_mut.result.now c.put_form.new.walk c.args.form c.put_form.result (stands g c)
    (c.chain-place.ensures.chain ∙ ap chain_of c.recipe.ensures) c.put_form.ensures.put
