use Rattle.std.proofs.Common.{◌≡◌, ◌∙◌, sym, ap, subst, length, take, ◌++◌, ◌∷◌, []}
use Rattle.std.proofs.lemmas.List.{take_all, take_more}
use Rattle.mh_handle.specs.Chains.{chain_count}
use Rattle.mh_setonce.proofs.NewWalks.{AreNew, new-push}
use Rattle.mh_handle.proofs.chains.NewWalks.{new-learnt, new-walks}
use Rattle.mh_handle.proofs.walks.FormWalks.new.Goals as goal

pub loop-chain-preserved : goal.loop-chain-preserved
loop-chain-preserved c =
    let chains = c.chains-chain-items.result.now in
    let more = take_more chains c.loop-chain.chain-index c.chain-item.result c.loop-chain-test.true in
    let is = more ∙ ap (λ x. take c.loop-chain.chain-index chains ++ x ∷ []) (sym c.chain-item.is) in
    subst (λ cs. AreNew cs c.push.new.self.items) (sym is)
    (subst (AreNew (take c.loop-chain.chain-index chains ++ c.chain-item.result ∷ [])) (sym c.in_ok-push.ensures.items)
    (new-push (take c.loop-chain.chain-index chains) c.loop-chain.walks.items c.chain-item.result c.walk.result c.loop-chain.invariant c.walk.ensures.chain
    c.walk.ensures.nodes))

-- walks of all chains
all-new : (c : goal.After-loop-chain) → AreNew c.chains-chain-items.result.now c.loop-chain.walks.items
all-new c = subst (λ cs. AreNew cs c.loop-chain.walks.items) (take_all c.loop-chain.chain-index c.chains-chain-items.result.now c.loop-chain-test.false)
    c.loop-chain.invariant

pub invariant_of-result : goal.invariant_of-result
invariant_of-result c = new-walks c.chains-chain-items.result.now c.loop-chain.walks.items (all-new c)
    (subst (λ cs. length cs ≡ chain_count) (sym c.chains-chain-items.ensures.chains) c.chains-chain-items.ensures.count)

pub returns-clause-learnt : goal.returns-clause-learnt
returns-clause-learnt c = new-learnt (take c.loop-chain.chain-index c.chains-chain-items.result.now) c.loop-chain.walks.items c.loop-chain.invariant
