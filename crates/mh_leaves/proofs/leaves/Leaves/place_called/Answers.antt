use Rattle.std.proofs.Common.{◌≡◌, ◌∙◌, sym, subst, ◌<◌, true, false, length, position, None, Some}
use Rattle.mh_leaf.specs.LeafTable.{LeafTable}
use Rattle.mh_leaves.specs.Find.{has_texts, is_way, is_called}
use Rattle.mh_leaves.proofs.Once.{position-none, position-called}
use Rattle.mh_leaves.proofs.leaves.Leaves.place_called.Goals as goal

pub returns-in_err-at-clause-found : goal.returns-in_err-at-clause-found
returns-in_err-at-clause-found c =
    c.from_residual.ensures
    ∙ sym (position-none (has_texts c.args.owner c.args.name.now c.args.descriptor.now) (is_way c.args.how) c.args.self.now.leaves
    (sym c.in_err-at.ensures.found))

pub returns-then-is_way-clause-found : goal.returns-then-is_way-clause-found
returns-then-is_way-clause-found c =
    let f = has_texts c.args.owner c.args.name.now c.args.descriptor.now in
    let found = subst (λ (t : LeafTable). Some c.in_ok-at.at ≡ position f t.leaves) (sym c.self.view_is) c.in_ok-at.ensures.found in
    let within = subst (λ (t : LeafTable). c.in_ok-at.at < length t.leaves) (sym c.self.view_is) c.in_ok-at.ensures.within in
    subst (λ (t : LeafTable). Some c.in_ok-at.at ≡ position (is_called c.args.owner c.args.name.now c.args.descriptor.now c.args.how) t.leaves) c.self.view_is
    (sym (position-called f (is_way c.args.how) c.self.inside.leaves.items c.in_ok-at.at c.index.result.now true
    (c.self.invariant.indexed.once c.args.owner c.args.name.now c.args.descriptor.now) found within c.index.ensures
    (sym c.is_way.ensures ∙ c.if-is_way.true)))

pub returns-else-is_way-clause-found : goal.returns-else-is_way-clause-found
returns-else-is_way-clause-found c =
    let f = has_texts c.args.owner c.args.name.now c.args.descriptor.now in
    let found = subst (λ (t : LeafTable). Some c.in_ok-at.at ≡ position f t.leaves) (sym c.self.view_is) c.in_ok-at.ensures.found in
    let within = subst (λ (t : LeafTable). c.in_ok-at.at < length t.leaves) (sym c.self.view_is) c.in_ok-at.ensures.within in
    subst (λ (t : LeafTable). None ≡ position (is_called c.args.owner c.args.name.now c.args.descriptor.now c.args.how) t.leaves) c.self.view_is
    (sym (position-called f (is_way c.args.how) c.self.inside.leaves.items c.in_ok-at.at c.index.result.now false
    (c.self.invariant.indexed.once c.args.owner c.args.name.now c.args.descriptor.now) found within c.index.ensures
    (sym c.is_way.ensures ∙ c.if-is_way.false)))
