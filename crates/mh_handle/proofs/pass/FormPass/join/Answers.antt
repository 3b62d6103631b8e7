use Rattle.std.proofs.Common.{◌∙◌, ap, map, refl}
use Rattle.std.proofs.lemmas.List.{map-append}
use Rattle.mh_handle.specs.Chains.{learnt_by}
use Rattle.mh_handle.proofs.passes.JoinedPasses.{passes-joined, seats-joined}
use Rattle.mh_handle.proofs.passes.Learning.{found-alike, kept-found}
use Rattle.mh_handle.proofs.passes.Passing.{pass-same}
use Rattle.mh_handle.proofs.pass.FormPass.join.Goals as goal

pub invariant_of-self : goal.invariant_of-self
invariant_of-self c =
    pass-same c.self.inside.walks c.self.inside.walks (map (λ f. f.now) c.self.inside.made.items) _ c.self.inside.seen c.add_all.new.seen c.join.new.self
    (seats-joined c.self.inside.walks c.other.inside.walks c.self.inside.walks _ (map (λ f. f.now) c.other.inside.made.items) c.self.inside.seen
    c.other.inside.seen c.self.inside.seat c.other.inside.seat c.join.new.self c.self.invariant c.other.invariant c.join.ensures.joined)
    refl (ap (map (λ f. f.now)) c.in_err-add_all.ensures.made_err) c.in_err-add_all.ensures.seen_err

pub returns-in_err-add_all-clause-agree : goal.returns-in_err-add_all-clause-agree
returns-in_err-add_all-clause-agree c =
    rw (← c.self.view_is) (rw (← c.other.view_is) (found-alike (learnt_by c.self.inside.walks) (learnt_by c.other.inside.walks) c.meet.ensures.matching))

pub invariant_of-self-2 : goal.invariant_of-self-2
invariant_of-self-2 c =
    passes-joined c.self.inside.walks c.other.inside.walks c.join-2.new.self (map (λ f. f.now) c.self.inside.made.items)
    (map (λ f. f.now) c.other.inside.made.items) c.self.inside.seen c.other.inside.seen c.self.inside.seat c.other.inside.seat c.join.new.self
    c.self.invariant c.other.invariant c.join.ensures.joined _ _ c.join-2.ensures.chains c.join-2.ensures.mine c.join-2.ensures.theirs c.join-2.ensures.once
    (ap (map (λ f. f.now)) c.in_ok-add_all.ensures.made ∙ map-append (λ f. f.now) c.self.inside.made.items c.other.inside.made.items)
    c.in_ok-add_all.ensures.seen

pub returns-clause-agree : goal.returns-clause-agree
returns-clause-agree c =
    rw (← c.self.view_is) (rw (← c.other.view_is) (found-alike (learnt_by c.self.inside.walks) (learnt_by c.other.inside.walks) c.meet.ensures.matching))

pub returns-clause-ok : goal.returns-clause-ok
returns-clause-ok c = rw (← c.self.view_is) (rw (← c.other.view_is) (record {
  mine = kept-found (learnt_by c.self.inside.walks) (learnt_by c.join-2.new.self) c.join-2.ensures.mine c.join-2.ensures.once;
  theirs = kept-found (learnt_by c.other.inside.walks) (learnt_by c.join-2.new.self) c.join-2.ensures.theirs c.join-2.ensures.once;
  asked = c.in_ok-add_all.ensures.seen;
  made = ap (map (λ f. f.now)) c.in_ok-add_all.ensures.made ∙ map-append (λ f. f.now) c.self.inside.made.items c.other.inside.made.items;
}))
