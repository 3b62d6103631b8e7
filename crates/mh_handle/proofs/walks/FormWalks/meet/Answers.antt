use Rattle.std.proofs.Common.{◌≤◌, ap, length, arith}
use Rattle.std.proofs.lemmas.Option.{slice_get_within}
use Rattle.mh_handle.specs.Chains.{chain_count}
use Rattle.mh_handle.proofs.chains.MeetingWalks.{walks-match}
use Rattle.mh_handle.proofs.walks.FormWalks.meet.Goals as goal

pub returns-clause-matching : goal.returns-clause-matching
returns-clause-matching c =
    let end : chain_count ≤ c.loop-place.place =
    omega (arith, c.loop-place-test.false, ap length c.chains-chains.ensures.chains, c.chains-chains.ensures.count) in
    rw (← c.self.view_is) (rw (← c.other.view_is) (walks-match c.self.inside.walks.items c.other.inside.walks.items c.self.invariant c.other.invariant
    (λ k a b at_a at_b. c.loop-place.invariant k a b
    (omega (arith, end, slice_get_within c.self.inside.walks.items k a at_a, c.self.invariant.count)) at_a at_b)))
