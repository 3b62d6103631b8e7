use Rattle.std.proofs.Common.{◌≡◌, ◌<◌, ◌≤◌, All, subst, sym}
use Rattle.crossbeam_deque.specs.Handles.{IsPassOf}
use Rattle.mh_seats.specs.Room.{times}
use Rattle.mh_prelink.specs.Lanes.{CanSteal}
use Rattle.mh_prelink.specs.Results.{all_taken, NoneStopped}
use Rattle.mh_prelink.proofs.prelinking.prelink_named.Goals as goal

pub carry_out-done-requires-clause-thieves : goal.carry_out-done-requires-clause-thieves
carry_out-done-requires-clause-thieves g c κs within =
    let l = c.args.linking.now in
    subst (λ d. All (CanSteal {P = g.row.L-Pass.Denot} {E = g.row.L-Stop.Denot} (λ x. IsPassOf d x.place) (g.L.Linking.step l) (g.L.Linking.has l)
    (g.L.Linking.room l) g.N.Bound.bound) c.in_ok-thieves.thieves.items) (sym c.in_ok-thieves.ensures.same.0) c.in_ok-thieves.ensures.lanes

pub returns-clause-below : goal.returns-clause-below
returns-clause-below g c =
    let done = c.carry_out-done in
    let below = subst (λ b. All (λ x. x < b) (all_taken done.result.items)) c.requires.named done.ensures.below in
    subst (λ ws. All (λ x. x < c.args.count) (all_taken ws)) (sym c.from_vec.ensures) below

pub returns-clause-once : goal.returns-clause-once
returns-clause-once g c = λ x. subst (λ ws. times x (all_taken ws) ≤ 1) (sym c.from_vec.ensures) (c.carry_out-done.ensures.once x)

pub returns-clause-every : goal.returns-clause-every
returns-clause-every g c = λ none x h.
    let below = subst (λ b. x < b) (sym c.requires.named) h in
    subst (λ ws. times x (all_taken ws) ≡ 1) (sym c.from_vec.ensures)
    (c.carry_out-done.ensures.every (subst (λ ws. NoneStopped ws) c.from_vec.ensures none) x below)
