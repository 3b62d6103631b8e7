use Rattle.std.proofs.Common.{◌≡◌, ◌∙◌, ◌<◌, ℕ, Result, Ok, Err, All, OnOk, subst, sym}
use Rattle.mh_seats.specs.Room.{times}
use Rattle.mh_prelink.specs.Lanes.{HaveWorked}
use Rattle.mh_prelink.specs.Results.{all_taken, NoneStopped}
use Rattle.mh_prelink.specs.Steps.{Did}
use Rattle.mh_prelink.proofs.sharing.share_out.Goals as goal

on_ok : {A E P Q : Type 0} (r : Result A E) → (P → Q) → OnOk r P → OnOk r Q
on_ok (Ok a) f h = f h
on_ok (Err e) f h = h

pub returns : goal.returns
returns g c =
    let done = Did {P = g.row.T-Pass.Denot} {E = g.row.T-Stop.Denot} (g.T.Linking.step c.args.task.now) (g.T.Linking.has c.args.task.now) in
    let before = c.in_ok-passes.passes in
    let after = c.in_ok-workers.workers in
    let ran = c.in_ok-workers.ensures in
    let begun = c.start.ensures before c.in_ok-passes.ensures.split_off c.in_ok-passes.ensures.count in
    let joined = c.join_all.ensures before begun (subst (λ ws. HaveWorked done before ws) (sym c.into_vec.ensures) ran.did) in
    on_ok c.join_all.result
    (λ j. (
      before,
      after,
      subst (λ ws. g.T.SharesOut.joined c.args.task.now before ws c.join_all.new.state) c.into_vec.ensures j,
      ran.did.count ∙ c.in_ok-passes.ensures.count,
      record {
        did = ran.did;
        below = subst (λ n. All (λ x. x < n) (all_taken after)) c.count.ensures ran.below;
        once = ran.once;
        every = subst (λ n. NoneStopped after → (x : ℕ) → x < n → times x (all_taken after) ≡ 1) c.count.ensures ran.every;
      },
    ))
    joined
