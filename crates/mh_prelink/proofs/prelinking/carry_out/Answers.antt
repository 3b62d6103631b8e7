use Rattle.std.proofs.Common.{◌≡◌, ◌<◌, ◌≤◌, ◌∙◌, ◌+◌, ◌-◌, ℕ, List, ◌++◌, ◌∷◌, All, length, map, flat_map, get_or, subst, sym, ap, arith, length-append}
use Rattle.crossbeam_deque.specs.Handles.{IsPassOf, worker_view, stealer_deque}
use Rattle.mh_seats.specs.Room.{times}
use Rattle.mh_prelink.specs.declared.tally.Tally.{Tally}
use Rattle.mh_prelink.specs.Tallies.{whole}
use Rattle.mh_prelink.specs.Lanes.{CanSteal, HasStolen, HaveWorked}
use Rattle.mh_prelink.specs.Results.{all_taken, NoneStopped}
use Rattle.mh_prelink.specs.Steps.{Did, done_by}
use Rattle.mh_prelink.proofs.Balance.{learns}
use Rattle.mh_prelink.proofs.Running.{all_run, taken_by_all, Settled, settled, all_workers, below_all, once_all, every_all}
use Rattle.mh_prelink.proofs.prelinking.carry_out.Goals as goal

pub work_beside-owner-requires-clause-lanes : goal.work_beside-owner-requires-clause-lanes
work_beside-owner-requires-clause-lanes g c κs within =
    let l = c.args.linking.now in
    subst (λ d. All (CanSteal {P = g.row.L-Pass.Denot} {E = g.row.L-Stop.Denot} (λ x. IsPassOf d x.place) (g.L.Linking.step l) (g.L.Linking.has l)
    (g.L.Linking.room l) g.N.Bound.bound) c.args.thieves.items) (sym c.requires.deque) c.requires.thieves

pub gather-requires-clause-places : goal.gather-requires-clause-places
gather-requires-clause-places g c = λ k d h.
    let r = c.work_beside-owner.ensures.ran in
    let stolen = r.each k d d (omega (arith, h, r.count)) in (
      subst (λ q. IsPassOf q (get_or c.work_beside-owner.result.2.items k d).place) (c.requires.deque ∙ sym c.work_beside-owner.ensures.popped.more.0.0)
          stolen.place,
      stolen.view,
    )

pub finish-requires-after_bounds : goal.finish-requires-after_bounds
finish-requires-after_bounds g c κs within =
    let popped = c.work_beside-owner.ensures.popped in
    let xs = popped.more.1.0 in
    let later = flat_map (λ x. x.work.taken.items) c.work_beside-owner.result.2.items in
    let start = worker_view c.args.owner in
    let worked = worker_view c.work_beside-owner.result.0 in
    let gathered = worker_view c.gather.new.owner in
    let a : start.parts ≡ whole - length c.args.thieves.items = ap (λ (h : Tally). h.parts) c.requires.tally in
    let b : worked.parts ≡ start.parts = ap (λ (h : Tally). h.parts) popped.more.1.2 in
    let d : gathered.parts ≡ worked.parts + length c.work_beside-owner.result.2.items = ap (λ (h : Tally). h.parts) c.gather.ensures.tallies in
    let t : length gathered.taken ≡ length worked.taken + length later =
    ap (λ (h : Tally). length h.taken) c.gather.ensures.tallies ∙ length-append worked.taken later in
    let u : length worked.taken ≡ length start.taken + length xs = ap (λ (h : Tally). length h.taken) popped.more.1.2 ∙ length-append start.taken xs in
    let m : length c.work_beside-owner.result.1.taken.items ≡ length c.args.mine.taken.items + length xs =
    ap length popped.more.1.1 ∙ length-append c.args.mine.taken.items xs in
    let n : length c.args.mine.taken.items ≡ 0 = ap length c.requires.mine.1 in (
      (λ stop. record {
        flavor = c.gather.ensures.same.1 ∙ popped.more.0.1 ∙ c.requires.flavors.0;
        part = omega (arith, a, b, d, c.requires.few);
        listed = omega (arith, t, u, m, n);
        from = c.args.mine.pass;
        goes = (popped.ended c.args.mine.pass c.requires.mine.0).goes stop;
      }),
      c.requires.bound,
    )

pub len_as-requires : goal.len_as-requires
len_as-requires g c =
    let popped = c.work_beside-owner.ensures.popped in
    let lanes = c.work_beside-owner.result.2.items in
    let later : List ℕ = flat_map (λ x. x.work.taken.items) lanes in
    let last = worker_view c.finish.new.owner in
    let s : Settled g.N.Bound.bound last (c.finish.new.mine.taken.items ++ later) =
    settled g.N.Bound.bound (length c.args.thieves.items) (length lanes) (worker_view c.args.owner) (worker_view c.work_beside-owner.result.0)
    (worker_view c.gather.new.owner) last c.work_beside-owner.result.1.taken.items c.finish.new.mine.taken.items later popped.more.1.0
    c.finish.ensures.tallies.1.0 c.requires.few c.work_beside-owner.ensures.ran.count c.requires.tally popped.more.1.2
    (popped.more.1.1 ∙ ap (λ z. z ++ popped.more.1.0) c.requires.mine.1) c.gather.ensures.tallies c.finish.ensures.tallies.1.2
    c.finish.ensures.tallies.1.1 in
    learns _ _ _ s.parts

pub returns-clause-did : goal.returns-clause-did
returns-clause-did g c =
    let l = c.args.linking.now in
    let is : c.insert.new.self.items ≡ done_by c.finish.new.mine ∷ map (λ x. done_by x.work) c.work_beside-owner.result.2.items =
    c.in-Ok.ensures.items ∙ all_workers c.finish.new.mine _ c.work_beside-owner.result.2.items _ c.finish_work.ensures
    (c.gather.ensures.workers ∙ ap (λ z. z ++ map (λ x. done_by x.work) c.work_beside-owner.result.2.items) c.requires.workers.0) in
    let done = Did {P = g.row.L-Pass.Denot} {E = g.row.L-Stop.Denot} (g.L.Linking.step l) (g.L.Linking.has l) in
    let ran = HasStolen {P = g.row.L-Pass.Denot} {E = g.row.L-Stop.Denot} (λ x. IsPassOf (stealer_deque c.args.thief) x.place) (g.L.Linking.step l)
    (g.L.Linking.has l) in
    let first = c.finish.ensures.did c.args.mine.pass (c.work_beside-owner.ensures.popped.ended c.args.mine.pass c.requires.mine.0) in
    subst (λ z. HaveWorked done (c.args.mine.pass ∷ map (λ x. x.work.pass) c.args.thieves.items) z) (sym is)
    (all_run ran done (λ x. x.work.pass) (λ x. done_by x.work) (λ a b r. r.did) c.args.mine.pass (done_by c.finish.new.mine) c.args.thieves.items
    c.work_beside-owner.result.2.items first c.work_beside-owner.ensures.ran)

pub returns-clause-below : goal.returns-clause-below
returns-clause-below g c =
    let popped = c.work_beside-owner.ensures.popped in
    let lanes = c.work_beside-owner.result.2.items in
    let later : List ℕ = flat_map (λ x. x.work.taken.items) lanes in
    let last = worker_view c.finish.new.owner in
    let s : Settled g.N.Bound.bound last (c.finish.new.mine.taken.items ++ later) =
    settled g.N.Bound.bound (length c.args.thieves.items) (length lanes) (worker_view c.args.owner) (worker_view c.work_beside-owner.result.0)
    (worker_view c.gather.new.owner) last c.work_beside-owner.result.1.taken.items c.finish.new.mine.taken.items later popped.more.1.0
    c.finish.ensures.tallies.1.0 c.requires.few c.work_beside-owner.ensures.ran.count c.requires.tally popped.more.1.2
    (popped.more.1.1 ∙ ap (λ z. z ++ popped.more.1.0) c.requires.mine.1) c.gather.ensures.tallies c.finish.ensures.tallies.1.2
    c.finish.ensures.tallies.1.1 in
    let is : c.insert.new.self.items ≡ done_by c.finish.new.mine ∷ map (λ x. done_by x.work) c.work_beside-owner.result.2.items =
    c.in-Ok.ensures.items ∙ all_workers c.finish.new.mine _ c.work_beside-owner.result.2.items _ c.finish_work.ensures
    (c.gather.ensures.workers ∙ ap (λ z. z ++ map (λ x. done_by x.work) c.work_beside-owner.result.2.items) c.requires.workers.0) in
    let all : all_taken c.insert.new.self.items ≡ c.finish.new.mine.taken.items ++ later =
    ap all_taken is ∙ taken_by_all (done_by c.finish.new.mine) lanes in
    subst (λ z. All (λ x. x < g.N.Bound.bound) z) (sym all)
    (below_all g.N.Bound.bound last _ s c.len_as.ensures.rule.0 c.len_as.ensures.rule.2)

pub returns-clause-once : goal.returns-clause-once
returns-clause-once g c = λ x.
    let popped = c.work_beside-owner.ensures.popped in
    let lanes = c.work_beside-owner.result.2.items in
    let later : List ℕ = flat_map (λ x. x.work.taken.items) lanes in
    let last = worker_view c.finish.new.owner in
    let s : Settled g.N.Bound.bound last (c.finish.new.mine.taken.items ++ later) =
    settled g.N.Bound.bound (length c.args.thieves.items) (length lanes) (worker_view c.args.owner) (worker_view c.work_beside-owner.result.0)
    (worker_view c.gather.new.owner) last c.work_beside-owner.result.1.taken.items c.finish.new.mine.taken.items later popped.more.1.0
    c.finish.ensures.tallies.1.0 c.requires.few c.work_beside-owner.ensures.ran.count c.requires.tally popped.more.1.2
    (popped.more.1.1 ∙ ap (λ z. z ++ popped.more.1.0) c.requires.mine.1) c.gather.ensures.tallies c.finish.ensures.tallies.1.2
    c.finish.ensures.tallies.1.1 in
    let is : c.insert.new.self.items ≡ done_by c.finish.new.mine ∷ map (λ x. done_by x.work) c.work_beside-owner.result.2.items =
    c.in-Ok.ensures.items ∙ all_workers c.finish.new.mine _ c.work_beside-owner.result.2.items _ c.finish_work.ensures
    (c.gather.ensures.workers ∙ ap (λ z. z ++ map (λ x. done_by x.work) c.work_beside-owner.result.2.items) c.requires.workers.0) in
    let all : all_taken c.insert.new.self.items ≡ c.finish.new.mine.taken.items ++ later =
    ap all_taken is ∙ taken_by_all (done_by c.finish.new.mine) lanes in
    subst (λ z. times x z ≤ 1) (sym all) (once_all g.N.Bound.bound last _ s c.len_as.ensures.rule.0 c.len_as.ensures.rule.2 x)

pub returns-clause-every : goal.returns-clause-every
returns-clause-every g c = λ none x h.
    let popped = c.work_beside-owner.ensures.popped in
    let lanes = c.work_beside-owner.result.2.items in
    let later : List ℕ = flat_map (λ x. x.work.taken.items) lanes in
    let last = worker_view c.finish.new.owner in
    let s : Settled g.N.Bound.bound last (c.finish.new.mine.taken.items ++ later) =
    settled g.N.Bound.bound (length c.args.thieves.items) (length lanes) (worker_view c.args.owner) (worker_view c.work_beside-owner.result.0)
    (worker_view c.gather.new.owner) last c.work_beside-owner.result.1.taken.items c.finish.new.mine.taken.items later popped.more.1.0
    c.finish.ensures.tallies.1.0 c.requires.few c.work_beside-owner.ensures.ran.count c.requires.tally popped.more.1.2
    (popped.more.1.1 ∙ ap (λ z. z ++ popped.more.1.0) c.requires.mine.1) c.gather.ensures.tallies c.finish.ensures.tallies.1.2
    c.finish.ensures.tallies.1.1 in
    let is : c.insert.new.self.items ≡ done_by c.finish.new.mine ∷ map (λ x. done_by x.work) c.work_beside-owner.result.2.items =
    c.in-Ok.ensures.items ∙ all_workers c.finish.new.mine _ c.work_beside-owner.result.2.items _ c.finish_work.ensures
    (c.gather.ensures.workers ∙ ap (λ z. z ++ map (λ x. done_by x.work) c.work_beside-owner.result.2.items) c.requires.workers.0) in
    let all : all_taken c.insert.new.self.items ≡ c.finish.new.mine.taken.items ++ later =
    ap all_taken is ∙ taken_by_all (done_by c.finish.new.mine) lanes in
    let mine_none = subst (λ z. NoneStopped z) is none 0 (done_by c.finish.new.mine) (omega arith) in
    subst (λ z. times x z ≡ 1) (sym all) (every_all g.N.Bound.bound last _ s (c.finish.ensures.none_left mine_none) x h)
