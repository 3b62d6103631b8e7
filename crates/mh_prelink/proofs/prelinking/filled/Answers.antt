use Rattle.std.proofs.Common.{◌≡◌, ◌∙◌, ap, arith, ℕ, List, [], ◌∷◌, ◌++◌, length}
use Rattle.std.proofs.lemmas.List.FromFn.{length-range_with_len}
use Rattle.crossbeam_deque.specs.Handles.{worker_view}
use Rattle.mh_prelink.specs.declared.tally.Tally.{Tally}
use Rattle.mh_prelink.specs.Tallies.{tally, whole}
use Rattle.mh_prelink.proofs.Balance.{begins, puts}
use Rattle.mh_prelink.proofs.Counting.{range_next}
use Rattle.mh_prelink.proofs.prelinking.filled.Goals as goal

pub fifo_as-requires : goal.fifo_as-requires
fifo_as-requires g c = begins g.N.Bound.bound

pub push_as-requires-clause-pushes : goal.push_as-requires-clause-pushes
push_as-requires-clause-pushes g c =
    let i = c.loop-number.invariant in
    let e : length (worker_view c.loop-number.owner).put ≡ c.loop-number.number =
    ap (λ (v : Tally). length v.put) i.view ∙ length-range_with_len 0 c.loop-number.number in
    puts _ _ _ _ (ap (λ (v : Tally). v.parts) i.view) (omega (arith, c.requires.named, c.loop-number-test.true, e))
    (omega (arith, c.requires.named, c.loop-number-test.true))

pub loop-number-preserved : goal.loop-number-preserved
loop-number-preserved g c =
    let i = c.loop-number.invariant in
    let n : ℕ = c.loop-number.number in
    let same = c.push_as.ensures.same in
    let pushed = c.in-Ok.ensures.rule in
    record {
      flavor = same.1 ∙ i.flavor;
      view = pushed.0 ∙ ap (λ (h : Tally). tally h.parts (h.put ++ n ∷ []) h.taken) i.view ∙ ap (λ (l : List ℕ). tally whole l []) (range_next n);
      index = omega (arith, pushed.1, i.index);
      room = omega (arith, same.3, i.room);
    }
