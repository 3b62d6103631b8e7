use Rattle.std.proofs.Common.{◌≡◌, refl, sym, ◌∙◌, ap, ap₂, subst, ℕ, suc, ◌+◌, ◌≤◌, List, [], length, map, replicate, arith, rules}
use Rattle.std.specs.Prelude.{slice_index}
use Rattle.std.proofs.lemmas.Bool.Decides.{Decides-eqb}
use Rattle.std.proofs.lemmas.Slice.Eq.{slice_eq-Decides}
use Rattle.mh_jobs.specs.declared.constants.ConstJob.{ConstJob}
use Rattle.mh_link.specs.Named.{Constants}
use Rattle.mh_condy.specs.Depths.{AreDepthsWithin, over_names}
use Rattle.mh_condy.proofs.Rounds.{deeper, none-above, round-all, round-early, round-more, round-none}
use Rattle.mh_condy.proofs.depths.depths.Goals as goal

pub loop-round-init : goal.loop-round-init
loop-round-init c run same =
    let none : c.in_ok-depths.depths.items ≡ replicate (length c.args.jobs.now) 0 = search (rules, c.in_ok-depths.ensures.items_if_clones_equal) in
    subst (AreDepthsWithin run 0) (sym (none ∙ ap (λ (js : List ConstJob). replicate (length js) 0) same)) (round-none run)

pub one_deeper-requires : goal.one_deeper-requires
one_deeper-requires c d =
    let run : Constants = record { leaves = record { classes = []; leaves = [] }; scripts = []; jobs = c.args.jobs.now } in
    let low = c.loop-round-test.true in
    subst (λ (ds : List ℕ). slice_index ds d ≤ 64) (sym c.deref.ensures.value)
    (none-above run c.loop-round._round c.loop-round.depths.items (omega (arith, low)) (c.loop-round.invariant run refl) d)

pub returns-then-eq : goal.returns-then-eq
returns-then-eq c run same =
    let low = c.loop-round-test.true in
    let equal = (slice_eq-Decides Decides-eqb c.as_slice.result.now c.as_slice-in-loop-round.result.now c.eq.result c.eq.ensures).0 c.if-eq.true in
    let next : deeper run c.loop-round.depths.items ≡ c.in_ok-next.next.items =
    sym (c.in_ok-next.ensures
    ∙ ap₂ (λ (ds : List ℕ) (js : List ConstJob). map (λ (job : ConstJob). over_names ds job.names) js) c.deref.ensures.value same) in
    round-early run c.loop-round._round c.loop-round.depths.items (omega (arith, low))
    (next ∙ (sym c.as_slice.ensures.value ∙ (equal ∙ c.as_slice-in-loop-round.ensures.value))) (c.loop-round.invariant run same)

pub loop-round-preserved : goal.loop-round-preserved
loop-round-preserved c run same =
    subst (λ (n : ℕ). AreDepthsWithin run n c.in_ok-next.next.items) (let e : suc c.loop-round._round ≡ c.loop-round._round + 1 = omega arith in e)
    (subst (λ (ds : List ℕ). AreDepthsWithin run (suc c.loop-round._round) ds)
    (sym (c.in_ok-next.ensures
    ∙ ap₂ (λ (ds : List ℕ) (js : List ConstJob). map (λ (job : ConstJob). over_names ds job.names) js) c.deref.ensures.value same))
    (round-more run c.loop-round._round c.loop-round.depths.items (c.loop-round.invariant run same)))

pub returns : goal.returns
returns c run same =
    let last : c.loop-round._round ≡ 64 = let high = c.loop-round-test.false in let low = c.loop-round.auto._round-end in omega (arith, high, low) in
    round-all run c.loop-round.depths.items (subst (λ (n : ℕ). AreDepthsWithin run n c.loop-round.depths.items) last (c.loop-round.invariant run same))
