use Rattle.std.proofs.Common.{◌≡◌, ◌∙◌, sym, ap, ap₂, ◌∷◌, ◌++◌, [], Some}
use Rattle.std.specs.Prelude.{slice_get}
use Rattle.mh_condy.specs.Depths.{over_names}
use Rattle.mh_condy.proofs.Rounds.{next-depth}
use Rattle.mh_condy.proofs.depths.one_deeper.Goals as goal

pub loop-c-preserved : goal.loop-c-preserved
loop-c-preserved c =
    let at : slice_get c.args.jobs.now c.loop-c.c ≡ Some c.get-job.result.now =
    ap (λ n. slice_get c.args.jobs.now n) (sym c.in_ok-number.ensures) ∙ c.get-job.ensures.job in
    c.in_ok-push.ensures.items
    ∙ (ap₂ (λ ns n. ns ++ n ∷ []) c.loop-c.invariant (c.over_names.ensures ∙ ap (λ names. over_names c.args.depths.now names) c.as_slice.ensures)
    ∙ sym (next-depth c.args.depths.now c.args.jobs.now c.loop-c.c c.get-job.result.now at))
