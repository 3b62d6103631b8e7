use Rattle.std.proofs.Common.{◌≡◌, sym, subst, ap, ◌∙◌, ◌+◌, ℕ, List, [], ◌∷◌, ◌++◌, length, arith}
use Rattle.mh_jobs.specs.declared.constants.ConstJob.{ConstJob}
use Rattle.mh_jobs.specs.Constants.{const_job}
use Rattle.mh_jobs.proofs.NumberedOn.{AreMade, next_made}
use Rattle.mh_jobs.proofs.const_jobs.push_constants.Goals as goal

pub loop-d-preserved : goal.loop-d-preserved
loop-d-preserved c =
    let leaves = c.args.from.now.leaves.now in
    let scripts = c.args.from.now.scripts.now in
    let class = c.args.from.now.view.now in
    let before = c.args.constants.now in
    let all = c.loop-d.constants in
    let d = c.dynamic-dynamic.result in
    let first : c.args.from.now.first ≡ length before = c.requires.first in
    let number : c.args.from.now.first + c.from.result ≡ length all = omega (arith, first, c.loop-d.invariant.count, c.from.ensures) in
    let made =
    c.in_ok-job.ensures ∙ ap (λ (n : ℕ). const_job leaves scripts class n (c.args.from.now.first + c.from.result) d) first
    ∙ ap (λ (n : ℕ). const_job leaves scripts class (length before) n d) number in
    let pushed = c.in_ok-push.ensures.ok ∙ ap (λ (job : ConstJob). all ++ job ∷ []) made in
    subst (λ (jobs : List ConstJob). AreMade leaves scripts class before (c.loop-d.d + 1) jobs) (sym pushed)
    (next_made leaves scripts class before all c.loop-d.d d c.loop-d.invariant c.dynamic-dynamic.ensures)
