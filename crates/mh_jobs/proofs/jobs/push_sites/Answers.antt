use Rattle.std.proofs.Common.{◌≡◌, sym, subst, ap, ◌∙◌, ◌+◌, List, [], ◌∷◌, ◌++◌, length}
use Rattle.mh_values.specs.declared.class.Class.{Class}
use Rattle.mh_jobs.specs.declared.job.Job.{Job}
use Rattle.mh_jobs.specs.Sites.{site_job}
use Rattle.mh_jobs.specs.Types.{AreTypes}
use Rattle.mh_jobs.proofs.Numbering.{AreMade, more_after, next_made}
use Rattle.mh_jobs.proofs.jobs.push_sites.Goals as goal

pub loop-k-preserved : goal.loop-k-preserved
loop-k-preserved c =
    let leaves = c.args.from.now.leaves.now in
    let scripts = c.args.from.now.scripts.now in
    let class = c.args.from.now.view.now in
    let first = c.args.from.now.first in
    let all = c.loop-k.jobs in
    let site = c.site-site.result in
    let number : c.in_ok-number.number ≡ length all = c.in_ok-number.ensures ∙ c.len.ensures in
    let made = c.in_ok-job.ensures ∙ ap (λ n. site_job leaves scripts class first n site) number in
    let pushed = c.in_ok-push.ensures.ok ∙ ap (λ (job : Job). all ++ job ∷ []) made in
    let next = next_made leaves scripts class first c.args.jobs.now all c.loop-k.k site c.loop-k.invariant.0 c.site-site.ensures in (
      subst (λ (jobs : List Job). AreMade leaves scripts class first c.args.jobs.now (c.loop-k.k + 1) jobs) (sym pushed) next,
      more_after c.args.jobs.now all _ _ c.loop-k.invariant.1 c.in_ok-push.ensures.ok,
      subst (λ (classes : List Class). AreTypes classes c.in_ok-others.others) c.classes.ensures c.in_ok-others.ensures.types,
    )
