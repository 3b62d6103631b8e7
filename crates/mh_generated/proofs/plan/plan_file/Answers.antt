use Rattle.std.proofs.Common.{◌≡◌, ◌∙◌, sym, ap, ◌++◌, arith}
use Rattle.mh_generated.specs.Counts.{thread_count}
use Rattle.mh_generated.specs.Plan.{generated_plan, thread_text, threads_text}
use Rattle.mh_generated.proofs.Counting.{threads_text_more, threads_text_none}
use Rattle.mh_generated.proofs.plan.plan_file.Goals as goal

pub loop-thread-init : goal.loop-thread-init
loop-thread-init c = c.new-text.ensures.items ∙ sym (threads_text_none c.site_count-sites.result)

pub loop-thread-preserved : goal.loop-thread-preserved
loop-thread-preserved c =
    let sites = c.site_count-sites.result in
    let thread = c.loop-thread.thread in
    c.in_ok-push_thread.ensures ∙ ap (λ t. t ++ thread_text sites thread) c.loop-thread.invariant ∙ sym (threads_text_more sites thread)

pub returns : goal.returns
unfolding generated_plan
returns c =
    let last : c.loop-thread.thread ≡ thread_count c.args.number = omega arith in
    c.loop-thread.invariant ∙ ap (λ n. threads_text c.site_count-sites.result n) last
    ∙ ap (λ sites. threads_text sites (thread_count c.args.number)) c.site_count-sites.ensures.count
