use Rattle.std.proofs.Common.{◌≡◌, ◌∙◌, sym, ap, ◌++◌, codes, append_assoc, arith}
use Rattle.std.proofs.lemmas.List.{append-nil}
use Rattle.mh_generated.specs.Counts.{calls_of_thread}
use Rattle.mh_generated.specs.Plan.{call_text, calls_text, thread_text}
use Rattle.mh_generated.proofs.Counting.{calls_text_more, calls_text_none}
use Rattle.mh_generated.proofs.plan.push_thread.Goals as goal

pub loop-call-init : goal.loop-call-init
loop-call-init c = rw (calls_text_none c.args.sites c.args.thread) (sym (append-nil c.extend_from_slice.new.self.items))

pub loop-call-preserved : goal.loop-call-preserved
loop-call-preserved c =
    let front = c.extend_from_slice.new.self.items in
    let sites = c.args.sites in
    let thread = c.args.thread in
    let call = c.loop-call.call in
    c.in_ok-push_call.ensures ∙ ap (λ t. t ++ call_text sites thread call) c.loop-call.invariant
    ∙ append_assoc front (calls_text sites thread call) (call_text sites thread call)
    ∙ ap (λ t. front ++ t) (sym (calls_text_more sites thread call))

pub returns : goal.returns
unfolding thread_text
returns c =
    let last : c.loop-call.call ≡ calls_of_thread = omega arith in
    c.loop-call.invariant ∙ ap (λ n. c.extend_from_slice.new.self.items ++ calls_text c.args.sites c.args.thread n) last
    ∙ ap (λ t. t ++ calls_text c.args.sites c.args.thread calls_of_thread) c.in_ok-extend_from_slice.ensures.items
    ∙ append_assoc c.args.text.now.items (codes "thread\n") (calls_text c.args.sites c.args.thread calls_of_thread)
