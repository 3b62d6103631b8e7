use Rattle.std.proofs.Common.{◌≡◌, ◌<◌, ◌∙◌, sym, ap, ap₂, subst, [], ◌∷◌, ◌++◌}
use Rattle.std.proofs.lemmas.Option.{slice_get_within}
use Rattle.mh_condy.specs.declared.pass.ConstAttempt.{ConstAttempt}
use Rattle.mh_condy.specs.Passes.{attempt_of}
use Rattle.mh_condy.proofs.Passes.{pass-learns, pass-records}
use Rattle.mh_condy.proofs.PassSteps.{records-mine, records-theirs}
use Rattle.mh_condy.proofs.pass.ConstPass.record.Given as given
use Rattle.mh_condy.proofs.pass.ConstPass.record.Goals.{After-push_reserved}
use Rattle.mh_condy.proofs.pass.ConstPass.record.Goals as goal

-- the attempt that made it
made : (g : given.Over) (c : After-push_reserved g) → ConstAttempt
made g c = record { thread = c.self.inside.thread; constant = c.number.result; serial = c.serial.result }

made-is : (g : given.Over) (c : After-push_reserved g) → made g c ≡ attempt_of c.self.inside.thread c.args.made
unfolding made
made-is g c = ap₂ (λ s n. record { thread = c.self.inside.thread; constant = s; serial = n }) c.number.ensures c.serial.ensures

pub invariant_of-self-in-Ok-Mine : goal.invariant_of-self-in-Ok-Mine
unfolding made
invariant_of-self-in-Ok-Mine g c =
    let put = rw c.in-Ok-Mine.field-0-is at c.in-Ok-Mine.ensures.put in
    pass-records g.J.ConstRun.run c.self.inside.known.values c.put.new.self.values c.self.inside.attempts.items c.self.inside.recorded.items
    c.put.ensures.learns.keeps c.self.invariant c.self.inside.thread c.args.made (made g c) c.push_reserved.new.self.items
    (rw (← c.self.view_is) at c.requires.attempted) put.1 (rw (← c.self.view_is) at c.requires.under) (made-is g c)
    (c.push_reserved.ensures.items ∙ ap (λ xs. xs ++ made g c ∷ []) c.reserve.ensures.items)

pub invariant_of-self-in-Ok-Theirs : goal.invariant_of-self-in-Ok-Theirs
invariant_of-self-in-Ok-Theirs g c = rw c.reserve.ensures.items
    (pass-learns g.J.ConstRun.run c.self.inside.known.values c.put.new.self.values c.self.inside.attempts.items c.self.inside.recorded.items
    c.put.ensures.learns.keeps c.self.invariant)

pub invariant_of-self-in-Err : goal.invariant_of-self-in-Err
invariant_of-self-in-Err g c = rw c.reserve.ensures.items
    (pass-learns g.J.ConstRun.run c.self.inside.known.values c.put.new.self.values c.self.inside.attempts.items c.self.inside.recorded.items
    c.put.ensures.learns.keeps c.self.invariant)

pub returns-in-Ok-Mine-clause-records : goal.returns-in-Ok-Mine-clause-records
unfolding made
returns-in-Ok-Mine-clause-records g c =
    let put = rw c.in-Ok-Mine.field-0-is at c.in-Ok-Mine.ensures.put in
    let within = slice_get_within g.J.ConstRun.run.jobs c.args.made.job.number c.args.made.job c.job-job.ensures.named in
    rw (← c.self.view_is)
    (records-mine c.self.inside.thread c.self.inside.known c.put.new.self c.self.inside.attempts.items c.self.inside.recorded.items c.self.inside.seat
    c.push_reserved.new.self.items c.args.made c.in-Ok-Mine.node.now c.put.ensures.cells c.put.ensures.learns put.0 put.1
    (subst (λ n. c.args.made.job.number < n) (sym c.len-count.ensures.values) within)
    (c.push_reserved.ensures.items ∙ ap₂ (λ xs a. xs ++ a ∷ []) c.reserve.ensures.items (made-is g c)))

pub returns-in-Ok-Theirs-clause-records : goal.returns-in-Ok-Theirs-clause-records
returns-in-Ok-Theirs-clause-records g c =
    let put = rw c.in-Ok-Theirs.field-0-is at c.in-Ok-Theirs.ensures.put in
    let within = slice_get_within g.J.ConstRun.run.jobs c.args.made.job.number c.args.made.job c.job-job.ensures.named in
    rw (← c.self.view_is)
    (records-theirs c.self.inside.thread c.self.inside.known c.put.new.self c.self.inside.attempts.items c.self.inside.recorded.items c.self.inside.seat
    c.reserve.new.self.items c.args.made c.in-Ok-Theirs.node.now c.put.ensures.cells c.put.ensures.learns (rw (← c.self.view_is) at c.requires.new) put
    (subst (λ n. c.args.made.job.number < n) (sym c.len-count.ensures.values) within) c.reserve.ensures.items)
