use Rattle.std.proofs.Common.{◌<◌, ◌≡◌, ◌≤◌, List, get_or, length, subst}
use Rattle.mh_jobs.specs.declared.job.Argument.{Argument}
use Rattle.mh_link.specs.Operands.{content, no_argument}
use Rattle.mh_attempt.specs.Registers.{IsContent}
use Rattle.mh_script.specs.declared.operand.Register.TheVariants as register
use Rattle.mh_attempt.proofs.assigned.RegisterContents.{argument-content, argument-none}
use Rattle.mh_attempt.proofs.nodes.Telling.{throws-tells-by}
use Rattle.mh_attempt.proofs.registers.Registers.argument.Goals as goal

pub returns-in_ok-held-in-Some-clause-holds : goal.returns-in_ok-held-in-Some-clause-holds
returns-in_ok-held-in-Some-clause-holds c leaves frame hold =
    let n = c.args.number in
    let a = c.in-Some.argument.now in
    argument-content leaves c.args.self.now frame hold n a c.in_ok-held-in-Some.held
    (subst (λ (xs : List Argument). n < length xs) c.as_slice.ensures c.in-Some.ensures.lookup.3.0)
    (subst (λ (xs : List Argument). (d : Argument) → a ≡ get_or xs n d) c.as_slice.ensures c.in-Some.ensures.lookup.3.1)
    (c.in_ok-held-in-Some.ensures.holds leaves)

pub returns-in-None-clause-holds : goal.returns-in-None-clause-holds
returns-in-None-clause-holds c leaves frame hold =
    let n = c.args.number in
    throws-tells-by (IsContent leaves) c.no_argument.result no_argument (content frame (register.Argument n))
    (argument-none leaves c.args.self.now frame hold n
    (subst (λ (xs : List Argument). length xs ≤ n) c.as_slice.ensures c.in-None.ensures.lookup.3)) c.no_argument.ensures

pub returns-in_ok-held-in-Some-clause-kept : goal.returns-in_ok-held-in-Some-clause-kept
returns-in_ok-held-in-Some-clause-kept c seat = c.in_ok-held-in-Some.ensures.kept seat
