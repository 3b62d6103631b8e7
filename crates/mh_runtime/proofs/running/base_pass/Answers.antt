use Rattle.std.proofs.Common.{◌<◌, ℕ, arith}
use Rattle.mh_runtime.proofs.workers.BaseRuns.{base-first, base-prelinked, named-of, worker-full, worker-no-slot, worker-stop}
use Rattle.mh_runtime.proofs.running.base_pass.Goals as goal

pub returns-then-prelinking-eq0-clause-base : goal.returns-then-prelinking-eq0-clause-base
returns-then-prelinking-eq0-clause-base g c =
    base-first g.J.Run.given c.args.prelinking.now.linker.now c.args.prelinking.now.constants.now c.args.prelinking.now.plan.now
    c.args.prelinking.now.workers c.args.pass c.if-prelinking-eq0.true c.requires.pass

pub returns-in-Some-clause-stop : goal.returns-in-Some-clause-stop
returns-in-Some-clause-stop g c =
    let some : 0 < c.args.prelinking.now.workers = omega (arith, c.if-prelinking-eq0.false) in
    worker-stop g.J.Run.given c.args.prelinking.now.linker.now c.args.prelinking.now.constants.now c.args.prelinking.now.plan.now
    c.args.prelinking.now.workers c.in_ok-prelinked.prelinked some c.in_ok-prelinked.ensures c.in-Some.lowest c.in-Some.is

pub returns-in-Some-clause-full : goal.returns-in-Some-clause-full
returns-in-Some-clause-full g c =
    let some : 0 < c.args.prelinking.now.workers = omega (arith, c.if-prelinking-eq0.false) in
    worker-full g.J.Run.given c.args.prelinking.now.linker.now c.args.prelinking.now.constants.now c.args.prelinking.now.plan.now
    c.args.prelinking.now.workers c.in_ok-prelinked.prelinked some c.in_ok-prelinked.ensures c.in-Some.lowest c.in-Some.is
    (named-of g.J.Run.given c.requires.constants) c.in_ok-settled.ensures.settled ℕ

pub returns-in-Some-clause-no_slot : goal.returns-in-Some-clause-no_slot
returns-in-Some-clause-no_slot g c =
    let some : 0 < c.args.prelinking.now.workers = omega (arith, c.if-prelinking-eq0.false) in
    worker-no-slot g.J.Run.given c.args.prelinking.now.linker.now c.args.prelinking.now.constants.now c.args.prelinking.now.plan.now
    c.args.prelinking.now.workers c.in_ok-prelinked.prelinked some c.in_ok-prelinked.ensures c.in-Some.lowest c.in-Some.is
    (named-of g.J.Run.given c.requires.constants) c.in_ok-settled.ensures.settled ℕ

pub returns-clause-base : goal.returns-clause-base
returns-clause-base g c =
    let some : 0 < c.args.prelinking.now.workers = omega (arith, c.if-prelinking-eq0.false) in
    base-prelinked g.J.Run.given c.args.prelinking.now.linker.now c.args.prelinking.now.constants.now c.args.prelinking.now.plan.now
    c.args.prelinking.now.workers c.in_ok-prelinked.prelinked some c.in_ok-prelinked.ensures c.in_default.is
