use Rattle.std.proofs.Common.{◌≡◌, sym, subst, ◌<◌, length, Some, true, arith, rules}
use Rattle.std.proofs.lemmas.Option.{slice_get_read}
use Rattle.mh_condy.specs.Nodes.{node_in}
use Rattle.mh_condy.specs.Recorded.{ConstView}
use Rattle.mh_drawn.proofs.OwnConstants.{put-all, put-more, put-none}
use Rattle.mh_drawn.proofs.constants.settle.Goals as goal

pub loop-c-init : goal.loop-c-init
loop-c-init g c = put-none c.args.pass.now

pub loop-c-preserved : goal.loop-c-preserved
loop-c-preserved g c =
    let known = c.args.pass.now.known in
    let own = c.in_ok-own.own.items in
    let number : c.in_ok-number.number ≡ c.loop-c.c = search rules in
    let inside : c.loop-c.c < length g.J.ConstRun.run.jobs = omega (arith, c.constants-c-end.ensures.constants, c.loop-c-test.true) in
    put-more c.args.pass.now own c.loop-c.c c.index.result.now c.in_ok-own.ensures.own
    (slice_get_read own (length g.J.ConstRun.run.jobs) c.loop-c.c c.index.result.now (sym c.in_ok-own.ensures.count) inside c.index.ensures)
    (subst (λ k. (node : ConstView) → node_in known k ≡ Some node → c.index.result.now ≡ true) number c.settle_constant.ensures)
    c.loop-c.invariant

pub returns-clause-put : goal.returns-clause-put
returns-clause-put g c =
    put-all c.args.pass.now c.loop-c.c (omega (arith, c.constants-c-end.ensures.constants, c.constants-c-end.ensures.known, c.loop-c-test.false))
    c.loop-c.invariant
