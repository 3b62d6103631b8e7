use Rattle.std.proofs.Common.{◌≡◌, sym, ◌∙◌, ap, subst, suc, ◌+◌, ◌<◌, ◌≤◌, List, [], ◌∷◌, ◌++◌, drop, length, take, Some, arith}
use Rattle.std.specs.Prelude.{slice_get}
use Rattle.std.proofs.lemmas.List.{take_all}
use Rattle.mh_jobs.specs.declared.unresolved.Part.{Part}
use Rattle.mh_jobs.specs.declared.unresolved.Part.TheVariants.{Known, Constant}
use Rattle.mh_link.specs.Depth.{depth, rank}
use Rattle.mh_condy.specs.Given.{AreUnder, HaveGiven}
use Rattle.mh_condy.specs.Nodes.{unknown}
use Rattle.mh_condy.specs.Passes.{Begins, PassView}
use Rattle.mh_condy.specs.Recorded.{outcome_of}
use Rattle.mh_condy.specs.Resolving.{DrawsFew, GoesOnResolving}
use Rattle.mh_condy.proofs.Asking.{called-made, ends-asked, given-all, given-error, given-known, given-none, given-same, given-value, unasked-made, value-left}
use Rattle.mh_condy.proofs.Drawing.{on-begins, on-both, on-none}
use Rattle.mh_condy.proofs.Ends.{attempted, ended-resolves, ended-unknown, few-begun, few-none, few-then, own-nodes, resolves-handed, resolves-seen, room-below, room-once}
use Rattle.mh_condy.proofs.Under.{no-depth, part-low, parts-next, parts-split, some-depth, under-at, under-named}
use Rattle.mh_condy.proofs.Unknown.{unknown-more}
use Rattle.mh_condy.proofs.resolving.+resolve.Goals.{arguments-in-Some+in_ok-node+in_ok-push+in_default-value, arguments-in_default}
use Rattle.mh_condy.proofs.resolving.+resolve.Goals as goal

-- ---- arguments

pub arguments-loop-at-init : goal.arguments-loop-at-init
arguments-loop-at-init g t c =
    let run = g.J.ConstRun.run in
    subst (λ fs. HaveGiven run c.args.under [] fs c.args.pass.now c.args.pass.now) (sym c.new-findings.ensures.items)
    (given-none run c.args.under c.args.pass.now (own-nodes run c.args.pass.now c.told.ensures) c.requires.room)

pub arguments-resolve-requires : goal.arguments-resolve-requires
arguments-resolve-requires g t c =
    let run = g.J.ConstRun.run in
    let parts : List Part = c.args.arguments.now.parts in
    let at : slice_get parts c.loop-at.at ≡ Some (Constant c.in-Some.c) =
    ap (λ ps. slice_get ps c.loop-at.at) (sym c.as_slice-parts.ensures) ∙ c.in-Some.ensures in
    let low = under-at run c.args.under parts c.loop-at.at c.in-Some.c c.requires.under at in
    let less : rank run c.in-Some.c < c.args.under = low.0 in
    let more = unknown-more (rank run) (suc (rank run c.in-Some.c)) c.args.under c.loop-at.pass.known less in
    let room = c.loop-at.invariant.room in
    λ κs lives. (
      omega (arith, less, c.decreases),
      (lives.0, (lives.1, (c.loop-at.invariant.on.table ∙ c.requires.pass, (low.1, omega (arith, more, room))))),
    )

pub arguments-returns-in_err-node-clause-goes_on : goal.arguments-returns-in_err-node-clause-goes_on
arguments-returns-in_err-node-clause-goes_on g t c =
    on-both c.args.pass.now c.loop-at.pass c.resolve.new.pass c.loop-at.invariant.on c.resolve.ensures.resolves.goes_on

pub arguments-returns-in_err-push-clause-goes_on : goal.arguments-returns-in_err-push-clause-goes_on
arguments-returns-in_err-push-clause-goes_on g t c =
    on-both c.args.pass.now c.loop-at.pass c.resolve.new.pass c.loop-at.invariant.on c.resolve.ensures.resolves.goes_on

pub arguments-returns-in-Error-clause-goes_on : goal.arguments-returns-in-Error-clause-goes_on
arguments-returns-in-Error-clause-goes_on g t c =
    on-both c.args.pass.now c.loop-at.pass c.resolve.new.pass c.loop-at.invariant.on c.resolve.ensures.resolves.goes_on

pub arguments-returns-in-Error-clause-asked : goal.arguments-returns-in-Error-clause-asked
arguments-returns-in-Error-clause-asked g t c =
    let run = g.J.ConstRun.run in
    let parts : List Part = c.as_slice-parts.result.now in
    let at : slice_get parts c.loop-at.at ≡ Some (Constant c.in-Some.c) = c.in-Some.ensures in
    let split = sym c.as_slice-parts.ensures ∙ parts-split parts c.loop-at.at (Constant c.in-Some.c) at in
    ends-asked run c.args.arguments.now c.args.pass.now c.resolve.new.pass c.push.new.self.items (Some c.in-Error.exc) c.ended.result c.ended.ensures.findings
    c.ended.ensures.thrown
    (λ a found ends. given-error run c.args.under c.args.pass.now c.loop-at.pass (take c.loop-at.at parts) c.loop-at.findings.items c.loop-at.invariant
    c.in-Some.c c.resolve.new.pass c.in_ok-node.node.now c.in_ok-node.ensures.resolves.goes_on c.in_ok-node.ensures.resolves.goes
    c.in_ok-node.ensures.resolves.found c.args.arguments.now (drop (c.loop-at.at + 1) parts) a split
    (found ∙ (c.in_ok-push.ensures.items ∙ ap (λ f. c.loop-at.findings.items ++ f ∷ []) c.found.ensures)) c.in-Error.exc ends
    (sym c.value.ensures ∙ ap outcome_of c.in-Error.is))

pub arguments-loop-at-preserved : goal.arguments-loop-at-preserved
arguments-loop-at-preserved g t c =
    let run = g.J.ConstRun.run in
    let parts : List Part = c.as_slice-parts.result.now in
    elim c.match-constant_at.branch [
      | arguments-in-Some+in_ok-node+in_ok-push+in_default-value w ↦
          let at : slice_get parts c.loop-at.at ≡ Some (Constant w.in-Some.c) = w.in-Some.ensures in
          let low = under-at run c.args.under parts c.loop-at.at w.in-Some.c
          (subst (AreUnder run c.args.under) (sym c.as_slice-parts.ensures) c.requires.under) at in
          let value = value-left w.value.result.now w.in_default-value.not-Error in
          given-same run c.args.under _ _ _ _ c.args.pass.now _ _ (parts-next parts c.loop-at.at (Constant w.in-Some.c) at)
          (ap (λ fs. fs.items) w.findings-is ∙ (w.in_ok-push.ensures.items ∙ ap (λ f. c.loop-at.findings.items ++ f ∷ []) w.found.ensures)) w.pass-is
          (given-value run c.args.under c.args.pass.now c.loop-at.pass (take c.loop-at.at parts) c.loop-at.findings.items c.loop-at.invariant w.in-Some.c
          w.resolve.new.pass w.in_ok-node.node.now w.in_ok-node.ensures.resolves.goes_on w.in_ok-node.ensures.resolves.goes
          w.in_ok-node.ensures.resolves.found low.0 value.0 (sym w.value.ensures ∙ value.1))
      | arguments-in_default w ↦
          let at = w.in_default.ensures in
          given-same run c.args.under _ _ _ _ c.args.pass.now _ _ (parts-next parts c.loop-at.at (Known at.0) at.1)
          (ap (λ fs. fs.items) w.findings-is) w.pass-is
          (given-known run c.args.under c.args.pass.now c.loop-at.pass (take c.loop-at.at parts) c.loop-at.findings.items c.loop-at.invariant at.0)
    ]

pub arguments-returns-clause-asked : goal.arguments-returns-clause-asked
arguments-returns-clause-asked g t c =
    let run = g.J.ConstRun.run in
    let parts : List Part = c.as_slice-parts.result.now in
    ends-asked run c.args.arguments.now c.args.pass.now c.loop-at.pass c.loop-at.findings.items c.args.arguments.now.thrown c.given.result
    c.given.ensures.findings c.given.ensures.thrown
    (λ a found ends. given-all run c.args.under c.args.pass.now c.loop-at.pass (take c.loop-at.at parts) c.loop-at.findings.items c.loop-at.invariant
    c.args.arguments.now a (take_all c.loop-at.at parts c.loop-at-test.false ∙ c.as_slice-parts.ensures) found ends)

-- few serials are drawn, however the arguments end

pub arguments-returns-in_err-node-clause-few : goal.arguments-returns-in_err-node-clause-few
arguments-returns-in_err-node-clause-few g t c =
    few-then g.J.ConstRun.run c.args.under c.args.pass.now c.loop-at.pass c.resolve.new.pass c.in-Some.c
    (part-low g.J.ConstRun.run c.args.under c.args.arguments.now.parts c.as_slice-parts.result.now c.loop-at.at c.in-Some.c c.requires.under
    c.as_slice-parts.ensures c.in-Some.ensures) c.loop-at.invariant.drawn c.resolve.ensures.resolves.few

pub arguments-returns-in_err-push-clause-few : goal.arguments-returns-in_err-push-clause-few
arguments-returns-in_err-push-clause-few g t c =
    few-then g.J.ConstRun.run c.args.under c.args.pass.now c.loop-at.pass c.resolve.new.pass c.in-Some.c
    (part-low g.J.ConstRun.run c.args.under c.args.arguments.now.parts c.as_slice-parts.result.now c.loop-at.at c.in-Some.c c.requires.under
    c.as_slice-parts.ensures c.in-Some.ensures) c.loop-at.invariant.drawn c.resolve.ensures.resolves.few

pub arguments-returns-in-Error-clause-few : goal.arguments-returns-in-Error-clause-few
arguments-returns-in-Error-clause-few g t c =
    few-then g.J.ConstRun.run c.args.under c.args.pass.now c.loop-at.pass c.resolve.new.pass c.in-Some.c
    (part-low g.J.ConstRun.run c.args.under c.args.arguments.now.parts c.as_slice-parts.result.now c.loop-at.at c.in-Some.c c.requires.under
    c.as_slice-parts.ensures c.in-Some.ensures) c.loop-at.invariant.drawn c.resolve.ensures.resolves.few

pub arguments-returns-clause-few : goal.arguments-returns-clause-few
arguments-returns-clause-few g t c = let drawn = c.loop-at.invariant.drawn in omega (arith, drawn)

-- ---- attempt

pub attempt-without_depth-requires-clause-depth : goal.attempt-without_depth-requires-clause-depth
attempt-without_depth-requires-clause-depth g t c =
    let run = g.J.ConstRun.run in
    let zero : rank run c.args.c ≡ 0 = sym c.depth-depth.ensures ∙ c.if-depth-eq0.true in
    ap (λ d. depth run d) c.job.ensures.number ∙ no-depth run c.args.c zero

pub attempt-returns-then-depth-eq0-clause-goes_on : goal.attempt-returns-then-depth-eq0-clause-goes_on
attempt-returns-then-depth-eq0-clause-goes_on g t c = on-none c.args.pass.now

pub attempt-returns-then-depth-eq0-clause-made : goal.attempt-returns-then-depth-eq0-clause-made
attempt-returns-then-depth-eq0-clause-made g t c =
    unasked-made g.J.ConstRun.run c.args.c c.args.serial c.job.result.now c.args.pass.now (own-nodes g.J.ConstRun.run c.args.pass.now c.told-2.ensures)
    c.job.ensures.number c.without_depth.result c.without_depth.ensures.made c.without_depth.ensures.under

pub attempt-returns-in-Err-clause-goes_on : goal.attempt-returns-in-Err-clause-goes_on
attempt-returns-in-Err-clause-goes_on g t c = on-none c.args.pass.now

pub attempt-returns-in-Err-clause-made : goal.attempt-returns-in-Err-clause-made
attempt-returns-in-Err-clause-made g t c =
    unasked-made g.J.ConstRun.run c.args.c c.args.serial c.job.result.now c.args.pass.now (own-nodes g.J.ConstRun.run c.args.pass.now c.told-2.ensures)
    c.job.ensures.number c.uncalled.result c.uncalled.ensures.made c.uncalled.ensures.under

pub attempt-arguments-requires : goal.attempt-arguments-requires
attempt-arguments-requires g t c =
    let run = g.J.ConstRun.run in
    let deep = c.depth-depth.ensures in
    let some = c.if-depth-eq0.false in
    let is = c.told.ensures.each c.args.c c.job.result.now c.job.ensures.job in
    let low : AreUnder run (rank run c.args.c) c.in-Ok.call.arguments.parts =
    under-named run c.args.c (rank run c.args.c) (some-depth run c.args.c (omega (arith, deep, some))) c.job.result.now c.job.ensures.job is.places
    c.in-Ok.call.arguments.parts (is.names c.in-Ok.call c.in-Ok.is) in
    let under : AreUnder run c.depth-depth.result c.in-Ok.call.arguments.parts =
    subst (λ n. AreUnder run n c.in-Ok.call.arguments.parts) (sym deep) low in
    let room : unknown (rank run) c.depth-depth.result c.args.pass.now.known ≤ c.args.pass.now.seat.room =
    subst (λ n. unknown (rank run) n c.args.pass.now.known ≤ c.args.pass.now.seat.room) (sym deep) c.requires.room in
    λ κs lives. (omega (arith, deep, c.decreases), (lives.0, (lives.1, (c.requires.pass, (under, room)))))

pub attempt-returns-in_ok-asked-in-Ok-clause-made : goal.attempt-returns-in_ok-asked-in-Ok-clause-made
attempt-returns-in_ok-asked-in-Ok-clause-made g t c =
    called-made g.J.ConstRun.run c.args.c c.args.serial c.job.result.now c.args.pass.now c.arguments.new.pass c.in-Ok.call.arguments
    c.in_ok-asked-in-Ok.asked c.in_ok-asked-in-Ok.ensures.asked c.job.ensures.number c.called.result c.called.ensures.made c.called.ensures.under

pub attempt-returns-then-depth-eq0-clause-few : goal.attempt-returns-then-depth-eq0-clause-few
attempt-returns-then-depth-eq0-clause-few g t c = omega arith

pub attempt-returns-in-Err-clause-few : goal.attempt-returns-in-Err-clause-few
attempt-returns-in-Err-clause-few g t c = omega arith

pub attempt-returns-in_ok-asked-in-Ok-clause-few : goal.attempt-returns-in_ok-asked-in-Ok-clause-few
attempt-returns-in_ok-asked-in-Ok-clause-few g t c =
    subst (λ n. DrawsFew g.J.ConstRun.run n c.args.pass.now c.arguments.new.pass) c.depth-depth.ensures c.arguments.ensures.few

pub attempt-returns-in_err-asked-in-Ok-clause-few : goal.attempt-returns-in_err-asked-in-Ok-clause-few
attempt-returns-in_err-asked-in-Ok-clause-few g t c =
    subst (λ n. DrawsFew g.J.ConstRun.run n c.args.pass.now c.arguments.new.pass) c.depth-depth.ensures c.arguments.ensures.few

-- ---- resolve

pub resolve-returns-in-Some : goal.resolve-returns-in-Some
resolve-returns-in-Some g t c = record {
  resolves = resolves-seen g.J.ConstRun.run c.args.c c.args.pass.now c.told-2.ensures c.requires.constant c.find.new.self c.in-Some.node c.in-Some.ensures;
}

pub resolve-begin-requires-clause-room : goal.resolve-begin-requires-clause-room
resolve-begin-requires-clause-room g t c =
    let once = room-once g.J.ConstRun.run c.args.c c.args.pass.now c.told-2.ensures c.requires.constant c.in_default.ensures.0 c.requires.room in
    let same : c.find.new.self.seat.room ≡ c.args.pass.now.seat.room = ap (λ (p : PassView). p.seat.room) c.in_default.ensures.1 in
    omega (arith, once, same)

pub resolve-returns-in_err-serial : goal.resolve-returns-in_err-serial
resolve-returns-in_err-serial g t c = record {
  resolves = resolves-handed g.J.ConstRun.run c.args.c c.args.pass.now c.begin.new.self c.from_residual.result _ c.from_residual.ensures.1
      c.in_default.ensures.0 (subst (GoesOnResolving c.args.pass.now) (sym (c.in_err-serial.ensures.err ∙ c.in_default.ensures.1)) (on-none c.args.pass.now))
      (few-none g.J.ConstRun.run c.args.c c.args.pass.now c.begin.new.self (c.in_err-serial.ensures.err ∙ c.in_default.ensures.1));
}

pub resolve-attempt-requires : goal.resolve-attempt-requires
resolve-attempt-requires g t c =
    let run = g.J.ConstRun.run in
    let begins : Begins c.args.c c.in_ok-serial.serial c.args.pass.now c.begin.new.self =
    subst (λ p. Begins c.args.c c.in_ok-serial.serial p c.begin.new.self) c.in_default.ensures.1 c.in_ok-serial.ensures.begins in
    let high = c.in_ok-serial.ensures.range.1 in
    let room = room-below run c.args.c c.args.pass.now c.told-2.ensures c.requires.constant c.in_default.ensures.0 c.requires.room c.in_ok-serial.serial
    c.begin.new.self begins in
    λ κs lives. (
      omega (arith, c.decreases),
      (
        lives.0,
        (lives.1, (ap (λ (p : PassView). p.table) begins.is ∙ c.requires.pass, (c.requires.constant, (omega (arith, high), room)))),
      ),
    )

pub resolve-returns-in_err-made : goal.resolve-returns-in_err-made
resolve-returns-in_err-made g t c =
    let begins : Begins c.args.c c.in_ok-serial.serial c.args.pass.now c.begin.new.self =
    subst (λ p. Begins c.args.c c.in_ok-serial.serial p c.begin.new.self) c.in_default.ensures.1 c.in_ok-serial.ensures.begins in
    record {
      resolves = resolves-handed g.J.ConstRun.run c.args.c c.args.pass.now c.attempt.new.pass c.from_residual-in_err-made.result _
          c.from_residual-in_err-made.ensures.1 c.in_default.ensures.0
          (on-both c.args.pass.now c.begin.new.self c.attempt.new.pass (on-begins c.args.c c.in_ok-serial.serial c.args.pass.now c.begin.new.self begins)
          c.attempt.ensures.goes_on)
          (few-begun g.J.ConstRun.run c.args.c c.args.pass.now c.told-2.ensures c.requires.constant c.in_ok-serial.serial c.begin.new.self
          c.attempt.new.pass c.in_default.ensures.0 begins c.attempt.ensures.few);
    }

pub resolve-record-requires-clause-attempted : goal.resolve-record-requires-clause-attempted
resolve-record-requires-clause-attempted g t c =
    attempted c.args.c c.in_ok-serial.serial c.find.new.self c.begin.new.self c.attempt.new.pass c.in_ok-made.made c.in_ok-made.ensures.made.number
    c.in_ok-made.ensures.made.drawn c.in_ok-serial.ensures.begins c.attempt.ensures.goes_on

pub resolve-record-requires-clause-new : goal.resolve-record-requires-clause-new
resolve-record-requires-clause-new g t c =
    let count = c.told-2.ensures.known.count in
    let there = c.requires.constant in
    let within : c.args.c < length c.args.pass.now.known = omega (arith, count, there) in
    let begins : Begins c.args.c c.in_ok-serial.serial c.args.pass.now c.begin.new.self =
    subst (λ p. Begins c.args.c c.in_ok-serial.serial p c.begin.new.self) c.in_default.ensures.1 c.in_ok-serial.ensures.begins in
    ended-unknown g.J.ConstRun.run (λ d job at. (c.told.ensures.each d job at).names) c.args.c c.in_ok-serial.serial c.args.pass.now c.begin.new.self
    c.attempt.new.pass c.in_ok-made.made c.told-3.ensures within c.in_default.ensures.0 begins c.attempt.ensures.goes_on c.in_ok-made.ensures.made
    (few-begun g.J.ConstRun.run c.args.c c.args.pass.now c.told-2.ensures c.requires.constant c.in_ok-serial.serial c.begin.new.self c.attempt.new.pass
    c.in_default.ensures.0 begins c.attempt.ensures.few)

pub resolve-returns : goal.resolve-returns
resolve-returns g t c =
    let count = c.told-2.ensures.known.count in
    let there = c.requires.constant in
    let within : c.args.c < length c.args.pass.now.known = omega (arith, count, there) in
    let begins : Begins c.args.c c.in_ok-serial.serial c.args.pass.now c.begin.new.self =
    subst (λ p. Begins c.args.c c.in_ok-serial.serial p c.begin.new.self) c.in_default.ensures.1 c.in_ok-serial.ensures.begins in
    record {
      resolves = ended-resolves g.J.ConstRun.run (λ d job at. (c.told.ensures.each d job at).names) c.args.c c.in_ok-serial.serial c.args.pass.now
          c.begin.new.self c.attempt.new.pass c.in_ok-made.made c.told-3.ensures within c.in_default.ensures.0 begins c.attempt.ensures.goes_on
          c.in_ok-made.ensures.made
          (few-begun g.J.ConstRun.run c.args.c c.args.pass.now c.told-2.ensures c.requires.constant c.in_ok-serial.serial c.begin.new.self
          c.attempt.new.pass c.in_default.ensures.0 begins c.attempt.ensures.few)
          c.record.new.self c.record.result c.record.ensures.records c.record.ensures.failed c.record.ensures.kept;
    }
