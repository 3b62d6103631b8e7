use Rattle.std.proofs.Common.{◌≡◌, sym, ◌∙◌, ap, subst, refl, ◌+◌, List, ◌∷◌, [], take, length, length-append, arith}
use Rattle.std.specs.Prelude.{IsSome}
use Rattle.std.specs.List.{flat_map}
use Rattle.std.proofs.lemmas.List.Elements.{All-nil}
use Rattle.mh_handle.specs.Answers.{AnswerView, IsAnswer}
use Rattle.mh_handle.specs.declared.answer.Answer.{Answer}
use Rattle.mh_handle.proofs.obeying.Going.{goes_on-still}
use Rattle.mh_jobs.specs.Given.{Found, under}
use Rattle.mh_attempt.specs.declared.error.WorkError.TheVariants.{NoMemory}
use Rattle.mh_plan.specs.declared.call.Call.{Call}
use Rattle.mh_plan.specs.Naming.{sites_named}
use Rattle.mh_report.specs.Forms.{call_edits, thread_edits}
use Rattle.mh_report.specs.Results.{Serials, result_of, result_said, serial_at, thread_keys_said, thread_said}
use Rattle.mh_report.specs.Types.{call_types, thread_types}
use Rattle.mh_runtime.specs.Asking.{HasAskedOn, HasRunOn, LacksRoom, RunsOn, RunsOnTypes, call_draws, thread_draws}
use Rattle.mh_runtime.specs.Attempts.{AreLinked, AsksMore, AttemptsMore}
use Rattle.mh_runtime.specs.Keys.{keys_of}
use Rattle.mh_runtime.specs.Linkers.{IsReadyFor}
use Rattle.mh_runtime.specs.Passes.{HasSerials}
use Rattle.mh_runtime.specs.Stops.{begun}
use Rattle.mh_runtime.specs.Values.{Agrees}
use Rattle.mh_runtime.proofs.constants.Agreeing.{agrees-linked}
use Rattle.mh_runtime.proofs.lanes.Answering.{end-early, end-whole, reported-answers, reported-linked, stopped-so, way-ended}
use Rattle.mh_runtime.proofs.asking.AskedAnswers.{memory-within, second-within}
use Rattle.mh_runtime.proofs.constants.Asking.{asks-both, drawn-all, drawn-both, quiet-both}
use Rattle.mh_runtime.proofs.ledger.Items.{flat-begun, flat-ended, flat-next}
use Rattle.mh_runtime.proofs.asking.Lacking.{lacks-handed, lacks-memory}
use Rattle.mh_runtime.proofs.sites.LinkSteps.{learns-none}
use Rattle.mh_runtime.proofs.types.RecordedTypes.{still-whole, whole-both}
use Rattle.mh_runtime.proofs.ledger.Repeating.{reported-next}
use Rattle.mh_runtime.proofs.sites.Resolving.{asks-none}
use Rattle.mh_runtime.proofs.lanes.Room.{calls-draw, goes-next, goes-whole, goes-within}
use Rattle.mh_runtime.proofs.asking.RunSteps.{runs-both, runs-none, stops-run, stops-within}
use Rattle.mh_runtime.proofs.asking.SeatAsked.{on-both, on-none}
use Rattle.mh_runtime.proofs.types.SeatTypes.{keeps-both, keeps-recorded, keeps-still}
use Rattle.mh_runtime.proofs.sites.ThreadSteps.{attempts-both, attempts-none, attempts-within, linked-both, links-both, links-fewer, links-none, serials-both, serials-self, unlearnt-both, unlearnt-same}
use Rattle.mh_runtime.proofs.asking.WorkPasses.{goes-calling, ready-for-next}
use Rattle.mh_runtime.proofs.context.Context.make_calls.Goals as goal

-- ---- before each call

pub call-requires-clause-ready : goal.call-requires-clause-ready
call-requires-clause-ready g c =
    let given = g.J.Run.given in
    let linker = c.args.self.now.linker.now in
    let items = c.as_slice-next-items.result.now in
    let start = c.args.pass.now in
    ready-for-next given linker items c.loop-next.next-index c.next-item.result start c.loop-next.pass c.args.w.now c.loop-next.w c.loop-next-test.true
    c.next-item.is
    (subst (λ (calls : List Call). IsReadyFor given linker (length calls) start c.args.w.now) (sym c.as_slice-next-items.ensures) c.requires.ready)
    c.loop-next.invariant.pass c.loop-next.invariant.goes_on c.loop-next.invariant.constants_room

-- ---- a call has stopped the thread

pub returns-in_err-call-clause-goes_on : goal.returns-in_err-call-clause-goes_on
returns-in_err-call-clause-goes_on g c =
    goes-within (λ call. call_draws) thread_draws calls-draw c.as_slice-next-items.result.now c.args.calls.now c.loop-next.next-index c.next-item.result
    c.args.w.now c.loop-next.w c.call.new.w c.as_slice-next-items.ensures c.loop-next-test.true c.next-item.is c.loop-next.invariant.goes_on
    c.call.ensures.goes_on

pub returns-in_err-call-clause-runs : goal.returns-in_err-call-clause-runs
returns-in_err-call-clause-runs g c =
    let given = g.J.Run.given in
    let calls = c.args.calls.now in
    let items = c.as_slice-next-items.result.now in
    let same = c.as_slice-next-items.ensures in
    let i = c.loop-next.next-index in
    let call = c.next-item.result in
    let within = c.loop-next-test.true in
    let is = c.next-item.is in
    let so_far = c.loop-next.invariant in
    let last = c.call.ensures.makes in
    let start = c.args.pass.now in
    let mid = c.loop-next.pass in
    let end = c.call.new.pass in
    let w = c.args.w.now in
    let w' = c.call.new.w in
    let answers = c.loop-next.answers in
    let e = c.in_err-call.field-0.0 in
    let r = c.from_residual.result in
    let handed = c.from_residual.ensures.1 in
    let edits = call_edits given.leaves in
    let types = call_types given.leaves in
    record {
      goes_on = goes-calling (length calls) start end w w'
          (links-fewer (i + 1) (length calls) start end (let long : length items ≡ length calls = ap length same in omega (arith, within, long))
          (links-both i 1 start mid end so_far.pass last.goes_on.links))
          (returns-in_err-call-clause-goes_on g c);
      ended = end-early items calls i answers answers same so_far.count refl e r handed within;
      answers = λ known agrees.
          let before = agrees-linked 1 known mid end last.goes_on.links agrees in
          reported-answers items calls i answers answers same so_far.count refl (under known given) mid end last.goes_on.links.linked
          (so_far.results known before) (so_far.keys known before);
      linked = reported-linked items calls i answers answers same so_far.count refl mid end last.goes_on.links.linked so_far.linked;
      attempts = attempts-within _ (flat_map sites_named (take i items)) (sites_named call) [] start mid end
          (flat-begun sites_named items calls i (length answers) call within is same so_far.count) so_far.pass.linked so_far.linked so_far.attempts
          last.attempts;
      unlearnt = unlearnt-both start mid end so_far.pass.linked so_far.unlearnt last.unlearnt;
      asks = stopped-so r e handed (AsksMore given start end);
      drawn = drawn-both given start mid end so_far.asks last.drawn;
      quiet = quiet-both start mid end so_far.unlearnt last.unlearnt so_far.quiet last.quiet;
      seat = whole-both w.seat.now c.loop-next.w.seat.now w'.seat.now so_far.seat last.seat;
      types = λ known agrees.
          keeps-both (under known given) start.recorded mid.recorded end.recorded w c.loop-next.w w'
          (so_far.types known (agrees-linked 1 known mid end last.goes_on.links agrees)) (last.types known agrees);
      lacks = subst (LacksRoom w'.pass.now w'.seat.now) (way-ended r)
          (lacks-handed Answer w'.pass.now w'.seat.now e r handed c.in_err-call.ensures.makes.lacks);
      runs = λ known agrees.
          subst (RunsOn (under known given) start.attempts end.attempts (thread_edits given.leaves (begun answers calls)) w.pass.now w'.pass.now) (way-ended r)
          (stops-within (under known given) _ (flat_map edits (take i items)) (edits call) [] start.attempts mid.attempts end.attempts w.pass.now
          c.loop-next.w.pass.now w'.pass.now e r (flat-begun edits items calls i (length answers) call within is same so_far.count) handed
          (so_far.runs known (agrees-linked 1 known mid end last.goes_on.links agrees)) (c.in_err-call.ensures.makes.runs known agrees));
      asked = λ known agrees.
          subst (RunsOnTypes (under known given) start.attempts end.attempts (thread_types given.leaves (begun answers calls)) w.seat.now w'.seat.now)
          (way-ended r)
          (second-within (under known given) Answer _ (flat_map types (take i items)) (types call) [] start.attempts mid.attempts end.attempts w.seat.now
          c.loop-next.w.seat.now w'.seat.now e r (flat-begun types items calls i (length answers) call within is same so_far.count) handed
          (so_far.asked known (agrees-linked 1 known mid end last.goes_on.links agrees)) (c.in_err-call.ensures.makes.asked known agrees));
    }

-- ---- a call was made, and there is no memory for its answer

pub returns-in_err-push-clause-goes_on : goal.returns-in_err-push-clause-goes_on
returns-in_err-push-clause-goes_on g c =
    goes-within (λ call. call_draws) thread_draws calls-draw c.as_slice-next-items.result.now c.args.calls.now c.loop-next.next-index c.next-item.result
    c.args.w.now c.loop-next.w c.call.new.w c.as_slice-next-items.ensures c.loop-next-test.true c.next-item.is c.loop-next.invariant.goes_on
    c.call.ensures.goes_on

pub returns-in_err-push-clause-runs : goal.returns-in_err-push-clause-runs
returns-in_err-push-clause-runs g c =
    let given = g.J.Run.given in
    let calls = c.args.calls.now in
    let items = c.as_slice-next-items.result.now in
    let same = c.as_slice-next-items.ensures in
    let i = c.loop-next.next-index in
    let call = c.next-item.result in
    let within = c.loop-next-test.true in
    let is = c.next-item.is in
    let so_far = c.loop-next.invariant in
    let last = c.in_ok-call.ensures.makes in
    let start = c.args.pass.now in
    let mid = c.loop-next.pass in
    let end = c.call.new.pass in
    let w = c.args.w.now in
    let w' = c.call.new.w in
    let before = c.loop-next.answers in
    let answers = c.push.new.self in
    let still = c.in_err-push.ensures.err in
    let count = ap length still ∙ so_far.count in
    let r = c.from_residual-in_err-push.result in
    let handed = c.from_residual-in_err-push.ensures.1 in
    let edits = call_edits given.leaves in
    let types = call_types given.leaves in
    record {
      goes_on = goes-calling (length calls) start end w w'
          (links-fewer (i + 1) (length calls) start end (let long : length items ≡ length calls = ap length same in omega (arith, within, long))
          (links-both i 1 start mid end so_far.pass last.goes_on.links))
          (returns-in_err-push-clause-goes_on g c);
      ended = end-early items calls i before answers same so_far.count still NoMemory r handed within;
      answers = λ known agrees.
          let earlier = agrees-linked 1 known mid end last.goes_on.links agrees in
          reported-answers items calls i before answers same so_far.count still (under known given) mid end last.goes_on.links.linked
          (so_far.results known earlier) (so_far.keys known earlier);
      linked = reported-linked items calls i before answers same so_far.count still mid end last.goes_on.links.linked so_far.linked;
      attempts = attempts-within _ (flat_map sites_named (take i items)) (sites_named call) [] start mid end
          (flat-begun sites_named items calls i (length answers) call within is same count) so_far.pass.linked so_far.linked so_far.attempts last.attempts;
      unlearnt = unlearnt-both start mid end so_far.pass.linked so_far.unlearnt last.unlearnt;
      asks = stopped-so r NoMemory handed (AsksMore given start end);
      drawn = drawn-both given start mid end so_far.asks last.drawn;
      quiet = quiet-both start mid end so_far.unlearnt last.unlearnt so_far.quiet last.quiet;
      seat = whole-both w.seat.now c.loop-next.w.seat.now w'.seat.now so_far.seat last.seat;
      types = λ known agrees.
          keeps-both (under known given) start.recorded mid.recorded end.recorded w c.loop-next.w w'
          (so_far.types known (agrees-linked 1 known mid end last.goes_on.links agrees)) (last.types known agrees);
      lacks = subst (LacksRoom w'.pass.now w'.seat.now) (way-ended r) (lacks-memory w'.pass.now w'.seat.now r handed);
      runs = λ known agrees.
          subst (RunsOn (under known given) start.attempts end.attempts (thread_edits given.leaves (begun answers calls)) w.pass.now w'.pass.now) (way-ended r)
          (stops-run (under known given) start.attempts end.attempts (thread_edits given.leaves (begun answers calls)) w.pass.now w'.pass.now NoMemory r handed
          tt);
      asked = λ known agrees.
          subst (RunsOnTypes (under known given) start.attempts end.attempts (thread_types given.leaves (begun answers calls)) w.seat.now w'.seat.now)
          (way-ended r)
          (memory-within (under known given) _ (flat_map types (take i items)) (types call) [] start.attempts mid.attempts end.attempts w.seat.now
          c.loop-next.w.seat.now w'.seat.now r (flat-begun types items calls i (length answers) call within is same count) handed
          (so_far.asked known (agrees-linked 1 known mid end last.goes_on.links agrees)) (last.asked known agrees));
    }

-- ---- one call after the other

-- no call was made yet
pub loop-next-init : goal.loop-next-init
loop-next-init g c =
    let given = g.J.Run.given in
    let w = c.args.w.now in
    let pass = c.args.pass.now in
    record {
      within = omega arith;
      count = ap length c.requires.none;
      goes_on = goes_on-still w;
      pass = links-none pass 0;
      attempts = attempts-none pass;
      unlearnt = unlearnt-same pass pass refl;
      linked = All-nil (λ site. IsSome (serial_at pass.linked site));
      asks = asks-none given pass pass c.constants_told.ensures (learns-none pass);
      quiet = λ same. refl;
      constants_room = c.requires.ready.constants;
      seat = still-whole w.seat.now;
      types = λ known agrees. keeps-recorded (under known given) pass.recorded w w (keeps-still w w refl);
      results = λ known agrees table has. ap thread_said c.requires.none;
      keys = λ known agrees table has. ap thread_keys_said c.requires.none;
      runs = λ known agrees. runs-none (under known given) pass.attempts w.pass.now;
      asked = λ known agrees. on-none (under known given) pass.attempts w.seat.now;
    }

pub loop-next-preserved : goal.loop-next-preserved
loop-next-preserved g c =
    let given = g.J.Run.given in
    let items = c.as_slice-next-items.result.now in let i = c.loop-next.next-index in
    let call = c.next-item.result in let within = c.loop-next-test.true in let is = c.next-item.is in
    let start = c.args.pass.now in let mid = c.loop-next.pass in let end = c.call.new.pass in
    let before : (table : Serials) → HasSerials end.linked table → HasSerials mid.linked table =
    λ table has. serials-both mid.linked end.linked table c.call.ensures.makes.goes_on.links.linked has in
    let earlier : (known : Found) → Agrees known end → Agrees known mid =
    λ known agrees. agrees-linked 1 known mid end c.call.ensures.makes.goes_on.links agrees in
    let answer : (known : Found) → Agrees known end → (table : Serials) → HasSerials end.linked table →
    IsAnswer (result_of (under known given) table call) (keys_of (under known given) table call) c.in_ok-call.field-0 =
    λ known agrees table has. c.in_ok-call.ensures.makes.answer known agrees table has in
    record {
      within = omega (arith, within);
      count = omega (
        arith,
        ap length c.in_ok-push.ensures.ok,
        length-append c.loop-next.answers (c.in_ok-call.field-0 ∷ []),
        c.loop-next.invariant.count,
      );
      goes_on = goes-next (λ call. call_draws) thread_draws calls-draw items i call c.args.w.now c.loop-next.w c.call.new.w within is
          c.loop-next.invariant.goes_on c.call.ensures.goes_on;
      pass = links-both i 1 start mid end c.loop-next.invariant.pass c.call.ensures.makes.goes_on.links;
      attempts = subst (λ sites. AttemptsMore sites start end) (sym (flat-next sites_named items i call within is))
          (attempts-both (flat_map sites_named (take i items)) (sites_named call) start mid end c.loop-next.invariant.pass.linked
          c.loop-next.invariant.linked c.loop-next.invariant.attempts c.call.ensures.makes.attempts);
      unlearnt = unlearnt-both start mid end c.loop-next.invariant.pass.linked c.loop-next.invariant.unlearnt c.call.ensures.makes.unlearnt;
      linked = subst (AreLinked end.linked) (sym (flat-next sites_named items i call within is))
          (linked-both mid.linked end.linked (flat_map sites_named (take i items)) (sites_named call) c.call.ensures.makes.goes_on.links.linked
          c.loop-next.invariant.linked c.in_ok-call.ensures.makes.linked);
      asks = asks-both given start mid end c.loop-next.invariant.asks c.in_ok-call.ensures.makes.asks;
      quiet = quiet-both start mid end c.loop-next.invariant.unlearnt c.call.ensures.makes.unlearnt c.loop-next.invariant.quiet c.call.ensures.makes.quiet;
      constants_room = c.in_ok-call.ensures.room_left;
      seat = whole-both c.args.w.now.seat.now c.loop-next.w.seat.now c.call.new.w.seat.now c.loop-next.invariant.seat c.call.ensures.makes.seat;
      types = λ known agrees.
          keeps-both (under known given) start.recorded mid.recorded end.recorded c.args.w.now c.loop-next.w c.call.new.w
          (c.loop-next.invariant.types known (earlier known agrees)) (c.call.ensures.makes.types known agrees);
      results = λ known agrees table has.
          reported-next (result_of (under known given) table) result_said items i call c.loop-next.answers c.push.new.self c.in_ok-call.field-0
          within is c.in_ok-push.ensures.ok (c.loop-next.invariant.results known (earlier known agrees) table (before table has))
          (answer known agrees table has).ran_is;
      keys = λ known agrees table has.
          reported-next (keys_of (under known given) table) (λ (a : AnswerView). a.keys) items i call c.loop-next.answers c.push.new.self
          c.in_ok-call.field-0 within is c.in_ok-push.ensures.ok (c.loop-next.invariant.keys known (earlier known agrees) table (before table has))
          (answer known agrees table has).keys_are;
      runs = λ known agrees.
          subst (λ rs. HasRunOn (under known given) start.attempts end.attempts rs c.args.w.now.pass.now c.call.new.w.pass.now)
          (sym (flat-next (call_edits given.leaves) items i call within is))
          (runs-both (under known given) (flat_map (call_edits given.leaves) (take i items)) (call_edits given.leaves call) start.attempts mid.attempts
          end.attempts c.args.w.now.pass.now c.loop-next.w.pass.now c.call.new.w.pass.now (c.loop-next.invariant.runs known (earlier known agrees))
          (c.in_ok-call.ensures.makes.runs known agrees));
      asked = λ known agrees.
          subst (λ ts. HasAskedOn (under known given) start.attempts end.attempts ts c.args.w.now.seat.now c.call.new.w.seat.now)
          (sym (flat-next (call_types given.leaves) items i call within is))
          (on-both (under known given) (flat_map (call_types given.leaves) (take i items)) (call_types given.leaves call) start.attempts mid.attempts
          end.attempts c.args.w.now.seat.now c.loop-next.w.seat.now c.call.new.w.seat.now (c.loop-next.invariant.asked known (earlier known agrees))
          (c.in_ok-call.ensures.makes.asked known agrees));
    }

-- ---- all calls were made

pub returns-clause-goes_on : goal.returns-clause-goes_on
returns-clause-goes_on g c =
    goes-whole (λ call. call_draws) thread_draws calls-draw c.as_slice-next-items.result.now c.args.calls.now c.loop-next.next-index c.args.w.now
    c.loop-next.w c.as_slice-next-items.ensures c.loop-next.invariant.goes_on

pub returns-clause-runs : goal.returns-clause-runs
returns-clause-runs g c =
    let given = g.J.Run.given in
    let calls = c.args.calls.now in
    let items = c.as_slice-next-items.result.now in
    let same = c.as_slice-next-items.ensures in
    let i = c.loop-next.next-index in
    let over = c.loop-next-test.false in
    let so_far = c.loop-next.invariant in
    let start = c.args.pass.now in
    let end = c.loop-next.pass in
    let w = c.args.w.now in
    let w' = c.loop-next.w in
    let answers = c.loop-next.answers in
    let edits = call_edits given.leaves in
    let types = call_types given.leaves in
    record {
      goes_on = goes-calling (length calls) start end w w'
          (links-fewer i (length calls) start end
          (let long : length items ≡ length calls = ap length same in let within = so_far.within in omega (arith, within, long)) so_far.pass)
          (returns-clause-goes_on g c);
      ended = end-whole items calls i answers answers same so_far.count refl over so_far.within;
      answers = λ known agrees.
          reported-answers items calls i answers answers same so_far.count refl (under known given) end end (serials-self end.linked)
          (so_far.results known agrees) (so_far.keys known agrees);
      linked = reported-linked items calls i answers answers same so_far.count refl end end (serials-self end.linked) so_far.linked;
      attempts = subst (λ sites. AttemptsMore sites start end) (flat-ended sites_named items calls i (length answers) over same so_far.count)
          so_far.attempts;
      unlearnt = so_far.unlearnt;
      asks = so_far.asks;
      drawn = drawn-all given start end so_far.asks;
      quiet = so_far.quiet;
      seat = so_far.seat;
      types = so_far.types;
      lacks = tt;
      runs = λ known agrees.
          subst (λ rs. HasRunOn (under known given) start.attempts end.attempts rs w.pass.now w'.pass.now)
          (flat-ended edits items calls i (length answers) over same so_far.count) (so_far.runs known agrees);
      asked = λ known agrees.
          subst (λ ts. HasAskedOn (under known given) start.attempts end.attempts ts w.seat.now w'.seat.now)
          (flat-ended types items calls i (length answers) over same so_far.count) (so_far.asked known agrees);
    }
