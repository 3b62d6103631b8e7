use Rattle.std.proofs.Common.{◌≡◌, ◌∙◌, ap, refl, sym, subst, ℕ, ◌≤◌, List, [], Some, arith}
use Rattle.std.specs.Prelude.{slice_get}
use Rattle.mh_handle.specs.Recipe.{recipe}
use Rattle.mh_handle.proofs.obeying.Going.{goes_on-before, goes_on-more, goes_on-still}
use Rattle.mh_jobs.specs.declared.job.Job.{Job}
use Rattle.mh_jobs.specs.Given.{under}
use Rattle.mh_link.specs.Sites.{edits_at, types_at}
use Rattle.mh_condy.specs.Nodes.{unresolved}
use Rattle.mh_condy.specs.Passes.{PassView}
use Rattle.mh_attempt.specs.declared.error.WorkError.TheVariants.{NoMemory}
use Rattle.mh_attempt.specs.Asked.{attempt_draws}
use Rattle.mh_attempt.specs.Constants.{AsksConstants, given_in}
use Rattle.mh_attempt.specs.Linkage.{LinkageView}
use Rattle.mh_attempt.proofs.types.Adding.{holds-came}
use Rattle.mh_report.specs.Results.{serial_at}
use Rattle.mh_cells.specs.Values.{value_at}
use Rattle.mh_runtime.specs.Asking.{call_draws}
use Rattle.mh_runtime.specs.Attempts.{GoesOnLinking}
use Rattle.mh_runtime.specs.Linking.{KeepsOthers, Records}
use Rattle.mh_runtime.specs.Passes.{IsLinkageOf, LearnsSites, LinkPass}
use Rattle.mh_runtime.specs.Values.{GivesNodes}
use Rattle.mh_runtime.proofs.asking.AskedAnswers as answer
use Rattle.mh_runtime.proofs.constants.Asking.{drawn-from, drawn-same, drawn-to, quiet-attempt}
use Rattle.mh_runtime.proofs.constants.AttemptValues.{asked-of, asked-stopped, asks-one, runs-of, runs-stopped}
use Rattle.mh_runtime.proofs.asking.Lacking.{lacks-memory, lacks-stopped}
use Rattle.mh_runtime.proofs.sites.LinkSteps.{attempts-begun, attempts-learn, begun-attempts, begun-made, begun-then, begun_by, goes-begun, latest-begun, learnt-not, learns-none, on-err, unlearnt-begun}
use Rattle.mh_runtime.proofs.types.RecordedTypes.{attempt-keeps, attempt-whole, still-whole}
use Rattle.mh_runtime.proofs.sites.Resolving.{if-err}
use Rattle.mh_runtime.proofs.asking.RunSteps.{stops-run}
use Rattle.mh_runtime.proofs.asking.SeatAsked as seat
use Rattle.mh_runtime.proofs.types.SeatTypes.{keeps-adds, keeps-recorded, keeps-still}
use Rattle.mh_runtime.proofs.sites.ThreadSteps.{links-none, unlearnt-same}
use Rattle.mh_runtime.proofs.asking.WorkPasses.{goes-calling}
use Rattle.mh_runtime.proofs.site_linker.SiteLinker.attempt.Goals as goal

-- the job of a site, among the jobs of the run
named-at : (jobs own : List Job) (site : ℕ) (job : Job) → jobs ≡ own → job.site ≡ site → slice_get jobs site ≡ Some job →
    slice_get own job.site ≡ Some job
named-at jobs own site job same is at = ap (slice_get own) is ∙ (ap (λ js. slice_get js site) (sym same) ∙ at)

-- ---- no memory to begin the attempt

pub returns-in_err-serial-clause-resolves : goal.returns-in_err-serial-clause-resolves
returns-in_err-serial-clause-resolves g c =
    let given = g.J.Run.given in
    let site = c.args.site in
    let old = c.args.pass.now in
    let new = c.begin.new.self in
    let w = c.args.w.now in
    let r = c.from_residual.result in
    let is = c.from_residual.ensures.1 in
    -- the pass and the work are as they were
    let still : new ≡ old = c.in_err-serial.ensures.err in
    let constants = ap (λ (p : LinkPass). p.constants) still in
    let links : GoesOnLinking 1 old new = subst (GoesOnLinking 1 old) (sym still) (links-none old 1) in
    let learns : LearnsSites old new = subst (LearnsSites old) (sym still) (learns-none old) in
    let works = goes_on-more 0 call_draws w w (omega arith) (goes_on-still w) in
    record {
      goes_on = goes-calling 1 old new w w links works;
      linked = if-err r _ _ is;
      value = if-err r _ _ is;
      resolved = on-err r _ c.requires.new;
      learnt = learnt-not (serial_at old.linked site) c.requires.new;
      attempts = attempts-learn site old new learns;
      unlearnt = unlearnt-same old new (ap (λ (p : LinkPass). p.attempts) still);
      latest = if-err r _ _ is;
      failed = on-err r _ (ap (λ (p : LinkPass). p.recorded) still);
      asks = if-err r _ _ is;
      drawn = drawn-same old new constants;
      quiet = λ same. constants;
      lacks = lacks-memory w.pass.now w.seat.now r is;
      seat = still-whole w.seat.now;
      types = λ known agrees.
          let keeps = keeps-recorded (under known given) old.recorded w w (keeps-still w w refl) in
          subst (λ (p : LinkPass). KeepsOthers (under known given) old.recorded p.recorded w w) (sym still) keeps;
      runs = λ known agrees. stops-run (under known given) old.attempts new.attempts [] w.pass.now w.pass.now NoMemory r is tt;
      asked = λ known agrees. answer.memory-on (under known given) old.attempts new.attempts [] w.seat.now w.seat.now r is
          (rw still (seat.on-none (under known given) old.attempts w.seat.now));
    }

-- ---- the attempt was begun

pub attempt-requires-clause-named : goal.attempt-requires-clause-named
attempt-requires-clause-named g c =
    named-at _ g.J.Run.given.jobs c.args.site c.get.result.now c.self.invariant.jobs_are c.get.ensures.site c.get.ensures.job

pub attempt-requires-clause-places : goal.attempt-requires-clause-places
attempt-requires-clause-places g c =
    c.self.invariant.constants c.get.result.now.site c.get.result.now
    (named-at _ g.J.Run.given.jobs c.args.site c.get.result.now c.self.invariant.jobs_are c.get.ensures.site c.get.ensures.job)

-- no constant was resolved yet
pub attempt-requires-clause-room : goal.attempt-requires-clause-room
attempt-requires-clause-room g c =
    subst (λ (k : PassView). unresolved k.known ≤ k.seat.room) (sym (ap (λ (p : LinkPass). p.constants) c.in_ok-serial.ensures.begins.1))
    c.requires.ready.constants

-- it has stopped

pub returns-in_err-linkage-clause-resolves : goal.returns-in_err-linkage-clause-resolves
returns-in_err-linkage-clause-resolves g c =
    let given = g.J.Run.given in
    let site = c.args.site in
    let serial = c.in_ok-serial.serial in
    let old = c.args.pass.now in
    let first = c.begin.new.self in
    let new = c.attempt.new.self in
    let w = c.args.w.now in
    let w' = c.attempt.new.w in
    let r = c.from_residual-in_err-linkage.result in
    let is = c.from_residual-in_err-linkage.ensures.1 in
    let error = c.in_err-linkage.field-0.0 in
    let job = c.get.result.now in
    let row_is = c.get.ensures.site in
    let named : slice_get given.jobs job.site ≡ Some job = named-at _ given.jobs site job c.self.invariant.jobs_are row_is c.get.ensures.job in
    -- the pass has the attempt, and has recorded nothing
    let begins = begun-then site serial old first new c.in_ok-serial.ensures.begins c.attempt.ensures.others c.attempt.ensures.resolving in
    let begun = begun_by old site serial in
    let more = begun-attempts site serial old new begins in
    let recorded = ap (λ (p : LinkPass). p.recorded) begins.is in
    -- the attempt has stopped: what it asked for, where constants are what the pass has learnt, and what it held
    let edits = edits_at (recipe given.leaves) (given_in new.constants given) job.site serial in
    let types = types_at (given_in new.constants given) job.site serial in
    let asks = c.in_err-linkage.ensures.asks in
    let asked = c.in_err-linkage.ensures.asked in
    let before = c.in_err-linkage.ensures.before in
    let adds = keeps-adds w w' c.in_err-linkage.ensures.types in
    record {
      goes_on = goes-calling 1 old new w w' (goes-begun site serial old new new begins (learns-none new)) c.in_err-linkage.ensures.goes_on;
      linked = if-err r _ _ is;
      value = if-err r _ _ is;
      resolved = on-err r _ c.requires.new;
      learnt = learnt-not (serial_at old.linked site) c.requires.new;
      attempts = attempts-begun site serial old new new begins (learns-none new) c.requires.new;
      unlearnt = unlearnt-begun site serial old new new begins (learns-none new) c.requires.new;
      latest = if-err r _ _ is;
      failed = on-err r _ recorded;
      asks = if-err r _ _ is;
      drawn = drawn-from old first new (ap (λ (p : LinkPass). p.constants) c.in_ok-serial.ensures.begins.1) c.attempt.ensures.few;
      quiet = quiet-attempt old new begun more;
      lacks = lacks-stopped LinkageView edits types w w' error r is asks asked;
      seat = record { table = adds.table; whole = adds.whole };
      types = λ known agrees. subst (λ after. KeepsOthers (under known given) old.recorded after w w') (sym recorded)
          (keeps-recorded (under known given) old.recorded w w' adds);
      runs = λ known agrees.
          let stopped =
          runs-stopped given known job named first.constants new.constants agrees.nodes old.attempts begun row_is w w' error before asks in
          stops-run (under known given) old.attempts new.attempts [] w.pass.now w'.pass.now error r is (rw more stopped);
      asked = λ known agrees.
          asked-stopped given known job named first.constants new.constants agrees.nodes old.attempts begun row_is w w' new.attempts error r more is
          before asked;
    }

-- ---- it was made

pub record-requires-clause-attempted : goal.record-requires-clause-attempted
record-requires-clause-attempted g c =
    let begins =
    begun-then c.args.site c.in_ok-serial.serial c.args.pass.now c.begin.new.self c.attempt.new.self c.in_ok-serial.ensures.begins
    c.attempt.ensures.others c.attempt.ensures.resolving in
    begun-made c.args.site c.in_ok-serial.serial c.args.pass.now c.attempt.new.self c.in_ok-linkage.linkage begins
    (ap (λ (j : Job). j.site) c.in_ok-linkage.ensures.of.0 ∙ c.get.ensures.site) c.in_ok-linkage.ensures.of.1

pub record-requires-clause-found : goal.record-requires-clause-found
record-requires-clause-found g c = c.in_ok-linkage.ensures.constants.knows

pub record-requires-clause-held : goal.record-requires-clause-held
record-requires-clause-held g c = holds-came c.in_ok-linkage.linkage.held c.args.w.now c.attempt.new.w c.in_ok-linkage.ensures.types

-- but there was no memory to record it

pub returns-in_err-linkage-2-clause-goes_on : goal.returns-in_err-linkage-2-clause-goes_on
returns-in_err-linkage-2-clause-goes_on g c =
    goes_on-before attempt_draws c.args.w.now c.attempt.new.w c.record.new.w c.in_ok-linkage.ensures.goes_on c.in_err-linkage-2.ensures.unchanged
    (record { seat = c.in_err-linkage-2.ensures.seat.table; holds = omega (arith, c.in_err-linkage-2.ensures.room) })

pub returns-in_err-linkage-2-clause-resolves : goal.returns-in_err-linkage-2-clause-resolves
returns-in_err-linkage-2-clause-resolves g c =
    let given = g.J.Run.given in
    let site = c.args.site in
    let serial = c.in_ok-serial.serial in
    let old = c.args.pass.now in
    let first = c.begin.new.self in
    let mid = c.attempt.new.self in
    let new = c.record.new.self in
    let w = c.args.w.now in
    let v = c.attempt.new.w in
    let w' = c.record.new.w in
    let r = c.from_residual-in_err-linkage-2.result in
    let is = c.from_residual-in_err-linkage-2.ensures.1 in
    let ours = c.in_ok-linkage.linkage in
    let job = c.get.result.now in
    let row_is = c.get.ensures.site in
    let named : slice_get given.jobs job.site ≡ Some job = named-at _ given.jobs site job c.self.invariant.jobs_are row_is c.get.ensures.job in
    -- the pass has the attempt, and has recorded nothing
    let begins = begun-then site serial old first mid c.in_ok-serial.ensures.begins c.attempt.ensures.others c.attempt.ensures.resolving in
    let learns = c.in_err-linkage-2.ensures.learns in
    let begun = begun_by old site serial in
    let more = learns.attempts ∙ begun-attempts site serial old mid begins in
    let recorded = ap (λ (p : LinkPass). p.recorded) begins.is in
    let drawn = drawn-from old first mid (ap (λ (p : LinkPass). p.constants) c.in_ok-serial.ensures.begins.1) c.attempt.ensures.few in
    -- what the attempt asked the seat for is all that it was asked for
    let seat_asked =
    seat.asks-still (types_at (given_in mid.constants given) job.site begun.serial) w.seat.now v.seat.now w'.seat.now c.in_ok-linkage.ensures.asked
    c.in_err-linkage-2.ensures.asked in
    record {
      goes_on = goes-calling 1 old new w w' (goes-begun site serial old mid new begins learns) (returns-in_err-linkage-2-clause-goes_on g c);
      linked = if-err r _ _ is;
      value = if-err r _ _ is;
      resolved = on-err r _ c.requires.new;
      learnt = learnt-not (serial_at old.linked site) c.requires.new;
      attempts = attempts-begun site serial old mid new begins learns c.requires.new;
      unlearnt = unlearnt-begun site serial old mid new begins learns c.requires.new;
      latest = if-err r _ _ is;
      failed = on-err r _ (c.in_err-linkage-2.ensures.failed ∙ recorded);
      asks = if-err r _ _ is;
      drawn = drawn-to old mid new learns.constants drawn;
      quiet = quiet-attempt old new begun more;
      lacks = lacks-memory w'.pass.now w'.seat.now r is;
      seat = attempt-whole ours.held w v w' c.in_ok-linkage.ensures.types c.in_err-linkage-2.ensures.seat;
      types = λ known agrees.
          let records : Records (under known given) ours old.recorded new.recorded v.seat.now w'.seat.now =
          subst (λ before. Records (under known given) ours before new.recorded v.seat.now w'.seat.now) recorded
          (c.in_err-linkage-2.ensures.types known agrees) in
          attempt-keeps (under known given) ours old.recorded new.recorded w v w' c.in_ok-linkage.ensures.types records;
      runs = λ known agrees. stops-run (under known given) old.attempts new.attempts [] w.pass.now w'.pass.now NoMemory r is tt;
      asked = λ known agrees.
          let gives : GivesNodes known mid.constants.known = subst (λ (k : PassView). GivesNodes known k.known) learns.constants agrees.nodes in
          let asks =
          asked-of given known job named first.constants mid.constants gives old.attempts begun row_is w w' c.in_ok-linkage.ensures.before seat_asked in
          answer.memory-on (under known given) old.attempts new.attempts [] w.seat.now w'.seat.now r is (rw more asks);
    }

-- and it is recorded, or another one was before

pub returns-clause-goes_on : goal.returns-clause-goes_on
returns-clause-goes_on g c =
    goes_on-before attempt_draws c.args.w.now c.attempt.new.w c.record.new.w c.in_ok-linkage.ensures.goes_on c.in_ok-linkage-2.ensures.unchanged
    (record { seat = c.in_ok-linkage-2.ensures.seat.table; holds = omega (arith, c.in_ok-linkage-2.ensures.room) })

pub returns-clause-resolves : goal.returns-clause-resolves
returns-clause-resolves g c =
    let given = g.J.Run.given in
    let site = c.args.site in
    let serial = c.in_ok-serial.serial in
    let old = c.args.pass.now in
    let first = c.begin.new.self in
    let mid = c.attempt.new.self in
    let new = c.record.new.self in
    let w = c.args.w.now in
    let v = c.attempt.new.w in
    let w' = c.record.new.w in
    let ours = c.in_ok-linkage.linkage in
    let l = c.in_ok-linkage-2.linkage in
    let job = c.get.result.now in
    let row_is = c.get.ensures.site in
    let named : slice_get given.jobs job.site ≡ Some job = named-at _ given.jobs site job c.self.invariant.jobs_are row_is c.get.ensures.job in
    let at : slice_get given.jobs site ≡ Some job = subst (λ s. slice_get given.jobs s ≡ Some job) row_is named in
    -- the pass has the attempt, whose linkage is that of the site
    let begins = begun-then site serial old first mid c.in_ok-serial.ensures.begins c.attempt.ensures.others c.attempt.ensures.resolving in
    let learns = c.in_ok-linkage-2.ensures.learns in
    let begun = begun_by old site serial in
    let own = ap (λ (j : Job). j.site) c.in_ok-linkage.ensures.of.0 ∙ row_is in
    let more = learns.attempts ∙ begun-attempts site serial old mid begins in
    let recorded = ap (λ (p : LinkPass). p.recorded) begins.is in
    -- the constants that the job looks at were gone through
    let before = ap (λ (p : LinkPass). p.constants) c.in_ok-serial.ensures.begins.1 in
    let drawn = drawn-from old first mid before c.attempt.ensures.few in
    let gone : AsksConstants given job old.constants mid.constants ours.under =
    subst (λ (k : PassView). AsksConstants given job k mid.constants ours.under) before c.in_ok-linkage.ensures.constants in
    let through : AsksConstants given job old.constants new.constants ours.under =
    subst (λ (k : PassView). AsksConstants given job old.constants k ours.under) (sym learns.constants) gone in
    -- what the attempt asked the seat for is all that it was asked for
    let seat_asked =
    seat.asks-still (types_at (given_in mid.constants given) job.site begun.serial) w.seat.now v.seat.now w'.seat.now c.in_ok-linkage.ensures.asked
    c.in_ok-linkage-2.ensures.asked in
    record {
      goes_on = goes-calling 1 old new w w' (goes-begun site serial old mid new begins learns) (returns-clause-goes_on g c);
      linked = subst (λ s. IsLinkageOf new.linked s l.now) own c.in_ok-linkage-2.ensures.linked;
      value = subst (λ s. value_at new.linkages s ≡ Some l.now) own c.in_ok-linkage-2.ensures.value;
      resolved = tt;
      learnt = learnt-not (serial_at old.linked site) c.requires.new;
      attempts = attempts-begun site serial old mid new begins learns c.requires.new;
      unlearnt = unlearnt-begun site serial old mid new begins learns c.requires.new;
      latest = latest-begun site serial old mid new begins learns ours l.now own c.in_ok-linkage.ensures.of.1 c.in_ok-linkage-2.ensures.recorded;
      failed = tt;
      asks = asks-one given job begun old new ours.under at more through;
      drawn = drawn-to old mid new learns.constants drawn;
      quiet = quiet-attempt old new begun more;
      lacks = tt;
      seat = attempt-whole ours.held w v w' c.in_ok-linkage.ensures.types c.in_ok-linkage-2.ensures.seat;
      types = λ known agrees.
          let records : Records (under known given) ours old.recorded new.recorded v.seat.now w'.seat.now =
          subst (λ before. Records (under known given) ours before new.recorded v.seat.now w'.seat.now) recorded
          (c.in_ok-linkage-2.ensures.types known agrees) in
          attempt-keeps (under known given) ours old.recorded new.recorded w v w' c.in_ok-linkage.ensures.types records;
      runs = λ known agrees.
          let gives : GivesNodes known mid.constants.known = subst (λ (k : PassView). GivesNodes known k.known) learns.constants agrees.nodes in
          let runs =
          runs-of given known job named first.constants mid.constants gives old.attempts begun row_is w v ours c.in_ok-linkage.ensures.before
          c.in_ok-linkage.ensures.asks in
          rw (more, c.in_ok-linkage-2.ensures.unchanged.pass) runs;
      asked = λ known agrees.
          let gives : GivesNodes known mid.constants.known = subst (λ (k : PassView). GivesNodes known k.known) learns.constants agrees.nodes in
          let asks =
          asked-of given known job named first.constants mid.constants gives old.attempts begun row_is w w' c.in_ok-linkage.ensures.before seat_asked in
          rw more asks;
    }
