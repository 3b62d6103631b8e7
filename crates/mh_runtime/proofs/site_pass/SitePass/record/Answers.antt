use Rattle.std.proofs.Common.{◌≡◌, ◌∙◌, ap, ap₂, refl, subst, Some, [], ◌∷◌, ◌++◌, inr}
use Rattle.mh_jobs.specs.Given.{under}
use Rattle.mh_link.specs.Linked.{held_by}
use Rattle.mh_attempt.specs.Linkage.{HasTypes}
use Rattle.mh_condy.proofs.Trails.{keeps-same}
use Rattle.mh_report.specs.declared.attempt.Attempt.{Attempt}
use Rattle.mh_runtime.specs.Passes.{attempt_of}
use Rattle.mh_runtime.proofs.sites.LinkPasses.{pass-learns, pass-puts}
use Rattle.mh_runtime.proofs.constants.Agreeing.{linkage-same}
use Rattle.mh_runtime.proofs.asking.SeatAsked.{asks-same}
use Rattle.mh_runtime.proofs.types.RecordedTypes.{back-few, back-whole, handed-back, records-one, still-whole}
use Rattle.mh_runtime.proofs.site_pass.SitePass.record.Given as given
use Rattle.mh_runtime.proofs.site_pass.SitePass.record.Goals as goal

-- the attempt that made the linkage
made : (g : given.Over) (c : goal.After-push_reserved g) → Attempt
made g c = record { thread = c.self.inside.thread; site = c.site.result; serial = c.serial.result }

made-is : (g : given.Over) (c : goal.After-push_reserved g) → made g c ≡ attempt_of c.self.inside.thread c.args.linkage
unfolding made
made-is g c = ap₂ (λ s n. record { thread = c.self.inside.thread; site = s; serial = n }) c.site.ensures c.serial.ensures

pub invariant_of-self-in-Ok-Mine : goal.invariant_of-self-in-Ok-Mine
unfolding made
invariant_of-self-in-Ok-Mine g c =
    let put = rw c.in-Ok-Mine.field-0-is at c.in-Ok-Mine.ensures.put in
    let value = rw c.in-Ok-Mine.field-0-is at c.in-Ok-Mine.ensures.value in (
      c.self.invariant.0,
      pass-puts g.J.Run.given c.self.inside.known c.put.new.self c.self.inside.attempts.items c.self.inside.recorded.items c.self.inside.constants
          c.self.inside.constants c.put.ensures.linked c.put.ensures.values (keeps-same c.self.inside.constants.known) c.self.invariant.1
          c.self.inside.thread c.args.linkage c.in-Ok-Mine.recorded.now (made g c) c.push_reserved.new.self.items
          (rw (← c.self.view_is) at c.requires.attempted) put.0 put.1 value (rw (← c.self.view_is) at c.requires.found) (made-is g c)
          (c.push_reserved.ensures.items ∙ ap (λ xs. xs ++ made g c ∷ []) c.reserve.ensures.items),
    )

pub invariant_of-self-in-Ok-Theirs : goal.invariant_of-self-in-Ok-Theirs
invariant_of-self-in-Ok-Theirs g c = (
  c.self.invariant.0,
  rw c.reserve.ensures.items
      (pass-learns g.J.Run.given c.self.inside.known c.put.new.self c.self.inside.attempts.items c.self.inside.recorded.items c.self.inside.constants
      c.self.inside.constants c.put.ensures.linked c.put.ensures.values (keeps-same c.self.inside.constants.known) c.self.invariant.1),
)

pub invariant_of-self-in-Err : goal.invariant_of-self-in-Err
invariant_of-self-in-Err g c = (
  c.self.invariant.0,
  rw c.reserve.ensures.items
      (pass-learns g.J.Run.given c.self.inside.known c.put.new.self c.self.inside.attempts.items c.self.inside.recorded.items c.self.inside.constants
      c.self.inside.constants c.put.ensures.linked c.put.ensures.values (keeps-same c.self.inside.constants.known) c.self.invariant.1),
)

pub returns-in-Ok-Mine-clause-learns : goal.returns-in-Ok-Mine-clause-learns
returns-in-Ok-Mine-clause-learns g c = rw (← c.self.view_is) (record {
  linker = ap (λ cs. record { cells = cs; serials = c.self.inside.seat.tickets }) c.put.ensures.cells;
  thread = refl;
  linked = c.put.ensures.linked;
  attempts = refl;
  seat = refl;
  linkages = c.put.ensures.values;
  constants = refl;
})

pub returns-in-Ok-Mine-clause-types : goal.returns-in-Ok-Mine-clause-types
unfolding made
returns-in-Ok-Mine-clause-types g c known agrees =
    let given = g.J.Run.given in
    let ours = c.args.linkage in
    let put = rw c.in-Ok-Mine.field-0-is at c.in-Ok-Mine.ensures.put in
    let value = rw c.in-Ok-Mine.field-0-is at c.in-Ok-Mine.ensures.value in
    let gives = agrees.found ours.job.site ours (value ∙ ap (λ l. Some l) put.0) in
    let same = linkage-same given known ours.job.site ours c.job-job.ensures.named c.told.ensures gives in
    rw (← c.self.view_is)
    (records-one (under known given) ours (attempt_of c.self.inside.thread ours) c.self.inside.recorded.items
    c.push_reserved.new.self.items c.args.w.now.seat.now c.args.w.now.seat.now refl
    (subst (λ m. HasTypes ours.held (held_by given.leaves m)) same c.types_held.ensures)
    (c.push_reserved.ensures.items ∙ ap₂ (λ xs a. xs ++ a ∷ []) c.reserve.ensures.items (made-is g c)))

pub returns-in-Ok-Theirs-clause-learns : goal.returns-in-Ok-Theirs-clause-learns
returns-in-Ok-Theirs-clause-learns g c = rw (← c.self.view_is) (record {
  linker = ap (λ cs. record { cells = cs; serials = c.self.inside.seat.tickets }) c.put.ensures.cells;
  thread = refl;
  linked = c.put.ensures.linked;
  attempts = refl;
  seat = refl;
  linkages = c.put.ensures.values;
  constants = refl;
})

pub returns-in-Err-clause-learns : goal.returns-in-Err-clause-learns
returns-in-Err-clause-learns g c = rw (← c.self.view_is) (record {
  linker = ap (λ cs. record { cells = cs; serials = c.self.inside.seat.tickets }) c.put.ensures.cells;
  thread = refl;
  linked = c.put.ensures.linked;
  attempts = refl;
  seat = refl;
  linkages = c.put.ensures.values;
  constants = refl;
})

-- ---- what is recorded

pub returns-in-Ok-Mine-clause-recorded : goal.returns-in-Ok-Mine-clause-recorded
unfolding made
returns-in-Ok-Mine-clause-recorded g c =
    let put = rw c.in-Ok-Mine.field-0-is at c.in-Ok-Mine.ensures.put in
    rw (← c.self.view_is)
    (inr (put.0, c.push_reserved.ensures.items ∙ ap₂ (λ xs a. xs ++ a ∷ []) c.reserve.ensures.items (made-is g c)))

pub returns-then-is_err-clause-types : goal.returns-then-is_err-clause-types
returns-then-is_err-clause-types g c known agrees =
    handed-back (under known g.J.Run.given) c.args.linkage c.args.linkage c.args.self.now.recorded c.reserve.new.self.items c.args.w.now.seat.now
    c.give_back.new.w.seat.now (rw (← c.self.view_is) c.reserve.ensures.items) refl c.give_back.ensures.types

pub returns-in-Ok-Theirs-clause-types : goal.returns-in-Ok-Theirs-clause-types
returns-in-Ok-Theirs-clause-types g c known agrees =
    let put = rw c.in-Ok-Theirs.field-0-is at c.in-Ok-Theirs.ensures.put in
    handed-back (under known g.J.Run.given) c.args.linkage c.in-Ok-Theirs.lost c.args.self.now.recorded c.reserve.new.self.items c.args.w.now.seat.now
    c.give_back-in-Ok-Theirs.new.w.seat.now (rw (← c.self.view_is) c.reserve.ensures.items) put.0 c.give_back-in-Ok-Theirs.ensures.types

pub returns-in-Err-clause-types : goal.returns-in-Err-clause-types
returns-in-Err-clause-types g c known agrees =
    handed-back (under known g.J.Run.given) c.args.linkage c.in-Err.lost c.args.self.now.recorded c.reserve.new.self.items c.args.w.now.seat.now
    c.give_back-in-Err.new.w.seat.now (rw (← c.self.view_is) c.reserve.ensures.items) c.in-Err.ensures.put c.give_back-in-Err.ensures.types

-- ---- the seat stays whole

pub returns-then-is_err-clause-seat : goal.returns-then-is_err-clause-seat
returns-then-is_err-clause-seat g c =
    back-whole c.args.linkage.held c.args.w.now.seat.now c.give_back.new.w.seat.now c.give_back.ensures.types

pub returns-then-is_err-clause-room : goal.returns-then-is_err-clause-room
returns-then-is_err-clause-room g c =
    back-few c.args.linkage.held c.args.w.now.seat.now c.give_back.new.w.seat.now c.give_back.ensures.types

pub returns-in-Ok-Theirs-clause-seat : goal.returns-in-Ok-Theirs-clause-seat
returns-in-Ok-Theirs-clause-seat g c =
    back-whole c.in-Ok-Theirs.lost.held c.args.w.now.seat.now c.give_back-in-Ok-Theirs.new.w.seat.now c.give_back-in-Ok-Theirs.ensures.types

pub returns-in-Ok-Theirs-clause-room : goal.returns-in-Ok-Theirs-clause-room
returns-in-Ok-Theirs-clause-room g c =
    back-few c.in-Ok-Theirs.lost.held c.args.w.now.seat.now c.give_back-in-Ok-Theirs.new.w.seat.now c.give_back-in-Ok-Theirs.ensures.types

pub returns-in-Err-clause-seat : goal.returns-in-Err-clause-seat
returns-in-Err-clause-seat g c =
    back-whole c.in-Err.lost.held c.args.w.now.seat.now c.give_back-in-Err.new.w.seat.now c.give_back-in-Err.ensures.types

pub returns-in-Err-clause-room : goal.returns-in-Err-clause-room
returns-in-Err-clause-room g c =
    back-few c.in-Err.lost.held c.args.w.now.seat.now c.give_back-in-Err.new.w.seat.now c.give_back-in-Err.ensures.types

pub returns-in-Ok-Mine-clause-seat : goal.returns-in-Ok-Mine-clause-seat
returns-in-Ok-Mine-clause-seat g c = still-whole c.args.w.now.seat.now

-- ---- the seat is asked for nothing

pub returns-then-is_err-clause-asked : goal.returns-then-is_err-clause-asked
returns-then-is_err-clause-asked g c = c.give_back.ensures.types.asked

pub returns-in-Ok-Theirs-clause-asked : goal.returns-in-Ok-Theirs-clause-asked
returns-in-Ok-Theirs-clause-asked g c = c.give_back-in-Ok-Theirs.ensures.types.asked

pub returns-in-Err-clause-asked : goal.returns-in-Err-clause-asked
returns-in-Err-clause-asked g c = c.give_back-in-Err.ensures.types.asked

pub returns-in-Ok-Mine-clause-asked : goal.returns-in-Ok-Mine-clause-asked
returns-in-Ok-Mine-clause-asked g c = asks-same c.args.w.now.seat.now c.args.w.now.seat.now refl
