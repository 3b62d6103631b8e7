use Rattle.std.proofs.Common.{◌≡◌, sym, subst, Some, arith}
use Rattle.std.specs.Prelude.{slice_get}
use Rattle.mh_handle.specs.Recipe.{recipe}
use Rattle.mh_link.specs.Sites.{edits_at, types_at}
use Rattle.mh_attempt.specs.Asked.{Asks}
use Rattle.mh_attempt.specs.AskedTypes.{AsksTypes}
use Rattle.mh_attempt.specs.Constants.{given_in}
use Rattle.mh_drawn.specs.Linked.{serial_of}
use Rattle.mh_drawn.proofs.Attempts.{is-ready, linkage-of, linked-more, still-lent, still-of, stopped}
use Rattle.mh_drawn.proofs.linking.link_site.Goals as goal

pub attempt-requires-clause-named : goal.attempt-requires-clause-named
attempt-requires-clause-named g c =
    subst (λ n. slice_get g.J.Run.given.jobs n ≡ Some c.get.result.now) (sym c.get.ensures.site)
    (subst (λ js. slice_get js c.args.number ≡ Some c.get.result.now) c.requires.given.2 c.get.ensures.job)

pub attempt-requires-clause-scripts : goal.attempt-requires-clause-scripts
attempt-requires-clause-scripts g c = c.requires.given.1

pub attempt-requires-clause-leaves : goal.attempt-requires-clause-leaves
attempt-requires-clause-leaves g c = c.requires.of.leaves

pub attempt-requires-clause-job : goal.attempt-requires-clause-job
attempt-requires-clause-job g c =
    c.requires.are_jobs c.args.number c.get.result.now
    (subst (λ js. slice_get js c.args.number ≡ Some c.get.result.now) c.requires.given.2 c.get.ensures.job)

pub attempt-requires-clause-places : goal.attempt-requires-clause-places
attempt-requires-clause-places g c =
    c.requires.constants.named c.args.number c.get.result.now
    (subst (λ js. slice_get js c.args.number ≡ Some c.get.result.now) c.requires.given.2 c.get.ensures.job)

pub attempt-requires-clause-ready : goal.attempt-requires-clause-ready
attempt-requires-clause-ready g c =
    is-ready g.J.Run.given c.args.number c.args.w.now c.args.asked.now (omega (arith, c.requires.site, c.requires.few)) c.requires.of c.requires.linked

pub attempt-requires-clause-room : goal.attempt-requires-clause-room
attempt-requires-clause-room g c = c.requires.linked.serials

pub returns-clause-of : goal.returns-clause-of
returns-clause-of g c =
    still-of g.J.Run.given c.args.number c.get.result.now
    (subst (λ js. slice_get js c.args.number ≡ Some c.get.result.now) c.requires.given.2 c.get.ensures.job) c.args.asked.now c.attempt.new.asked
    c.args.w.now c.attempt.new.w c.requires.of c.requires.linked c.attempt.ensures.goes_on c.attempt.ensures.resolving

pub returns-clause-lent : goal.returns-clause-lent
returns-clause-lent g c =
    still-lent g.J.Run.given c.args.number c.get.result.now
    (subst (λ js. slice_get js c.args.number ≡ Some c.get.result.now) c.requires.given.2 c.get.ensures.job) c.args.asked.now c.attempt.new.asked
    c.args.w.now c.attempt.new.w c.requires.of c.requires.linked c.attempt.ensures.goes_on c.attempt.ensures.resolving

pub returns-clause-table : goal.returns-clause-table
returns-clause-table g c = c.attempt.ensures.resolving.table

pub returns-clause-keeps : goal.returns-clause-keeps
returns-clause-keeps g c = c.attempt.ensures.resolving.known

pub returns-clause-linked : goal.returns-clause-linked
returns-clause-linked g c =
    let given = g.J.Run.given in
    let q = c.attempt.new.asked in
    linked-more given c.args.number c.get.result.now
    (subst (λ js. slice_get js c.args.number ≡ Some c.get.result.now) c.requires.given.2 c.get.ensures.job) c.args.asked.now q
    c.args.w.now c.attempt.new.w c.requires.of c.requires.linked c.attempt.ensures.goes_on c.attempt.ensures.resolving c.attempt.result
    c.attempt.ensures.types c.attempt.ensures.before c.attempt.ensures.room_left
    (subst (λ n. Asks (edits_at (recipe given.leaves) (given_in q given) n (serial_of c.args.number)) c.args.w.now c.attempt.new.w c.attempt.result)
    c.get.ensures.site c.attempt.ensures.asks)
    (subst (λ n. AsksTypes (types_at (given_in q given) n (serial_of c.args.number)) c.args.w.now c.attempt.new.w c.attempt.result) c.get.ensures.site
    c.attempt.ensures.asked)

pub returns-clause-site : goal.returns-clause-site
returns-clause-site g c =
    linkage-of g.J.Run.given c.args.number c.get.result.now
    (subst (λ js. slice_get js c.args.number ≡ Some c.get.result.now) c.requires.given.2 c.get.ensures.job) c.args.asked.now c.attempt.new.asked
    c.args.w.now c.attempt.new.w c.requires.of c.requires.linked c.attempt.ensures.goes_on c.attempt.ensures.resolving c.attempt.result
    c.attempt.ensures.of c.attempt.ensures.constants c.get.ensures.site

pub returns-clause-stopped : goal.returns-clause-stopped
returns-clause-stopped g c =
    let given = g.J.Run.given in
    let q = c.attempt.new.asked in
    stopped given c.args.number c.get.result.now
    (subst (λ js. slice_get js c.args.number ≡ Some c.get.result.now) c.requires.given.2 c.get.ensures.job) c.args.asked.now q
    c.args.w.now c.attempt.new.w c.requires.of c.requires.linked c.attempt.ensures.goes_on c.attempt.ensures.resolving c.attempt.result
    c.attempt.ensures.types c.attempt.ensures.before
    (subst (λ n. Asks (edits_at (recipe given.leaves) (given_in q given) n (serial_of c.args.number)) c.args.w.now c.attempt.new.w c.attempt.result)
    c.get.ensures.site c.attempt.ensures.asks)
    (subst (λ n. AsksTypes (types_at (given_in q given) n (serial_of c.args.number)) c.args.w.now c.attempt.new.w c.attempt.result) c.get.ensures.site
    c.attempt.ensures.asked)
