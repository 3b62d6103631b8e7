use Rattle.std.proofs.Common.{◌≡◌, sym, ◌∙◌, ap₂, subst, List, [], ◌∷◌, ◌++◌, Option, ℕ, ◌<◌, length, Some, arith, rules}
use Rattle.std.specs.Prelude.{option_map}
use Rattle.std.proofs.lemmas.Option.{slice_get_read}
use Rattle.mh_jobs.specs.Given.{Given, under}
use Rattle.mh_report.specs.declared.table.Recorded.{Recorded}
use Rattle.mh_report.specs.Recorded.{recorded_at}
use Rattle.mh_report.specs.Results.{Serials, serial_at}
use Rattle.mh_runtime.proofs.ledger.RecordedSites.{entry-within, owned-more, recorded-more}
use Rattle.mh_runtime.proofs.recording.table.Goals as goal

pub loop-site-preserved : goal.loop-site-preserved
loop-site-preserved g c =
    let linked : Serials = c.args.pass.now.linked in
    let number : c.in_ok-number.number ≡ c.loop-site.site = search rules in
    let inside : c.loop-site.site < length g.J.Run.given.jobs = omega (arith, c.sites-site-end.ensures.sites, c.loop-site-test.true) in
    let within : c.loop-site.site < length linked = omega (arith, inside, c.sites-site-end.ensures.linked) in
    record {
      table = λ known agrees.
          let given : Given = under known g.J.Run.given in
          c.in_ok-push.ensures.ok
          ∙ (ap₂ (λ (table : List (Option Recorded)) entry. table ++ entry ∷ []) (c.loop-site.invariant.table known agrees)
          (subst (λ k. c.in_ok-recorded_site.field-0 ≡ option_map (recorded_at given k) (serial_at linked k)) number
          (c.in_ok-recorded_site.ensures.entry known agrees))
          ∙ sym (recorded-more given linked c.loop-site.site within));
      own = owned-more c.args.pass.now linked c.in_ok-owners.owners.items c.loop-site.site c.index.result.now c.in_ok-owners.ensures.own
          (slice_get_read c.in_ok-owners.owners.items (length g.J.Run.given.jobs) c.loop-site.site c.index.result.now (sym c.in_ok-owners.ensures.count) inside
          c.index.ensures)
          (subst (λ k. (serial : ℕ) → serial_at linked k ≡ Some serial → c.index.result.now ≡ Some serial) number c.in_ok-recorded_site.ensures.own)
          c.loop-site.invariant.own;
    }

pub returns-clause-own : goal.returns-clause-own
returns-clause-own g c site serial is =
    let within : site < length c.args.pass.now.linked = entry-within c.args.pass.now.linked site serial is in
    c.loop-site.invariant.own site serial (omega (arith, within, c.sites-site-end.ensures.linked, c.sites-site-end.ensures.sites, c.loop-site-test.false)) is
