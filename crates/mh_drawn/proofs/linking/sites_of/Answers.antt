use Rattle.std.proofs.Common.{◌≡◌, refl, ◌∙◌, ap₂, subst, ◌<◌, length, arith}
use Rattle.std.proofs.lemmas.Option.{slice_get_read}
use Rattle.mh_jobs.specs.Given.{under}
use Rattle.mh_link.specs.Sites.{linked_at}
use Rattle.mh_attempt.specs.Linkage.{IsLinkedBy, LinkageView}
use Rattle.mh_drawn.specs.Linked.{IsLinkageOf}
use Rattle.mh_drawn.proofs.Answered.{longer, more-answered}
use Rattle.mh_drawn.proofs.Values.{linkage-same}
use Rattle.mh_drawn.proofs.linking.sites_of.Goals as goal

pub loop-number-preserved : goal.loop-number-preserved
loop-number-preserved g c =
    let given = g.J.Run.given in
    let places = c.args.places.now in
    let linkages = c.args.linkages.now in
    let number = c.loop-number.number in
    let l : LinkageView = c.index-linkages-number.result in
    let within : number < length places = omega (arith, c.loop-number-test.true) in
    let there : number < length linkages = omega (arith, within, c.requires.each) in
    record {
      each = longer number c.loop-number.sites _ _ c.loop-number.invariant.each c.in_ok-push.ensures.ok;
      answered = λ known are.
          let is : IsLinkageOf known number l =
          are.1 number l (slice_get_read linkages (length linkages) number _ refl there c.index-linkages-number.is) in
          more-answered (under known given) places number c.loop-number.sites _ _ (c.loop-number.invariant.answered known are) (record {
            number_is = refl;
            place_is = slice_get_read places (length places) number c.index-places-number.result refl within c.index-places-number.is;
            serial_is = c.serial.ensures ∙ is.serial;
            right = subst (IsLinkedBy given.leaves c.linked.result.now)
                (linkage-same given known l.job.site l c.job-job.ensures.named c.told.ensures is.found
                ∙ ap₂ (linked_at (under known given)) is.site is.serial)
                c.linked.ensures;
          }) c.in_ok-push.ensures.ok;
    }

pub returns-clause-answered : goal.returns-clause-answered
returns-clause-answered g c known are =
    let inv = c.loop-number.invariant.answered known are in
    let all : c.loop-number.number ≡ length c.args.places.now = omega (arith, c.loop-number-test.false, c.loop-number.auto.number-end) in
    (inv.0 ∙ all, inv.1)
