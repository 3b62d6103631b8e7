use Rattle.std.proofs.Common.{◌≡◌, sym, ◌∙◌, ap, subst, length, map}
use Rattle.mh_jobs.specs.Given.{Found, under}
use Rattle.mh_drawn.specs.Answer.{AreThere, IsTextOf, asked_text}
use Rattle.mh_drawn.specs.Linked.{AreAnswered, AreLinkages}
use Rattle.mh_drawn.specs.Words.{held_asked}
use Rattle.mh_drawn.proofs.Shown.{all-lack-stops, both-ok}
use Rattle.mh_drawn.proofs.show.text_of.Goals as goal

pub returns-clause-text : goal.returns-clause-text
returns-clause-text g c =
    let asked = held_asked c.args.asked in
    let sites = c.in_ok-sites.sites in
    let classes = g.J.Run.given.leaves.classes in
    let forms = map (λ form. form.now) c.args.forms.now in
    let places = c.args.given.now.sites.places in
    both-ok c.asked_text.result (λ text. text.items ≡ asked_text c.classes.result.now c.deref.result.now c.as_slice-2.result.now asked)
    (λ _. AreThere c.as_slice-2.result.now asked)
    (λ text. (known : Found) → AreLinkages known (length places) c.args.linkages.now →
    IsTextOf (under known g.J.Run.given) places forms asked text.items)
    (λ text is there known are. (
      sites,
      subst (λ ps. AreAnswered (under known g.J.Run.given) ps sites) c.as_slice.ensures
          (c.in_ok-sites.ensures.answered known (subst (λ ps. AreLinkages known (length ps) c.args.linkages.now) (sym c.as_slice.ensures) are)),
      subst (λ all. AreThere all asked) c.as_slice-2.ensures there,
      is
          ∙ ap (λ cs. asked_text cs c.deref.result.now c.as_slice-2.result.now asked) (c.classes.ensures ∙ ap (λ leaves. leaves.classes) c.requires.given.0)
          ∙ ap (λ fs. asked_text classes fs c.as_slice-2.result.now asked) (c.deref.ensures.value ∙ c.in_ok-forms.ensures)
          ∙ ap (λ all. asked_text classes forms all asked) c.as_slice-2.ensures,
    )) c.asked_text.ensures.text c.asked_text.ensures.there

pub returns-clause-stop : goal.returns-clause-stop
returns-clause-stop g c =
    all-lack-stops g.J.Run.given (held_asked c.args.asked) (length c.as_slice-2.result.now) c.asked_text.result
    (ap length c.as_slice-2.ensures ∙ c.in_ok-sites.ensures.each ∙ ap length c.as_slice.ensures ∙ c.requires.each) c.asked_text.ensures.stop
