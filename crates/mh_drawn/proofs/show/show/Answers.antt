use Rattle.std.proofs.Common.{sym, ◌∙◌, ap, subst, length}
use Rattle.std.proofs.lemmas.Result.{IfOk-weaker}
use Rattle.std.specs.Prelude.{IfOk}
use Rattle.mh_jobs.specs.Given.{Found, under}
use Rattle.mh_link.specs.Constants.{values_of}
use Rattle.mh_link.specs.Named.{run_of}
use Rattle.mh_drawn.specs.Answer.{IsShown, IsTextOf, StopsShowing}
use Rattle.mh_drawn.specs.Linked.{AreLinkages}
use Rattle.mh_drawn.specs.Words.{held_asked}
use Rattle.mh_drawn.proofs.ReadOn.{handed}
use Rattle.mh_drawn.proofs.show.show.Goals as goal

pub text_of-requires-clause-linkages : goal.text_of-requires-clause-linkages
text_of-requires-clause-linkages g c = ap length c.as_slice.ensures ∙ c.in_ok-linkages.ensures.linked.each.0 ∙ sym c.requires.each

pub returns-clause-text : goal.returns-clause-text
returns-clause-text g c =
    let given = g.J.Run.given in
    let pass = c.link.new.seats.forms in
    let places = c.args.given.now.sites.places in
    let asked = held_asked c.args.asked in
    let linked = c.in_ok-linkages.ensures.linked in
    let values = values_of (run_of given) linked.table in
    let are = subst (λ count. AreLinkages values count c.as_slice.result.now) (sym c.requires.each)
    (subst (AreLinkages values (length given.jobs)) (sym c.as_slice.ensures) linked.each) in
    IfOk-weaker c.text_of.result
    (λ text. (known : Found) → AreLinkages known (length places) c.as_slice.result.now → IsTextOf (under known given) places pass.asked asked text.items)
    (λ text. IsShown given places asked text.items)
    (λ text each. let is = each values are in record {
      table = linked.table;
      numbered = linked.numbered;
      pass = pass;
      sites = is.0;
      answered = is.1;
      has_asked = linked.asked;
      there = is.2;
      text_is = is.3;
    }) (subst (λ forms. IfOk c.text_of.result (λ text. (known : Found) → AreLinkages known (length places) c.as_slice.result.now →
    IsTextOf (under known given) places forms asked text.items)) c.asked.ensures c.text_of.ensures.text)

pub returns-in_err-linkages-clause-stop : goal.returns-in_err-linkages-clause-stop
returns-in_err-linkages-clause-stop g c =
    let stop = c.in_err-linkages.field-0.0 in
    handed c.from_residual-in_err-linkages.result stop (StopsShowing g.J.Run.given (held_asked c.args.asked)) c.from_residual-in_err-linkages.ensures.1
    (c.in_err-linkages.ensures.stop (held_asked c.args.asked))
