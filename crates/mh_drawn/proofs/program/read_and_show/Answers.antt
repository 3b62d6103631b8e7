use Rattle.std.proofs.Common.{inr}
use Rattle.std.proofs.lemmas.Result.{IfErr-weaker, IfOk-weaker}
use Rattle.mh_words.specs.Words.{held_names}
use Rattle.mh_drawn.specs.Answer.{IsShown, ShowsRead, StopsRequest, StopsShowing}
use Rattle.mh_drawn.specs.Reading.{given_by}
use Rattle.mh_drawn.specs.Words.{held_asked}
use Rattle.mh_drawn.proofs.OfClasses.{are-constants}
use Rattle.mh_drawn.proofs.program.read_and_show.Goals as goal

pub show-requires-clause-constants : goal.show-requires-clause-constants
show-requires-clause-constants g c =
    let given = c.in_ok-given.given in
    are-constants given.leaves given.scripts given.sites.jobs c.in_ok-given.ensures.sites.3

pub returns-clause-text : goal.returns-clause-text
returns-clause-text g c =
    let given = c.in_ok-given.given in
    IfOk-weaker c.show.result (λ text. IsShown (given_by given) given.sites.places (held_asked c.args.asked) text.items)
    (λ text. ShowsRead (held_asked c.args.asked) (held_names c.args.names.now) (g.I.Inputs.contents c.args.inputs.now) text.items)
    (λ text shown. (given, c.in_ok-given.ensures.ok, shown)) c.show.ensures.text

pub returns-clause-stop : goal.returns-clause-stop
returns-clause-stop g c =
    let given = c.in_ok-given.given in
    IfErr-weaker c.show.result (StopsShowing (given_by given) (held_asked c.args.asked))
    (StopsRequest (held_asked c.args.asked) (held_names c.args.names.now) (g.I.Inputs.contents c.args.inputs.now)
    (g.I.Inputs.faults c.args.inputs.now) (g.I.Inputs.faults c.read_given.new.inputs))
    (λ stop stops. inr (given, c.in_ok-given.ensures.ok, stops)) c.show.ensures.stop
