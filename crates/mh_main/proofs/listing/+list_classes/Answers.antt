use Rattle.std.proofs.Common.{◌-◌, length}
use Rattle.mh_runtime.specs.Passes.{most_sites}
use Rattle.mh_words.specs.Options.{said}
use Rattle.mh_main.proofs.ClassListing.{listed-all, sites-left}
use Rattle.mh_main.proofs.Reaching.{others-among, others-stop}
use Rattle.mh_main.proofs.listing.+list_classes.Goals as goal

pub returns-clause-ok : goal.returns-clause-ok
returns-clause-ok g t c =
    rw c.in-Some.ensures.cases.0
    (listed-all c.list_classes.result c.args.first c.in_ok-next.next c.in-Some.name.now.now (said c.in-Some.others.now)
    (g.I.Inputs.contents c.args.inputs.now) (g.I.Inputs.contents c.list_class.new.inputs)
    c.args.text.now.items c.list_class.new.text.items c.list_classes.new.text.items
    c.in_ok-next.ensures.keeps.contents c.in_ok-next.ensures.ok c.list_classes.ensures.ok)

pub returns-clause-refuses : goal.returns-clause-refuses
returns-clause-refuses g t c =
    let listed = c.in_ok-next.ensures.ok in
    rw c.in-Some.ensures.cases.0
    (others-stop c.list_classes.result (most_sites - c.args.first) (most_sites - c.in_ok-next.next)
    c.in-Some.name.now.now (said c.in-Some.others.now) (g.I.Inputs.contents c.args.inputs.now) (g.I.Inputs.contents c.list_class.new.inputs) listed.0
    c.in_ok-next.ensures.keeps.contents listed.1 (sites-left c.args.first c.in_ok-next.next (length listed.0.sites) listed.2) c.list_classes.ensures.refuses)

pub returns-clause-stop : goal.returns-clause-stop
returns-clause-stop g t c =
    let listed = c.in_ok-next.ensures.ok in
    rw c.in-Some.ensures.cases.0
    (others-among c.list_classes.result (most_sites - c.args.first) (most_sites - c.in_ok-next.next)
    c.in-Some.name.now.now (said c.in-Some.others.now) (g.I.Inputs.contents c.args.inputs.now) (g.I.Inputs.contents c.list_class.new.inputs)
    (g.I.Inputs.faults c.args.inputs.now) (g.I.Inputs.faults c.list_class.new.inputs) (g.I.Inputs.faults c.list_classes.new.inputs) listed.0
    c.in_ok-next.ensures.keeps.contents c.in_ok-next.ensures.no_fault listed.1
    (sites-left c.args.first c.in_ok-next.next (length listed.0.sites) listed.2) c.list_classes.ensures.stop)
