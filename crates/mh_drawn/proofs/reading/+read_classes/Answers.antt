use Rattle.mh_words.specs.Options.{said}
use Rattle.mh_drawn.proofs.ReadOn.{adds-on, stops-on}
use Rattle.mh_drawn.proofs.reading.+read_classes.Goals as goal

pub returns-clause-ok : goal.returns-clause-ok
returns-clause-ok g t c =
    rw c.in-Some.ensures.cases.0
    (adds-on c.args.methods.now.leaves.now c.args.methods.now.scripts.now c.in-Some.name.now.now (said c.in-Some.others.now)
    (g.I.Inputs.contents c.args.inputs.now) (g.I.Inputs.contents c.read_class.new.inputs) c.args.sites c.in_ok-sites.sites
    c.in_ok-sites.ensures.contents c.in_ok-sites.ensures.ok c.read_classes.result c.read_classes.ensures.ok)

pub returns-clause-stop : goal.returns-clause-stop
returns-clause-stop g t c =
    rw c.in-Some.ensures.cases.0
    (stops-on c.args.methods.now.leaves.now c.args.methods.now.scripts.now c.in-Some.name.now.now (said c.in-Some.others.now)
    (g.I.Inputs.contents c.args.inputs.now) (g.I.Inputs.contents c.read_class.new.inputs) c.args.sites c.in_ok-sites.sites
    c.in_ok-sites.ensures.contents c.in_ok-sites.ensures.ok (g.I.Inputs.faults c.args.inputs.now) (g.I.Inputs.faults c.read_class.new.inputs)
    (g.I.Inputs.faults c.read_classes.new.inputs) c.read_classes.result c.in_ok-sites.ensures.no_fault c.read_classes.ensures.stop)
