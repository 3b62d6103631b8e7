use Rattle.mh_drawn.proofs.MoreSites.{more_sites}
use Rattle.mh_drawn.proofs.reading.with_class.Goals as goal

pub returns-clause-sites : goal.returns-clause-sites
returns-clause-sites c =
    more_sites c.args.methods.now.leaves.now c.args.methods.now.scripts.now c.args.name.now c.args.view.now c.args.sites
    (record { jobs = c.push_class.new.jobs; places = c.push_places.new.places })
    c.in_ok-push_class.ensures.more c.in_ok-push_places.ensures c.requires.sites c.requires.few c.requires.dynamics
