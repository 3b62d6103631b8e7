use Rattle.mh_runtime.proofs.sites.SiteSerials.{keeps-serials}
use Rattle.mh_runtime.proofs.known_sites.KnownSites.join.Goals as goal

pub returns-clause-mine : goal.returns-clause-mine
returns-clause-mine g c = rw (← c.self.view_is) (keeps-serials c.self.inside.known c.join.new.self c.join.ensures.mine)

pub returns-clause-theirs : goal.returns-clause-theirs
returns-clause-theirs g c = rw (← c.other.view_is) (keeps-serials c.other.inside.known c.join.new.self c.join.ensures.theirs)

pub returns-clause-my_values : goal.returns-clause-my_values
returns-clause-my_values g c = rw (← c.self.view_is) c.join.ensures.mine

pub returns-clause-their_values : goal.returns-clause-their_values
returns-clause-their_values g c = rw (← c.other.view_is) c.join.ensures.theirs

pub returns-clause-only : goal.returns-clause-only
returns-clause-only g c = rw (← c.self.view_is, ← c.other.view_is) c.join.ensures.only
