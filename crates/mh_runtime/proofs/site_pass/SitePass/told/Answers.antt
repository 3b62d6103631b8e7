use Rattle.std.proofs.Common.{◌≡◌, refl, subst, map}
use Rattle.std.specs.Prelude.{All, option_map}
use Rattle.mh_runtime.specs.Passes.{HasFoundKnown, LinkPass, serial_of}
use Rattle.mh_runtime.proofs.site_pass.SitePass.told.Goals as goal

pub returns-clause-found : goal.returns-clause-found
returns-clause-found g c = subst (λ (p : LinkPass). All (HasFoundKnown p.constants.known p.linkages) p.recorded) c.self.view_is c.self.invariant.1.found_are

pub returns-clause-linked : goal.returns-clause-linked
returns-clause-linked g c = subst (λ (p : LinkPass). p.linked ≡ map (option_map serial_of) p.linkages) c.self.view_is refl
