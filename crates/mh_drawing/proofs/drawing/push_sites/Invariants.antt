use Rattle.std.proofs.Common.{◌≡◌, ◌++◌, flat_map, take}
use Rattle.mh_drawing.specs.Drawing.{site_text}
use Rattle.mh_drawing.proofs.drawing.push_sites.Given as goal

abbrev pub invariant-loop-site : goal.invariant-loop-site
invariant-loop-site l = l.text.items ≡ l.initial.text.items ++ flat_map (site_text l.classes l.forms) (take l.site-index l.sites)
