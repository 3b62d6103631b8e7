use Rattle.std.proofs.Common.{◌≡◌, take}
use Rattle.mh_drawing.specs.Drawing.{targets_of}
use Rattle.mh_drawing.proofs.drawing.targets_of.Given as goal

abbrev pub invariant-loop-site : goal.invariant-loop-site
invariant-loop-site l = l.targets.items ≡ targets_of (take l.site-index l.sites)
