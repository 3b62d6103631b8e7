use Rattle.std.proofs.Common.{◌+◌, ◌%◌, ap, ◌∙◌}
use Rattle.mh_form.proofs.Counts.{count-cast}
use Rattle.mh_form.proofs.slots.raised.Goals as goal

pub returns : goal.returns
returns c =
    ap (λ v. (c.args.n + v % 4294967296) % 4294967296) c.len.ensures
    ∙ count-cast c.args.n c.args.calls.now c.ranges.n.fits
