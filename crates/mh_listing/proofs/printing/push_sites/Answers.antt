use Rattle.std.proofs.Common.{◌<◌, length, arith}
use Rattle.mh_listing.proofs.Lines.{lines_from-more}
use Rattle.mh_listing.proofs.printing.push_sites.Goals as goal

pub loop-k-preserved : goal.loop-k-preserved
loop-k-preserved c =
    let within : c.loop-k.k < length c.args.view.now.sites = omega arith in
    lines_from-more c.args.first c.loop-k.k c.args.view.now c.args.view.now.sites c.site-site.result _ _ _ within c.site-site.ensures c.in_ok-push_site.ensures
    c.loop-k.invariant
