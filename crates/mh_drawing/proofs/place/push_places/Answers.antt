use Rattle.std.proofs.Common.{◌<◌, length, arith}
use Rattle.mh_drawing.proofs.PlacesMore.{places-more}
use Rattle.mh_drawing.proofs.place.push_places.Goals as goal

pub loop-k-preserved : goal.loop-k-preserved
loop-k-preserved c =
    let within : c.loop-k.k < length c.args.view.now.sites = omega arith in
    places-more c.args.name.now c.args.view.now.sites c.loop-k.k c.site-site.result c.in_ok-place_of.field-0 _ _ _ within c.site-site.ensures
    c.in_ok-place_of.ensures c.loop-k.invariant c.in_ok-push.ensures.ok
