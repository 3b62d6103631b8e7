use Rattle.std.proofs.Common.{◌<◌, length, arith}
use Rattle.mh_made_class.specs.Sites.{IsMakeableSite, site_width}
use Rattle.mh_made_class.proofs.Placing.{sites_next, sites_end, all_split, sum_split}
use Rattle.mh_made_class.proofs.layout.place.Goals as goal

pub loop-number-preserved : goal.loop-number-preserved
loop-number-preserved c =
    let sites = c.args.sites.now in
    let i = c.loop-number.number in
    let site = c.index-sites-number.result in
    let within : i < length sites = c.loop-number-test.true in
    let so_far = c.loop-number.invariant in
    record {
      put = sites_next c.loop-number.next c.width-next.result sites i site _ _ _ within c.index-sites-number.is c.width-next.ensures c.in_ok-push.ensures.items
          so_far.put;
      makeable = (all_split IsMakeableSite sites i site within c.index-sites-number.is so_far.makeable).1;
      fits = omega (arith, so_far.fits, c.width-next.ensures, sum_split site_width sites i site within c.index-sites-number.is);
      some = omega (arith, so_far.some, c.width-next.ensures);
      len = omega (arith, so_far.len, c.in_ok-push.ensures.len);
    }

pub returns-clause-sites : goal.returns-clause-sites
returns-clause-sites c = sites_end c.loop-number.next c.args.sites.now c.loop-number.number _ _ c.loop-number-test.false c.loop-number.invariant.put
