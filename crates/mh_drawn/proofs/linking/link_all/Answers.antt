use Rattle.std.proofs.Common.{◌∙◌}
use Rattle.mh_drawn.proofs.Answered.{more-linkages}
use Rattle.mh_drawn.proofs.Attempts.{lent_both}
use Rattle.mh_drawn.proofs.linking.link_all.Goals as goal

pub loop-number-preserved : goal.loop-number-preserved
loop-number-preserved g c =
    let one = c.in_ok-link_site.ensures in
    record {
      of = one.of;
      lent = lent_both _ _ _ c.loop-number.invariant.lent one.lent;
      table = one.table ∙ c.loop-number.invariant.table;
      linked = one.linked;
      linkages = more-linkages c.loop-number.asked.known c.link_site.new.asked.known c.loop-number.number c.loop-number.linkages _ c.in_ok-link_site.field-0
          one.keeps c.loop-number.invariant.linkages one.site c.in_ok-push.ensures.ok;
    }
